use Rattle.std.proofs.Common.{◌≡◌, ◌≤◌, ℕ, length}
use Rattle.std.specs.Str.{chars}
use Rattle.std.specs.String.{string_bytes}
use denote.Text.{Utf8}
use denote.Shadow.{shadow}
use Rattle.scheme_tokens.specs.Mirror.Quoted.{elements, quoted}
use Rattle.scheme_tokens.proofs.QuotedLaws.{onto}
use Rattle.scheme_tokens.proofs.quoted.quoted.Given as goal

abbrev pub invariant-loop-c : goal.invariant-loop-c
invariant-loop-c l = record {
  utf8 : shadow (Utf8 l.rest);
  within : length l.rest ≤ length l.text;
  goes : (most : ℕ) × (length l.rest ≤ most) × (onto (chars (string_bytes l.value)) (elements most l.close (chars l.rest)) ≡ quoted l.close (chars l.text));
}

abbrev pub decreases-loop-c : goal.decreases-loop-c
decreases-loop-c l = length l.rest
