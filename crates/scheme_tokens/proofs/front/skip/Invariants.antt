use Rattle.std.proofs.Common.{◌≡◌, ◌-◌, ◌≤◌, length, drop}
use Rattle.std.specs.Str.{chars}
use denote.Text.{Utf8}
use denote.Shadow.{shadow}
use Rattle.scheme_tokens.specs.Mirror.Words.{behind}
use Rattle.scheme_tokens.specs.Mirror.Told.{test_of}
use Rattle.scheme_tokens.proofs.front.skip.Given as goal

abbrev pub invariant-loop-c : goal.invariant-loop-c
invariant-loop-c l = record {
  utf8 : shadow (Utf8 l.rest);
  within : length l.rest ≤ length l.text;
  place : l.rest ≡ drop (length l.text - length l.rest) l.text;
  goes : behind (test_of l.class) (chars l.rest) ≡ behind (test_of l.class) (chars l.text);
}

abbrev pub decreases-loop-c : goal.decreases-loop-c
decreases-loop-c l = length l.rest
