use Rattle.std.proofs.Common.{◌≡◌, ◌++◌, [], ◌∷◌, length}
use Rattle.std.specs.List.{flat_map}
use denote.Text.{Utf8}
use denote.Shadow.{shadow}
use Rattle.std.specs.Str.{chars}
use Rattle.std.specs.String.{string_bytes}
use Rattle.scheme_tokens.specs.Spelling.{in_bars, barred}
use Rattle.scheme_tokens.proofs.name.barred.Given as goal

abbrev pub invariant-loop-c : goal.invariant-loop-c
invariant-loop-c l = record {
  utf8 : shadow (Utf8 l.rest);
  goes : chars (string_bytes l.out) ++ (flat_map in_bars (chars l.rest) ++ 124 ∷ []) ≡ barred (chars l.name);
}

abbrev pub decreases-loop-c : goal.decreases-loop-c
decreases-loop-c l = length l.rest
