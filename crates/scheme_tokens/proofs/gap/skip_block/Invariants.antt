use Rattle.std.proofs.Common.{◌≡◌, ◌≤◌, ◌+◌, List, ℕ, length}
use Rattle.std.specs.Str.{chars}
use denote.Text.{Utf8}
use denote.Shadow.{shadow}
use Rattle.scheme_tokens.specs.Mirror.Gaps.{block, behind_gap}
use Rattle.scheme_tokens.proofs.gap.skip_block.Given as goal

abbrev pub invariant-loop-c : goal.invariant-loop-c
invariant-loop-c l = record {
  utf8 : shadow (Utf8 l.rest);
  within : l.outer + length l.rest ≤ length l.text;
  goes : (start : List ℕ) → behind_gap (block start l.outer) (chars l.rest) ≡ behind_gap (block start 0) (chars l.text);
}

abbrev pub decreases-loop-c : goal.decreases-loop-c
decreases-loop-c l = length l.rest
