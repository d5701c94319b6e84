use Rattle.std.proofs.Common.{◌≡◌, ℕ, ◌<◌, length, false}
use Rattle.scheme_model.specs.Includes.{Naming, is_among, named_by}
use Rattle.text_parts.specs.Marks.{Rows}
use Rattle.text_parts.proofs.parts.is_named.Given as goal

abbrev pub invariant-loop-row : goal.invariant-loop-row
invariant-loop-row l = (all : Naming) → Rows l.rows all → l.place < length all → (n : ℕ) → n < l.row-index → is_among (named_by all n) l.place ≡ false
