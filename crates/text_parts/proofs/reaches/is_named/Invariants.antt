use Rattle.std.proofs.Common.{◌≡◌, ℕ, ◌<◌, List, length, true}
use Rattle.scheme_model.specs.Includes.{Naming, is_among, named_by}
use Rattle.text_parts.specs.Marks.{Marks, Rows}
use Rattle.text_parts.proofs.reaches.is_named.Given as goal

abbrev pub invariant-loop-document : goal.invariant-loop-document
invariant-loop-document l = (all : Naming) (ns : List ℕ) → Rows l.rows all → Marks l.marks (length all) ns → l.place < length all →
    (n : ℕ) → n < l.document → is_among ns n ≡ true → is_among (named_by all n) l.place ≡ true → ⊥
