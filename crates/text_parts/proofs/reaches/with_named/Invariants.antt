use Rattle.std.proofs.Common.{◌≡◌, ℕ, ◌<◌, List, length}
use Rattle.scheme_model.specs.Includes.{Naming, is_among, with_named}
use Rattle.text_parts.specs.Marks.{Marks, Rows, marked}
use Rattle.text_parts.proofs.reaches.with_named.Given as goal

abbrev pub invariant-loop-place : goal.invariant-loop-place
invariant-loop-place l = (length l.more.items ≡ l.place) × ((all : Naming) (ns : List ℕ) → Rows l.rows all → Marks l.marks (length all) ns →
    (k : ℕ) → k < l.place → marked l.more.items k ≡ is_among (with_named all 0 all ns) k)
