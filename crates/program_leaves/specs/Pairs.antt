-- Pairs of a binder and a use, and occurrences, in their order and each once.
use Rattle.std.specs.Prelude.{◌↔◌, List}
use Rattle.std.specs.List.{Contains}
use Rattle.std.specs.List.Sorted.{IsStrictlySortedBy}
use Rattle.std.specs.Ordering.{ordering_then}
use Rattle.std.specs.declared.cmp.Ordering.{Ordering}
use Rattle.scheme_model.specs.declared.Occ.{Occ}
use Rattle.scheme_model.specs.ProgramArrows.{Arrow}
use Rattle.program_leaves.specs.declared.pairs.Pair.{Pair}
use Rattle.program_leaves.specs.Placed.{occ_cmp}

abbrev pub pair_cmp : Pair → Pair → Ordering
pair_cmp a b = ordering_then (occ_cmp a.binder b.binder) (occ_cmp a.target b.target)

abbrev pub as_arrow : Pair → Arrow
as_arrow p = record { binder = p.binder; target = p.target }

-- sorted strictly by binder and use, and exactly these
pub record AreArrows (ps : List Pair) (arrows : List Arrow) : Type 0 where
  pub sorted : IsStrictlySortedBy pair_cmp ps
  pub same : (p : Pair) → Contains ps p ↔ Contains arrows (as_arrow p)

-- sorted strictly, and exactly these
pub record AreOccs (os : List Occ) (these : List Occ) : Type 0 where
  pub sorted : IsStrictlySortedBy occ_cmp os
  pub same : (o : Occ) → Contains os o ↔ Contains these o
