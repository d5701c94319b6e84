use Rattle.std.proofs.Common.{◌≡◌, take}
use Rattle.std.specs.Prelude.{false}
use Rattle.std.specs.List.{list_any}
use Rattle.std.specs.List.Sorted.{IsSorted}
use Rattle.program_leaves.specs.Placed.{occ_cmp}
use Rattle.program_differences.specs.Reached.{range_holds}
use Rattle.program_differences.proofs.reach.one_holds.Given as goal

abbrev pub invariant-loop-range : goal.invariant-loop-range
invariant-loop-range l = IsSorted occ_cmp l.occs → list_any (λ range. list_any (range_holds range) l.occs) (take l.range-index l.ranges) ≡ false
