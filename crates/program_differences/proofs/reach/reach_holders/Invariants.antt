use Rattle.std.proofs.Common.{◌≡◌, drop}
use Rattle.std.specs.List.Sorted.{IsSorted}
use Rattle.program_leaves.specs.Placed.{occ_cmp}
use Rattle.program_differences.specs.Reached.{with_holders}
use Rattle.program_differences.proofs.reach.reach_holders.Given as goal

abbrev pub invariant-loop-place : goal.invariant-loop-place
invariant-loop-place l = IsSorted occ_cmp l.occs → with_holders l.occs l.place (drop l.place l.units) l.reached.items ≡ with_holders l.occs 0 l.units l.fn.reached.items
