use Rattle.std.proofs.Common.{◌≡◌, ◌++◌, map, drop}
use Rattle.program_leaves.specs.Placed.{use_of, units_met}
use Rattle.program_leaves.proofs.gathering.met_in.Given as goal

abbrev pub invariant-loop-place : goal.invariant-loop-place
invariant-loop-place l = map use_of l.met.items ++ units_met l.place (drop l.place l.units) ≡ units_met 0 l.units
