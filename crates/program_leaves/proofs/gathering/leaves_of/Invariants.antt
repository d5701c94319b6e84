use Rattle.std.proofs.Common.{◌≡◌, ◌++◌, map, drop}
use Rattle.program_leaves.specs.Placed.{placed_of, units_seen}
use Rattle.program_leaves.proofs.gathering.leaves_of.Given as goal

abbrev pub invariant-loop-place : goal.invariant-loop-place
invariant-loop-place l = map placed_of l.leaves.items ++ units_seen l.place (drop l.place l.units) ≡ units_seen 0 l.units
