use Rattle.std.proofs.Common.{◌≡◌, ◌++◌, map, drop}
use Rattle.program_leaves.specs.Placed.{placed_of, forms_seen}
use Rattle.program_leaves.proofs.gathering.add_unit_leaves.Given as goal

abbrev pub invariant-loop-place : goal.invariant-loop-place
invariant-loop-place l = map placed_of l.leaves.items ++ forms_seen l.unit l.place (drop l.place l.forms) ≡ map placed_of l.fn.leaves.items ++ forms_seen l.unit 0 l.forms
