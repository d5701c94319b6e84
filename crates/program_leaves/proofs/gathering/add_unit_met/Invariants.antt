use Rattle.std.proofs.Common.{◌≡◌, ◌++◌, map, drop}
use Rattle.program_leaves.specs.Placed.{use_of, forms_met}
use Rattle.program_leaves.proofs.gathering.add_unit_met.Given as goal

abbrev pub invariant-loop-place : goal.invariant-loop-place
invariant-loop-place l = map use_of l.met.items ++ forms_met l.unit l.place (drop l.place l.forms) ≡ map use_of l.fn.met.items ++ forms_met l.unit 0 l.forms
