use Rattle.std.proofs.Common.{◌≡◌, ◌++◌, map, take}
use Rattle.program_leaves.specs.Placed.{use_of, uses_at}
use Rattle.program_leaves.proofs.gathering.add_targets.Given as goal

abbrev pub invariant-loop-target : goal.invariant-loop-target
invariant-loop-target l = map use_of l.met.items ≡ map use_of l.fn.met.items ++ uses_at l.at.unit l.at.form (take l.target-index l.found)
