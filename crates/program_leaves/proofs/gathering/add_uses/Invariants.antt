use Rattle.std.proofs.Common.{◌≡◌, ◌++◌, map, take}
use Rattle.program_leaves.specs.Placed.{use_of, uses_at, macro_targets}
use Rattle.program_leaves.proofs.gathering.add_uses.Given as goal

abbrev pub invariant-loop-macro_use : goal.invariant-loop-macro_use
invariant-loop-macro_use l = map use_of l.met.items ≡ map use_of l.fn.met.items ++ uses_at l.at.unit l.at.form (macro_targets (take l.macro_use-index l.uses))
