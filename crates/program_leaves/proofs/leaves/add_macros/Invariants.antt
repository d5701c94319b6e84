use Rattle.std.proofs.Common.{◌≡◌, ◌++◌, map, take}
use Rattle.program_leaves.specs.Leaves.{seen_of, macros_seen}
use Rattle.program_leaves.proofs.leaves.add_macros.Given as goal

abbrev pub invariant-loop-definition : goal.invariant-loop-definition
invariant-loop-definition l = map seen_of l.leaves.items ≡ map seen_of l.fn.leaves.items ++ macros_seen (take l.definition-index l.macros)
