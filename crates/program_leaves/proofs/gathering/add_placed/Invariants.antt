use Rattle.std.proofs.Common.{◌≡◌, ◌++◌, map, take}
use Rattle.program_leaves.specs.Leaves.{seen_of}
use Rattle.program_leaves.specs.Placed.{placed_of, at_form}
use Rattle.program_leaves.proofs.gathering.add_placed.Given as goal

abbrev pub invariant-loop-leaf : goal.invariant-loop-leaf
invariant-loop-leaf l = map placed_of l.leaves.items ≡ map placed_of l.fn.leaves.items ++ at_form l.at.unit l.at.form (map seen_of (take l.leaf-index l.found))
