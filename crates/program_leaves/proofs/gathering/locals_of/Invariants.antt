use Rattle.std.proofs.Common.{◌≡◌, map, take}
use Rattle.std.specs.BTreeMap.{get}
use Rattle.program_leaves.specs.declared.sight.LocalNo.{LocalNo}
use Rattle.program_leaves.specs.Placed.{placed_of, local_cmp, local_in}
use Rattle.program_leaves.proofs.gathering.locals_of.Given as goal

abbrev pub invariant-loop-leaf : goal.invariant-loop-leaf
invariant-loop-leaf l = (k : LocalNo) → get local_cmp l.locals k ≡ local_in (map placed_of (take l.leaf-index l.leaves)) k
