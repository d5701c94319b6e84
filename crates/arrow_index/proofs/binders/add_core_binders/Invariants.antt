use Rattle.std.proofs.Common.{◌≡◌, ◌++◌, List, map, drop}
use Rattle.scheme_model.specs.Live.{CoreLeaf}
use Rattle.scheme_model.specs.ProgramArrows.{leaf_binders}
use Rattle.program_leaves.specs.Placed.{placed_of, AreAllSeen}
use Rattle.program_leaves.proofs.LiveLaws.{Passed}
use Rattle.arrow_index.proofs.binders.add_core_binders.Given as goal

abbrev pub invariant-loop-leaf : goal.invariant-loop-leaf
invariant-loop-leaf l = (ls : List CoreLeaf) → AreAllSeen l.work (map placed_of l.leaves) ls → Passed l.work (map placed_of (drop l.leaf-index l.leaves)) ls (λ done. l.places.items ≡ l.fn.places.items ++ leaf_binders done)
