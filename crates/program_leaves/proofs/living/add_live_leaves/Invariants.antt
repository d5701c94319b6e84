use Rattle.std.proofs.Common.{List, map, drop}
use Rattle.scheme_model.specs.Live.{CoreLeaf}
use Rattle.scheme_model.specs.ProgramArrows.{any, leaf_at}
use Rattle.program_leaves.specs.Placed.{placed_of, AreAllSeen}
use Rattle.program_leaves.specs.Sights.{Grows}
use Rattle.program_leaves.proofs.LiveLaws.{Passed}
use Rattle.program_leaves.proofs.living.add_live_leaves.Given as goal

abbrev pub invariant-loop-leaf : goal.invariant-loop-leaf
invariant-loop-leaf l = (ls : List CoreLeaf) → AreAllSeen l.work (map placed_of l.leaves) ls → Passed l.work (map placed_of (drop l.leaf-index l.leaves)) ls (λ done. Grows l.fn.live l.live (λ o. any (leaf_at o) done))
