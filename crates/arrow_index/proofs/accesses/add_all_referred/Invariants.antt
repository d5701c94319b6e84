use Rattle.std.proofs.Common.{◌≡◌, ◌++◌, List, map, drop}
use Rattle.scheme_model.specs.Live.{CoreLeaf}
use Rattle.syntax_tree.specs.declared.trees.Work.{Work}
use Rattle.scheme_model.specs.Accesses.{referred_in}
use Rattle.program_leaves.specs.Placed.{placed_of, AreAllSeen}
use Rattle.program_leaves.proofs.LiveLaws.{Passed}
use Rattle.arrow_index.proofs.accesses.add_all_referred.Given as goal

abbrev pub invariant-loop-leaf : goal.invariant-loop-leaf
invariant-loop-leaf l = (w : Work) (ls : List CoreLeaf) → AreAllSeen w (map placed_of l.leaves) ls → Passed w (map placed_of (drop l.leaf-index l.leaves)) ls (λ done. l.places.items ≡ l.fn.places.items ++ referred_in done)
