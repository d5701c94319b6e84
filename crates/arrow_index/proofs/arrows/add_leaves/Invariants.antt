use Rattle.std.proofs.Common.{◌≡◌, ◌++◌, List, map, drop}
use Rattle.scheme_model.specs.Cores.{Target}
use Rattle.scheme_model.specs.Substitution.{Table}
use Rattle.scheme_model.specs.Live.{CoreLeaf, NameUse}
use Rattle.scheme_model.specs.ProgramArrows.{binder_of, is_live_at}
use Rattle.program_leaves.specs.Placed.{placed_of, AreAllSeen}
use Rattle.program_leaves.specs.Pairs.{as_arrow}
use Rattle.program_leaves.specs.Variables.{all_arrows_at}
use Rattle.program_leaves.specs.Sights.{Sees}
use Rattle.program_leaves.proofs.LiveLaws.{Passed}
use Rattle.arrow_index.proofs.arrows.add_leaves.Given as goal

abbrev pub invariant-loop-leaf : goal.invariant-loop-leaf
invariant-loop-leaf l =
    (leaves : List CoreLeaf) (keywords : List Target) (names : List NameUse) (table : Table) (ls : List CoreLeaf) → Sees l.work l.sight leaves keywords names table → AreAllSeen l.work (map placed_of l.found) ls →
    Passed l.work (map placed_of (drop l.leaf-index l.found)) ls (λ done. map as_arrow l.pairs.items ≡ map as_arrow l.fn.pairs.items ++ all_arrows_at (binder_of leaves table) (is_live_at leaves keywords names) done)
