use Rattle.std.proofs.Common.{◌≡◌, ◌++◌, List, map, take}
use Rattle.scheme_model.specs.Cores.{Target, RuleLeaf}
use Rattle.scheme_model.specs.Substitution.{Table}
use Rattle.scheme_model.specs.Live.{CoreLeaf, NameUse}
use Rattle.scheme_model.specs.ProgramArrows.{binder_of, is_live_at, leaf_arrows}
use Rattle.syntax_tree.specs.declared.trees.Work.{Work}
use Rattle.core_tree.specs.Names.{AllMatch, IsLeaf}
use Rattle.program_leaves.specs.Pairs.{as_arrow}
use Rattle.program_leaves.specs.Sights.{Sees}
use Rattle.arrow_index.proofs.arrows.add_static.Given as goal

abbrev pub invariant-loop-leaf : goal.invariant-loop-leaf
invariant-loop-leaf l =
    (work : Work) (leaves : List CoreLeaf) (keywords : List Target) (names : List NameUse) (table : Table) (ms : List RuleLeaf) → Sees work l.sight leaves keywords names table → AllMatch (IsLeaf work.symbols l.at.unit l.at.form) l.found ms →
    map as_arrow l.pairs.items ≡ map as_arrow l.fn.pairs.items ++ leaf_arrows (binder_of leaves table) (is_live_at leaves keywords names) (take l.leaf-index ms)
