use Rattle.std.proofs.Common.{◌≡◌, ◌++◌, List, map, take}
use Rattle.scheme_model.specs.Cores.{Target}
use Rattle.scheme_model.specs.Substitution.{Table}
use Rattle.scheme_model.specs.Live.{CoreLeaf, NameUse}
use Rattle.scheme_model.specs.ProgramArrows.{binder_of, name_arrows}
use Rattle.syntax_tree.specs.declared.trees.Work.{Work}
use Rattle.core_tree.specs.Names.{AllMatch}
use Rattle.program_leaves.specs.Pairs.{as_arrow}
use Rattle.program_leaves.specs.Sights.{Sees, IsNameOf}
use Rattle.arrow_index.proofs.arrows.add_unit_names.Given as goal

abbrev pub invariant-loop-name : goal.invariant-loop-name
invariant-loop-name l =
    (work : Work) (leaves : List CoreLeaf) (keywords : List Target) (names : List NameUse) (table : Table) (ns : List NameUse) → Sees work l.sight leaves keywords names table → AllMatch (IsNameOf work) l.found ns →
    map as_arrow l.pairs.items ≡ map as_arrow l.fn.pairs.items ++ name_arrows (binder_of leaves table) (take l.name-index ns)
