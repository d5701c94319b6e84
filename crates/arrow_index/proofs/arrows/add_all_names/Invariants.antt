use Rattle.std.proofs.Common.{◌≡◌, ◌++◌, List, map, drop}
use Rattle.scheme_model.specs.Cores.{Target}
use Rattle.scheme_model.specs.Substitution.{Table}
use Rattle.scheme_model.specs.Live.{CoreLeaf, NameUse}
use Rattle.scheme_model.specs.ProgramArrows.{binder_of, name_arrows}
use Rattle.syntax_tree.specs.declared.trees.Work.{Work}
use Rattle.core_tree.specs.Names.{AllMatch}
use Rattle.program_leaves.specs.Pairs.{as_arrow}
use Rattle.program_leaves.specs.Sights.{Sees, all_names, IsNameOf}
use Rattle.program_leaves.proofs.AddLaws.{Past}
use Rattle.arrow_index.proofs.arrows.add_all_names.Given as goal

abbrev pub invariant-loop-unit : goal.invariant-loop-unit
invariant-loop-unit l =
    (work : Work) (leaves : List CoreLeaf) (keywords : List Target) (names : List NameUse) (table : Table) (ns : List NameUse) → Sees work l.sight leaves keywords names table → AllMatch (IsNameOf work) (all_names l.units) ns →
    Past (IsNameOf work) (all_names (drop l.unit-index l.units)) ns (λ done. map as_arrow l.pairs.items ≡ map as_arrow l.fn.pairs.items ++ name_arrows (binder_of leaves table) done)
