use Rattle.std.proofs.Common.{◌≡◌, ◌++◌, List, map, take}
use Rattle.scheme_model.specs.Cores.{Target}
use Rattle.scheme_model.specs.Substitution.{Table}
use Rattle.scheme_model.specs.Live.{CoreLeaf, NameUse}
use Rattle.scheme_model.specs.ProgramArrows.{binder_of, target_arrows}
use Rattle.syntax_tree.specs.declared.trees.Work.{Work}
use Rattle.core_tree.specs.Names.{AllMatch}
use Rattle.program_leaves.specs.Pairs.{as_arrow}
use Rattle.program_leaves.specs.Placed.{use_of, IsUseOf}
use Rattle.program_leaves.specs.Sights.{Sees}
use Rattle.arrow_index.proofs.arrows.add_met.Given as goal

abbrev pub invariant-loop-target : goal.invariant-loop-target
invariant-loop-target l =
    (work : Work) (leaves : List CoreLeaf) (keywords : List Target) (names : List NameUse) (table : Table) (ts : List Target) → Sees work l.sight leaves keywords names table → AllMatch (IsUseOf work) (map use_of l.met) ts →
    map as_arrow l.pairs.items ≡ map as_arrow l.fn.pairs.items ++ target_arrows (binder_of leaves table) (take l.target-index ts)
