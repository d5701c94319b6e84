-- Forms of a unit whose identifiers are among names.
use Rattle.std.specs.Prelude.{ℕ, List}
use Rattle.scheme_model.specs.UnitExpansion.{Formed}
use Rattle.syntax_tree.specs.declared.trees.Work.{Work}
use Rattle.syntax_tree.specs.Names.{Names, KeepsNames}
use Rattle.core_tree.specs.Units.{FormsStand}
use Rattle.core_tree.specs.declared.units.UnitForm.{UnitForm}

-- they stand for some, over names that these keep
pub record StandIn (names : Names) (cs : List UnitForm) : Type 0 where
  pub work : Work
  pub unit : ℕ
  pub formed : List Formed
  pub kept : KeepsNames work.symbols names
  pub stand : FormsStand work unit 0 cs formed
