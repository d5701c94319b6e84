-- Units of the code whose forms stand for something of the definitions (R7RS 5.1).
use Rattle.std.specs.Prelude.{◌≡◌, ℕ, List, reverse, slice_get, Some}
use Rattle.scheme_model.specs.UnitExpansion.{Formed}
use Rattle.syntax_tree.specs.declared.trees.Work.{Work}
use Rattle.scheme_model.specs.Substitution.{Defined}
use Rattle.core_tree.specs.Units.{FormsStand, AreDefinitions, definitions_from}
use Rattle.core_tree.specs.declared.units.UnitForm.{UnitForm}
use Rattle.core_tree.specs.declared.units.Unit.{Unit as CodeUnit}

-- the forms of a unit
abbrev pub IsFormed : Work → (unit : ℕ) → List UnitForm → Type 0
IsFormed work unit cs = (formed : List Formed) × FormsStand work unit 0 cs formed

-- those of all units of a program, each at its place
abbrev pub AreFormedIn : Work → List CodeUnit → Type 0
AreFormedIn work us = (n : ℕ) (u : CodeUnit) → slice_get us n ≡ Some u → IsFormed work n u.forms

-- forms of a unit that stand for what came of some, and what they tell of its definitions
pub record AreFormed (work : Work) (unit : ℕ) (cs : List UnitForm) : Type 0 where
  pub formed : List Formed
  pub stand : FormsStand work unit 0 cs formed
  pub defined : List Defined
  pub definitions : AreDefinitions work.symbols (reverse (definitions_from 0 cs)) defined
