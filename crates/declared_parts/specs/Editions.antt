-- A macro of the open unit, beside a copy of it.
use Rattle.std.specs.Prelude.{◌≡◌, List, [], Some}
use Rattle.scheme_model.specs.Ident.{Ident as Identifier}
use Rattle.scheme_model.specs.Meaning.{Global}
use Rattle.scheme_model.specs.Order.{Note}
use Rattle.scheme_model.specs.RulesShape.{Rules}
use Rattle.scheme_model.specs.ScopedExpansion.{Frames, FramedIdent, ScopedState, macro_at}
use Rattle.syntax_tree.specs.Macros.{IsIdent}
use Rattle.syntax_tree.specs.declared.trees.Work.{Work}
use Rattle.equal_trees.specs.Told.{TellsRules}
use Rattle.unit_scopes.specs.Units.{UnitStands}
use Rattle.unit_scopes.specs.declared.scope.UnitScope.{UnitScope}
use Rattle.declared_parts.specs.declared.parts.KeptMacro.{KeptMacro}

-- the unit has it as a macro of these rules, defined at its root
pub record HasMacro (work : Work) (u : UnitScope) (ls : List Frames) (s : ScopedState) (notes : List (Note FramedIdent)) (k : KeptMacro) (r : Rules Identifier) : Type 0 where
  pub stands : UnitStands work u ls s notes
  pub name : Identifier
  pub ident : IsIdent work.symbols k.ident name
  pub there : macro_at s.macros (Global s.unit name) ≡ Some (record { env = []; rules = r })
  pub rules : TellsRules work k.rules k.leaves r
