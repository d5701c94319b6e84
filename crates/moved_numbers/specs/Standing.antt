-- That values stand under other numbers for what they stood for.
use Rattle.std.specs.Prelude.{◌≡◌, ℕ, List, map, Result}
use Rattle.std.specs.Global.{Box}
use Rattle.scheme_model.specs.Cores.{Core, Binders, Parts, MacroUse}
use Rattle.scheme_model.specs.Steps.{Broken}
use Rattle.scheme_model.specs.Order.{Counted}
use Rattle.syntax_tree.specs.declared.trees.Work.{Work}
use Rattle.core_tree.specs.Names.{AllMatch, IsUse}
use Rattle.core_tree.specs.Cores.{CoreStands, PartsStand, IsClause}
use Rattle.core_tree.specs.Units.{IsResult, IsBlank}
use Rattle.core_tree.specs.declared.cores.Core as code
use Rattle.core_tree.specs.declared.cores.Clause.{Clause}
use Rattle.core_tree.specs.declared.traces.MacroUse as code_use
use Rattle.core_tree.specs.declared.units.ExpandedItem.{ExpandedItem}
use Rattle.core_tree.specs.declared.units.UnitForm.{UnitForm}
use Rattle.core_tree.specs.declared.units.Unit as units
use Rattle.renumbering_laws.specs.Renumbering.{Renumbering, binders, core_as, parts_as, counted_as}
use Rattle.renumbering_laws.specs.Renumbering as new
use Rattle.moves.specs.Works.{WorkMoves}
use Rattle.moved_numbers.specs.Values.{form_as}

-- whatever the first stood for in a form, the second stands, in the work and in the form under the new numbers, for what becomes of that
abbrev pub StandsOn : {X Y : Type 0} → Renumbering → (Work → (unit form : ℕ) → X → Y → Type 0) → (Y → Y) → X → X → Type 0
StandsOn {Y = Y} r P g x x' = (old new : Work) (unit form : ℕ) (y : Y) → WorkMoves r old new → P old unit form x y → P new (r.unit unit) (r.form unit form) x' (g y)

-- a clause of the code has these binders and this body
abbrev pub ClauseStands : Work → (unit form : ℕ) → Clause → Binders × Core → Type 0
ClauseStands work unit form x m = (y : Box code.Core) × IsClause work unit form x m.0 y × CoreStands work unit form y.value m.1

abbrev pub clause_as : Renumbering → Binders × Core → Binders × Core
clause_as r m = (binders r m.0, core_as r m.1)

-- ---- forms

abbrev pub UseStands : Work → (unit form : ℕ) → code_use.MacroUse → MacroUse → Type 0
UseStands work unit form u m = IsUse work.symbols unit form u m

-- the parts of a form
abbrev pub ItemsStand : Work → (unit form : ℕ) → List ExpandedItem → Parts → Type 0
ItemsStand work unit form is ps = PartsStand work unit form (map (λ i. i.part) is) ps

-- what a form comes to, and what it counted and met
abbrev pub ResultStands : Work → (unit form : ℕ) → UnitForm → Result Parts Broken × Counted → Type 0
ResultStands work unit form c m = IsResult work unit form c m.0 m.1

abbrev pub result_as : Renumbering → Result Parts Broken × Counted → Result Parts Broken × Counted
result_as r m = (new.result_as r (parts_as r) m.0, counted_as r m.1)

-- what a form becomes: what it stood for it stands for under the new numbers, a blank one stays blank, and its value is told
pub record FormMoves (r : Renumbering) (old new : UnitForm) : Type 0 where
  pub result : StandsOn r ResultStands (result_as r) old new
  pub blank : IsBlank old → IsBlank new
  pub value : new ≡ form_as r old

abbrev pub UnitMoves : Renumbering → units.Unit → units.Unit → Type 0
UnitMoves r u v = AllMatch (FormMoves r) u.forms v.forms
