-- Where forms are gone through, and a macro use, in a state of an expansion that notes.
use Rattle.std.specs.Prelude.{◌≡◌, ℕ, List, Result, Ok, Err}
use Rattle.scheme_model.specs.Ident.{Ident as Identifier}
use Rattle.scheme_model.specs.Trees.{Trees, Tail}
use Rattle.scheme_model.specs.Cores.{Target}
use Rattle.scheme_model.specs.Steps.{Broken}
use Rattle.scheme_model.specs.Order.{Note, Transformer}
use Rattle.scheme_model.specs.ScopedExpansion.{Frames, FramedIdent}
use Rattle.syntax_tree.specs.declared.trees.Work.{Work}
use Rattle.form_parts.specs.declared.items.Spot as code_spot
use Rattle.feature_requirements.specs.declared.fault.ExpandFault.{ExpandFault}
use Rattle.feature_requirements.specs.declared.fault.ExpandFault.TheVariants as fault
use Rattle.unit_scopes.specs.Kept as plain
use Rattle.unit_scopes.specs.Used as plain_use
use Rattle.unit_scopes.specs.Outcomes.{At, SameForm}
use Rattle.unit_scopes.specs.declared.asked.Asked.{Asked}
use Rattle.unit_scopes.specs.declared.scope.UnitScope.{UnitScope}
use Rattle.unit_scopes.specs.declared.uses.Use as code_use
use Rattle.noted_steps.specs.Noting.{Noting, state_of}
use Rattle.noted_steps.specs.Standing.{Stands}
use Rattle.noted_steps.specs.Outcomes.{Breaks}

abbrev pub SpotFor : Work → UnitScope → List Frames → Noting → code_spot.Spot → Frames → Type 0
SpotFor work u ls s spot fs = plain.SpotFor work u ls (state_of s) spot fs

abbrev pub UseFor : Work → Noting → code_use.Use → Target → Transformer Frames Identifier → Trees Identifier → Tail Identifier → Type 0
UseFor work s at keyword m ts tail = plain_use.UseFor work (state_of s) at keyword m ts tail

-- what the code has after a step that adds no node and opens no scope, where forms are gone through
pub record GoesTo (work : Work) (u v : UnitScope) (ls : List Frames) (spot : code_spot.Spot) (fs : Frames) (t : Noting) : Type 0 where
  pub stands : Stands work v ls t
  pub placed : SpotFor work v ls t spot fs
  pub same : SameForm u v

-- how such a step ends; it wants no room
abbrev pub EndsIn : {X Y : Type 0} → (X → Y → Type 0) → Work → UnitScope → UnitScope → List Frames → code_spot.Spot → Frames → Result X ExpandFault → Result Y Broken × Noting → Type 0
EndsIn {X} {Y} P work u v ls spot fs (Ok x) p = (y : Y) × GoesTo work u v ls spot fs p.1 × (p.0 ≡ Ok y) × P x y
EndsIn P work u v ls spot fs (Err (fault.At e)) p = GoesTo work u v ls spot fs p.1 × Breaks work e p
EndsIn P work u v ls spot fs (Err fault.Full) p = ⊥
EndsIn P work u v ls spot fs (Err fault.Memory) p = Unit {0}

-- ---- what calls demand

-- the code's scopes and notes stand for some state, and this scope for some frames
pub record CanLook (work : Work) (u : UnitScope) (scope : ℕ) : Type 0 where
  pub layout : List Frames
  pub state : Noting
  pub frames : Frames
  pub stands : Stands work u layout state
  pub at : At layout scope frames

-- some macro
pub record CanUse (work : Work) (u : UnitScope) (at : code_use.Use) : Type 0 where
  pub layout : List Frames
  pub state : Noting
  pub frames : Frames
  pub stands : Stands work u layout state
  pub there : At layout at.scope frames
  pub keyword : Target
  pub transformer : Transformer Frames Identifier
  pub parts : Trees Identifier
  pub tail : Tail Identifier
  pub used : UseFor work state at keyword transformer parts tail

-- forms are gone through here, and these are the notes of definitions
pub record CanGo (work : Work) (u : UnitScope) (spot : code_spot.Spot) (asked : Asked) : Type 0 where
  pub layout : List Frames
  pub state : Noting
  pub frames : Frames
  pub found : List (Note FramedIdent)
  pub stands : Stands work u layout state
  pub placed : SpotFor work u layout state spot frames
  pub notes : plain.NotesFor work layout asked found

-- the form at work is the open unit's
pub record CanSet (work : Work) (u : UnitScope) : Type 0 where
  pub layout : List Frames
  pub state : Noting
  pub notes : List (Note FramedIdent)
  pub stands : Stands work u layout state
  pub asked : plain.NotesFor work layout u.asked notes
