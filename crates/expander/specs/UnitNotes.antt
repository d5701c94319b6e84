-- What the calls of this crate note (R7RS 5.1, 5.3): a part of a form begins behind the notes that there are, and where it ends its notes
-- stand beside them.
use Rattle.std.specs.Prelude.{◌≡◌, ℕ, List, [], length, true, Option, Result, Ok, Err}
use Rattle.scheme_model.specs.Ident.{Ident as Identifier}
use Rattle.scheme_model.specs.Program.{enough_turns}
use Rattle.scheme_model.specs.Requirements.{Known}
use Rattle.scheme_model.specs.Cores.{Part}
use Rattle.scheme_model.specs.Steps.{Broken}
use Rattle.scheme_model.specs.Trees.{Tree}
use Rattle.scheme_model.specs.Order.{Item, Left, Note, Pass, Transformer, WaitingUse, meet_all, run}
use Rattle.scheme_model.specs.Expression.{expand, item_part}
use Rattle.scheme_model.specs.UnitExpansion.{max_depth, one_form}
use Rattle.scheme_model.specs.ScopedExpansion.{Frames, FramedIdent, ScopedState}
use Rattle.syntax_tree.specs.declared.trees.Work.{Work}
use Rattle.syntax_tree.specs.declared.trees.table.Region.{Region}
use Rattle.core_tree.specs.Traces.{IsFault}
use Rattle.core_tree.specs.declared.traces.Trace.{Trace}
use Rattle.feature_requirements.specs.declared.fault.ExpandFault.{ExpandFault}
use Rattle.feature_requirements.specs.declared.fault.ExpandFault.TheVariants as fault
use Rattle.form_notes.specs.Noted.{Noted, beginning}
use Rattle.form_notes.specs.Standing.{HaveNotes, InOrder}
use Rattle.form_parts.specs.declared.items.Left as code_left
use Rattle.unit_scopes.specs.Editions.{EditionsTell}
use Rattle.unit_scopes.specs.Kept.{NotesFor}
use Rattle.unit_scopes.specs.Outcomes.{Leaves, MayFill}
use Rattle.unit_scopes.specs.Units.{LeftFor}
use Rattle.unit_scopes.specs.declared.macros.Macros.{Macros}
use Rattle.unit_scopes.specs.declared.scope.UnitScope.{UnitScope}
use Rattle.noted_steps.specs.Noting.{Noting, going, noting}
use Rattle.noted_steps.specs.Outcomes.{Stays}
use Rattle.noted_steps.specs.Standing.{EditionsStand, StartsAt}

abbrev pub Editions : Type 0
Editions = ℕ → Option (Transformer Frames Identifier)

-- ---- a part of a form

-- it begins, behind these notes, where the form has begun so many uses
abbrev pub part_begun : (uses : ℕ) → List (Note FramedIdent) → Editions → List Noted → ScopedState → Noting
part_begun uses found editions ms s = going true (length found) (beginning s.unit s.form uses editions) ms s

-- the editions tell the rules of macros, and these are the notes so far
pub record CanNote (work : Work) (u : UnitScope) (trace : Trace) (uses : ℕ) (editions : Editions) (ms : List Noted) (s : ScopedState) : Type 0 where
  pub tells : EditionsTell work.symbols u.macros s editions
  pub notes : HaveNotes work.symbols (beginning s.unit s.form uses editions) trace.notes.notes ms

-- the notes where it has ended, in order from where it began, and what there was then; macros that it hasn't made have editions that tell their
-- rules still
pub record HasNoted (work : Work) (macros : Macros) (trace : Trace) (s : Noting) : Type 0 where
  pub notes : HaveNotes work.symbols s.since trace.notes.notes s.noted
  pub begun : trace.notes.begun ≡ s.since.uses
  pub order : InOrder trace.notes.first trace.notes.notes (length s.since.own)
  pub start : StartsAt trace.notes s.before s.anew
  pub editions : EditionsStand work.symbols macros s

-- a call that ended with its form, well or by a fault of the form
abbrev pub OnEnded : {X : Type 0} → Result X ExpandFault → Type 0 → Type 0
OnEnded (Ok x) holds = holds
OnEnded (Err (fault.At e)) holds = holds
OnEnded (Err fault.Full) holds = Unit {0}
OnEnded (Err fault.Memory) holds = Unit {0}

-- ---- the definition's steps

abbrev pub set_noting : Known → Tree Identifier → List (Note FramedIdent) → Noting → Pass Identifier FramedIdent × Noting
set_noting known t found s = run (noting known) enough_turns [] (one_form t found) s

abbrev pub met_noting : Known → List (WaitingUse Identifier) → Noting → Noting
met_noting known us s = meet_all (noting known) [] us s

abbrev pub expand_noting : Known → Item Identifier → Noting → Result Part Broken × Noting
expand_noting known i s = item_part (expand (noting known) enough_turns) (noting known) max_depth [] i s

-- what is left of a form while it is at work
abbrev pub SetsNoting : Work → Work → Region → UnitScope → UnitScope → List Frames → Result code_left.Left ExpandFault → Pass Identifier FramedIdent × Noting → Type 0
SetsNoting old new region u v ls (Ok x) p =
    (l : Left Identifier) × (p.0.left ≡ Ok l) × Stays old new region u v ls p.1 × NotesFor new ls v.asked p.0.notes × LeftFor new region v.unit v.form.number x l
SetsNoting old new region u v ls (Err (fault.At e)) p = (b : Broken) × (p.0.left ≡ Err b) × Stays old new region u v ls p.1 × NotesFor new ls v.asked p.0.notes × IsFault new.symbols e b
SetsNoting old new region u v ls (Err fault.Full) p = Leaves old new region u × MayFill old u
SetsNoting old new region u v ls (Err fault.Memory) p = Leaves old new region u
