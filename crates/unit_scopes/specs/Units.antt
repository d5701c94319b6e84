-- The calls of the expander on the forms of units (R7RS 5.1, 5.3, 5.6).
use Rattle.std.specs.Prelude.{◌≡◌, ℕ, ◌+◌, ◌≤◌, List, [], Result, Ok, Err}
use Rattle.scheme_model.specs.Ident.{Ident as Identifier}
use Rattle.scheme_model.specs.Trees.{Tree}
use Rattle.scheme_model.specs.Cores.{Part}
use Rattle.scheme_model.specs.Steps.{Broken}
use Rattle.scheme_model.specs.Order.{Item, WaitingUse, Left, Note, Pass, meet_all, run}
use Rattle.scheme_model.specs.Expression.{expand, item_part}
use Rattle.scheme_model.specs.UnitExpansion.{max_depth, one_form}
use Rattle.scheme_model.specs.Program.{enough_turns}
use Rattle.scheme_model.specs.Requirements.{Known}
use Rattle.scheme_model.specs.ScopedExpansion.{Frames, FramedIdent, ScopedState}
use Rattle.syntax_tree.specs.Names.{KeepsNames}
use Rattle.syntax_tree.specs.Works.{KeepsTrees, SameRegions, AddsIn, live_count}
use Rattle.syntax_tree.specs.declared.trees.Work.{Work}
use Rattle.syntax_tree.specs.declared.trees.table.Region.{Region}
use Rattle.core_tree.specs.Cores.{PartStands}
use Rattle.core_tree.specs.Names.{AllMatch}
use Rattle.core_tree.specs.Traces.{IsFault}
use Rattle.core_tree.specs.declared.traces.Trace.{Trace}
use Rattle.core_tree.specs.declared.units.ExpandedItem.{ExpandedItem}
use Rattle.unit_scopes.specs.Kept.{KeptFor, NotesFor, WaitsFor}
use Rattle.unit_scopes.specs.Outcomes.{At, KeepsNumbers, SameForm, Stays, Leaves, MayFill}
use Rattle.unit_scopes.specs.Searched.{searched}
use Rattle.unit_scopes.specs.State.{FormStands, Rests, Stands, most_locals}
use Rattle.unit_scopes.specs.Stepped.{turned}
use Rattle.feature_requirements.specs.declared.fault.ExpandFault.{ExpandFault}
use Rattle.feature_requirements.specs.declared.fault.ExpandFault.TheVariants as fault
use Rattle.form_parts.specs.declared.items.Item as code_item
use Rattle.form_parts.specs.declared.items.Left as code_left
use Rattle.unit_scopes.specs.declared.scope.Budget.{Budget}
use Rattle.unit_scopes.specs.declared.scope.FormAtWork.{FormAtWork}
use Rattle.unit_scopes.specs.declared.scope.UnitScope.{UnitScope}

-- ---- units between calls

-- what the open unit and the units before it stand for: a state, what its scopes stand for, and the notes of its forms so far
pub record UnitStands (work : Work) (u : UnitScope) (ls : List Frames) (s : ScopedState) (found : List (Note FramedIdent)) : Type 0 where
  pub rests : Rests work u ls s
  pub notes : NotesFor work ls u.asked found

-- a form's counts, and what it met
abbrev pub form_at : ℕ → Budget → Trace → FormAtWork
form_at number budget trace = record { number = number; budget = budget; trace = trace }

-- they are those of this form in the state
abbrev pub CountsFor : Work → ScopedState → ℕ → Budget → Trace → Type 0
CountsFor work s number budget trace = FormStands work.symbols (form_at number budget trace) (turned number s)

-- a form has counted so many nodes that its locals are few, and would be with so many more
abbrev pub HasSpace : (more : ℕ) → Budget → Type 0
HasSpace more b = b.locals + more ≤ most_locals b.nodes

-- what a form of the unit set aside
abbrev pub ItemFor : Work → Region → (unit form : ℕ) → code_item.Item → Item Identifier → Type 0
ItemFor work region unit form x i = KeptFor work region unit form x.kept i

-- what is left of a form of the unit once it was gone through
pub record LeftFor (work : Work) (region : Region) (unit form : ℕ) (x : code_left.Left) (l : Left Identifier) : Type 0 where
  pub uses : AllMatch (WaitsFor work unit form) x.uses.items l.uses
  pub items : AllMatch (ItemFor work region unit form) x.items l.items

-- ---- what calls leave

-- the unit after a call: scopes keep their frames, and macros that stood their editions; no more nodes were added than were counted, and no unit
-- was begun
pub record Goes (old new : Work) (region : Region) (u v : UnitScope) (before after : Budget) (ls : List Frames) (number : ℕ) (trace : Trace) (notes : List (Note FramedIdent)) (t : ScopedState) : Type 0 where
  pub layout : List Frames
  pub stands : UnitStands new v layout t notes
  pub kept : (n : ℕ) (fs : Frames) → At ls n fs → At layout n fs
  pub counts : CountsFor new t number after trace
  pub counted : live_count new + before.nodes ≤ live_count old + after.nodes
  pub units : v.env.roots ≡ u.env.roots
  pub libraries : v.libraries ≡ u.libraries
  pub numbers : KeepsNumbers u v

-- trees, names and nodes after a call: no more nodes were added than the form had left to count
pub record Adds (old new : Work) (region : Region) (before : Budget) : Type 0 where
  pub trees : KeepsTrees old new
  pub names : KeepsNames old.symbols new.symbols
  pub added : AddsIn old new region
  pub regions : SameRegions old new
  pub nodes : live_count new + before.nodes ≤ live_count old + 200000

-- where a step was made, the same form is at work
abbrev pub Counts : {X : Type 0} → UnitScope → UnitScope → Result X ExpandFault → Type 0
Counts u v (Ok x) = SameForm u v
Counts u v (Err (fault.At e)) = SameForm u v
Counts u v (Err fault.Full) = Unit {0}
Counts u v (Err fault.Memory) = Unit {0}

-- what is left of a form, or its fault
abbrev pub Declares : Work → Work → Region → UnitScope → UnitScope → Budget → Budget → List Frames → (number : ℕ) → Trace → Result code_left.Left ExpandFault → Pass Identifier FramedIdent × ScopedState → Type 0
Declares old new region u v before after ls number trace (Ok x) p =
    (l : Left Identifier) × (p.0.left ≡ Ok l) × Goes old new region u v before after ls number trace p.0.notes p.1 × LeftFor new region v.unit number x l
Declares old new region u v before after ls number trace (Err (fault.At e)) p =
    (b : Broken) × (p.0.left ≡ Err b) × Goes old new region u v before after ls number trace p.0.notes p.1 × IsFault new.symbols e b
Declares old new region u v before after ls number trace (Err fault.Full) p = Unit {0}
Declares old new region u v before after ls number trace (Err fault.Memory) p = Unit {0}

-- the same while the form is at work
abbrev pub Sets : Work → Work → Region → UnitScope → UnitScope → List Frames → Result code_left.Left ExpandFault → Pass Identifier FramedIdent × ScopedState → Type 0
Sets old new region u v ls (Ok x) p =
    (l : Left Identifier) × (p.0.left ≡ Ok l) × Stays old new region u v ls p.1 × NotesFor new ls v.asked p.0.notes × LeftFor new region v.unit v.form.number x l
Sets old new region u v ls (Err (fault.At e)) p = (b : Broken) × (p.0.left ≡ Err b) × Stays old new region u v ls p.1 × NotesFor new ls v.asked p.0.notes × IsFault new.symbols e b
Sets old new region u v ls (Err fault.Full) p = Leaves old new region u × MayFill old u
Sets old new region u v ls (Err fault.Memory) p = Leaves old new region u

-- what an item comes to, or its fault
abbrev pub Expands : Work → Work → Region → UnitScope → UnitScope → Budget → Budget → List Frames → (number : ℕ) → Trace → List (Note FramedIdent) → Result ExpandedItem ExpandFault → Result Part Broken × ScopedState → Type 0
Expands old new region u v before after ls number trace notes (Ok x) p =
    (m : Part) × (p.0 ≡ Ok m) × Goes old new region u v before after ls number trace notes p.1 × PartStands new v.unit number x.part m × (x.count + before.nodes ≡ after.nodes)
Expands old new region u v before after ls number trace notes (Err (fault.At e)) p =
    (b : Broken) × (p.0 ≡ Err b) × Goes old new region u v before after ls number trace notes p.1 × IsFault new.symbols e b
Expands old new region u v before after ls number trace notes (Err fault.Full) p = Unit {0}
Expands old new region u v before after ls number trace notes (Err fault.Memory) p = Unit {0}

-- ---- what calls demand

pub record CanDeclare (work : Work) (u : UnitScope) (number : ℕ) (budget : Budget) (trace : Trace) : Type 0 where
  pub layout : List Frames
  pub state : ScopedState
  pub notes : List (Note FramedIdent)
  pub stands : UnitStands work u layout state notes
  pub counts : CountsFor work state number budget trace

-- the same while the form is at work
pub record CanSet (work : Work) (u : UnitScope) : Type 0 where
  pub layout : List Frames
  pub state : ScopedState
  pub notes : List (Note FramedIdent)
  pub stands : Stands work u layout state
  pub asked : NotesFor work layout u.asked notes

-- ---- the definition's steps

abbrev pub set_aside : Known → Tree Identifier → List (Note FramedIdent) → ScopedState → Pass Identifier FramedIdent × ScopedState
set_aside known t notes s = run (searched known) enough_turns [] (one_form t notes) s

abbrev pub declared : Known → (number : ℕ) → Tree Identifier → List (Note FramedIdent) → ScopedState → Pass Identifier FramedIdent × ScopedState
declared known number t notes s = set_aside known t notes (turned number s)

-- the macro uses of a form are met
abbrev pub uses_met : Known → (number : ℕ) → List (WaitingUse Identifier) → ScopedState → ScopedState
uses_met known number us s = meet_all (searched known) [] us (turned number s)

abbrev pub expanded : Known → (number : ℕ) → Item Identifier → ScopedState → Result Part Broken × ScopedState
expanded known number i s = item_part (expand (searched known) enough_turns) (searched known) max_depth [] i (turned number s)
