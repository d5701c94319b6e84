-- What the forms that are gone through, what is set aside, and what was looked up stand for in the code (R7RS 5.3.2).
use Rattle.std.specs.Prelude.{◌≡◌, ℕ, ◌+◌, ◌-◌, ◌*◌, ◌≤◌, List, [], ◌∷◌, length, reverse, Bool, true, false, Vec}
use Rattle.std.specs.declared.alloc.Global.{Global}
use Rattle.scheme_model.specs.Identifiers.{Number}
use Rattle.scheme_model.specs.Ident.{Ident as Identifier}
use Rattle.scheme_model.specs.Measures.{tree_size, trees_size}
use Rattle.scheme_model.specs.Expression.{meaning_of}
use Rattle.scheme_model.specs.Order.{Form, Item, Expression, Value, Function, Assigned, AssignedFunction, ValuesOf, Record, Macro, Note, LookedUp, Compared, WaitingUse, Pending}
use Rattle.scheme_model.specs.Shapes.{Clause}
use Rattle.scheme_model.specs.ScopedExpansion.{Enter, Frames, FramedIdent, ScopedState}
use Rattle.syntax_tree.specs.Macros.{IsIdent}
use Rattle.syntax_tree.specs.Meant.{IsMeaning}
use Rattle.syntax_tree.specs.declared.meaning.Meaning as code_meaning
use Rattle.syntax_tree.specs.declared.trees.Work.{Work}
use Rattle.syntax_tree.specs.declared.trees.table.Region.{Region}
use Rattle.core_forms.specs.Parts.{IsName, IsClause}
use Rattle.core_forms.specs.Named.{ClauseNamed}
use Rattle.core_forms.specs.declared.shape.ClauseShape as code_clause
use Rattle.core_forms.specs.declared.shape.NamePart as code_name
use Rattle.core_tree.specs.Names.{AllMatch, IsBinder, IsField, IsTarget}
use Rattle.core_tree.specs.Cores.{AreBinders}
use Rattle.core_tree.specs.declared.cores.Binder as code_binder
use Rattle.core_tree.specs.declared.cores.FieldUse as code_field
use Rattle.unit_scopes.specs.Stepped.{IsOpenBody, BindsBody}
use Rattle.unit_scopes.specs.Asks.{AskedStands}
use Rattle.unit_scopes.specs.Outcomes.{At, WorksOn}
use Rattle.unit_scopes.specs.declared.asked.Asked.{Asked}
use Rattle.unit_scopes.specs.declared.asked.Asking as code_place
use Rattle.unit_scopes.specs.declared.asked.Note as code_note
use Rattle.unit_scopes.specs.declared.asked.Note.TheVariants as notes
use Rattle.form_parts.specs.declared.items.Form as code_form
use Rattle.form_parts.specs.declared.items.Kept as code_kept
use Rattle.form_parts.specs.declared.items.Kept.TheVariants as kept
use Rattle.form_parts.specs.declared.items.Pending as code_pending
use Rattle.form_parts.specs.declared.items.Spot as code_spot
use Rattle.form_parts.specs.declared.items.WaitingUse as code_waiting
use Rattle.unit_scopes.specs.declared.scope.UnitScope.{UnitScope}

-- ---- forms, and what is set aside

-- a form with the place that a fault in it has
abbrev pub FormFor : Work → Region → code_form.Form → Form Identifier → Type 0
FormFor work region f m = (f.here ≡ m.here) × WorksOn work region f.tree m.tree

-- it binds no more names than a tree has nodes, and its body has no more nodes
abbrev pub ClauseFits : Clause Identifier → Type 0
ClauseFits c = (length c.formals.names ≤ 4194304) × (trees_size c.body ≤ 4194304)

-- a procedure's formals and body
abbrev pub ClauseFor : Work → Region → code_clause.ClauseShape → Clause Identifier → Type 0
ClauseFor work region c m = IsClause work c m × ClauseNamed work region c × ClauseFits m

-- what was set aside, in a form of a unit
abbrev pub KeptFor : Work → Region → (unit form : ℕ) → code_kept.Kept → Item Identifier → Type 0
KeptFor work region unit form k (Expression m) = (f : code_form.Form) × (k ≡ kept.Expression f) × FormFor work region f m
KeptFor work region unit form k (Value b m) = (x : code_binder.Binder) × (f : code_form.Form) × (k ≡ kept.Value x f) × IsBinder work.symbols unit form x b × FormFor work region f m
KeptFor work region unit form k (Function b here c) =
    (x : code_binder.Binder) × (y : code_clause.ClauseShape) × (k ≡ kept.Function x here y) × IsBinder work.symbols unit form x b × ClauseFor work region y c
KeptFor work region unit form k (Assigned n m) = (x : code_name.NamePart) × (f : code_form.Form) × (k ≡ kept.Assigned x f) × IsName work x n × FormFor work region f m
KeptFor work region unit form k (AssignedFunction n here c) =
    (x : code_name.NamePart) × (y : code_clause.ClauseShape) × (k ≡ kept.AssignedFunction x here y) × IsName work x n × ClauseFor work region y c
KeptFor work region unit form k (ValuesOf bs m) =
    (names : Vec code_binder.Binder Global) × (dotted : Bool) × (f : code_form.Form) × (k ≡ kept.Values names dotted f) × AreBinders work unit form names dotted bs × FormFor work region f m
KeptFor work region unit form k (Record r) =
    (bs : Vec code_binder.Binder Global) × (fs : Vec code_binder.Binder Global) × (ms : Vec ℕ Global) × (us : Vec code_field.FieldUse Global) × (k ≡ kept.Record bs fs ms us)
    × AllMatch (IsBinder work.symbols unit form) bs.items r.binders × AllMatch (IsBinder work.symbols unit form) fs.items r.fields × (ms.items ≡ r.modified) × AllMatch IsField us.items r.used
KeptFor work region unit form k (Macro b here) =
    (x : code_binder.Binder) × (m : code_meaning.Meaning) × (k ≡ kept.Macro x m) × IsBinder work.symbols unit form x b × IsMeaning work.symbols unit form m (meaning_of b.bound b.ident)

-- a macro use that waits, in a form of a unit
pub record WaitsFor (work : Work) (unit form : ℕ) (u : code_waiting.WaitingUse) (m : WaitingUse Identifier) : Type 0 where
  pub keyword : IsTarget work.symbols unit form u.keyword m.keyword
  pub literals : AllMatch (IsName work) u.literals.items m.literals

-- the next form is the last of the code's list
pub record PendingFor (work : Work) (region : Region) (unit form : ℕ) (q : code_pending.Pending) (p : Pending Identifier FramedIdent) : Type 0 where
  pub todo : AllMatch (FormFor work region) (reverse q.todo.items) p.todo
  pub aside : AllMatch (KeptFor work region unit form) q.aside.items p.aside
  pub uses : AllMatch (WaitsFor work unit form) q.uses.items p.uses

-- ---- notes

-- an identifier in the scope in which it was looked up
abbrev pub PlaceFor : Work → List Frames → code_place.Asking → FramedIdent → Type 0
PlaceFor work ls a p = At ls a.scope p.frames × IsIdent work.symbols a.ident p.ident

abbrev pub NoteFor : Work → List Frames → code_note.Note → Note FramedIdent → Type 0
NoteFor work ls (notes.LookedUp a h k) (LookedUp p head keyword) = PlaceFor work ls a p × (h ≡ head) × (k ≡ keyword)
NoteFor work ls (notes.LookedUp a h k) (Compared p q held) = ⊥
NoteFor work ls (notes.Compared l a h) (LookedUp p head keyword) = ⊥
NoteFor work ls (notes.Compared l a h) (Compared p q held) = PlaceFor work ls l p × PlaceFor work ls a q × (h ≡ held)

-- the notes, of which the newest is the code's last, and those that ask each identifier
pub record NotesFor (work : Work) (ls : List Frames) (asked : Asked) (ns : List (Note FramedIdent)) : Type 0 where
  pub notes : AllMatch (NoteFor work ls) asked.notes.items (reverse ns)
  pub asks : AskedStands work.symbols asked

-- ---- where forms are gone through

-- the newest scope is that of a body, and binds what the body has defined
pub record IsInBody (work : Work) (u : UnitScope) (ls : List Frames) (s : ScopedState) (scope : ℕ) (fs : Frames) : Type 0 where
  pub body : Number
  pub outer : Frames
  pub opened : IsOpenBody ls scope body outer
  pub frames : fs ≡ Enter body opened.uses ∷ outer
  pub binds : BindsBody work.symbols u.env scope s body

abbrev pub IsIn : Work → UnitScope → List Frames → ScopedState → (scope : ℕ) → Frames → (in_body : Bool) → Type 0
IsIn work u ls s scope fs false = (scope ≡ u.root) × (fs ≡ [])
IsIn work u ls s scope fs true = IsInBody work u ls s scope fs

-- a unit's own scope, or that of the body whose forms are gone through
pub record SpotFor (work : Work) (u : UnitScope) (ls : List Frames) (s : ScopedState) (spot : code_spot.Spot) (fs : Frames) : Type 0 where
  pub at : At ls spot.scope fs
  pub inside : IsIn work u ls s spot.scope fs spot.in_body

-- ---- how much is left

abbrev pub forms_size : List (Form Identifier) → ℕ
forms_size [] = 0
forms_size (f ∷ fs) = tree_size f.tree + forms_size fs

-- a use gives a tree of 4,194,304 nodes at most, and at most 10,000 are made
abbrev pub left_with : List (Form Identifier) → (uses : ℕ) → ℕ
left_with fs uses = forms_size fs + 4194305 * (10000 - uses)
