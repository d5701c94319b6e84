-- How far a form is declared again (R7RS 5.3): its definitions by now, and what its notes by now have told.
use Rattle.std.specs.Prelude.{◌≡◌, ℕ, ◌+◌, ◌<◌, ◌≤◌, List, [], ◌∷◌, ◌++◌, length, slice_get, reverse, take, drop, Bool, true, false, Option, Some, None, Result, Ok, Err}
use Rattle.std.specs.List.{Contains}
use Rattle.scheme_model.specs.ExpansionFaults.{Named}
use Rattle.scheme_model.specs.Ident.{Ident}
use Rattle.scheme_model.specs.Meaning.{Global}
use Rattle.scheme_model.specs.Order.{Note, Transformer, is_some}
use Rattle.scheme_model.specs.Leaves.{leaves_of}
use Rattle.scheme_model.specs.RulesShape.{Rules}
use Rattle.scheme_model.specs.Substitution.{defined_in}
use Rattle.scheme_model.specs.ScopedExpansion.{Frames, FramedIdent, ScopedState, macro_at, macro_added, is_defined}
use Rattle.scheme_model.specs.Questions.{Moment, Around, Question}
use Rattle.forgotten_locals.specs.Outside.{macros_outside, outside}
use Rattle.ls_base.specs.declared.Memory.{Memory}
use Rattle.rules_check.specs.Gathered.{AreLeaves}
use Rattle.syntax_tree.specs.Macros.{identifiers, RulesFor, AreChecked}
use Rattle.syntax_tree.specs.Names.{Names}
use Rattle.syntax_tree.specs.declared.meaning.Meaning.TheVariants as meanings
use Rattle.syntax_tree.specs.declared.trees.Work.{Work}
use Rattle.core_forms.specs.Parts.{IsName}
use Rattle.core_forms.specs.declared.shape.NamePart.{NamePart}
use Rattle.core_tree.specs.Names.{AllMatch}
use Rattle.form_notes.specs.Standing.{IsNote, stood}
use Rattle.form_notes.specs.declared.notes.Definition.{Definition}
use Rattle.form_notes.specs.declared.notes.Note as code_note
use Rattle.form_notes.specs.declared.notes.Outcome as code_outcome
use Rattle.form_notes.specs.declared.notes.Question as code_question
use Rattle.form_notes.specs.declared.notes.Question.TheVariants as code
use Rattle.form_parts.specs.declared.items.Spot.{Spot}
use Rattle.unit_scopes.specs.Asks.{AskedStands}
use Rattle.unit_scopes.specs.Editions.{EditionsTell}
use Rattle.unit_scopes.specs.Kept.{NotesFor}
use Rattle.unit_scopes.specs.Macros.{macro_in}
use Rattle.unit_scopes.specs.Outcomes.{At}
use Rattle.unit_scopes.specs.State.{Stands}
use Rattle.unit_scopes.specs.declared.asked.Asked.{Asked}
use Rattle.unit_scopes.specs.declared.asked.Note as asked_note
use Rattle.unit_scopes.specs.declared.asked.Note.TheVariants as asked_notes
use Rattle.unit_scopes.specs.declared.macros.Macro.{Macro}
use Rattle.unit_scopes.specs.declared.scope.FormAtWork.{FormAtWork}
use Rattle.unit_scopes.specs.declared.scope.UnitScope.{UnitScope}
use Rattle.note_laws.specs.Moments.{IsBefore}
use Rattle.note_laws.specs.Told.{told, since_of}
use Rattle.declared_parts.specs.Again.{Again, moment_of, own_notes, noted_of, SameLater, AreSameLater, CanDeclare, HasEditions}
use Rattle.declared_parts.specs.Parts.{OwnNoteFor, IsKeptMacro, keyword_notes}
use Rattle.declared_parts.specs.Undone.{SameRest, AreDefined}
use Rattle.declared_parts.specs.declared.again.Going.{Going}
use Rattle.declared_parts.specs.declared.parts.DeclaredPart.{DeclaredPart}
use Rattle.declared_parts.specs.declared.parts.KeptMacro.{KeptMacro}
use Rattle.declared_parts.specs.declared.parts.OwnNote as code_own
use Rattle.declared_parts.specs.declared.parts.OwnNote.TheVariants as own_notes_of

-- ---- one note

-- it tells this question
abbrev pub Tells : (work : Work) (u : UnitScope) (number : ℕ) (part : DeclaredPart) (can : CanDeclare work u number part) → code_note.Note → Moment × Question → Type 0
Tells work u number part can x q = Contains (noted_of can.again) q × IsNote work.symbols (since_of can.again.before can.editions) x (told can.again.before q)

-- what it tells has the same answer in both, or another one
abbrev pub TellsSame : (work : Work) (u : UnitScope) (number : ℕ) (part : DeclaredPart) (can : CanDeclare work u number part) → code_note.Note → Type 0
TellsSame work u number part can x = (q : Moment × Question) → Tells work u number part can x q → SameLater can.again.before can.again.now q

abbrev pub TellsOther : (work : Work) (u : UnitScope) (number : ℕ) (part : DeclaredPart) (can : CanDeclare work u number part) → code_note.Note → Type 0
TellsOther work u number part can x = (q : Moment × Question) → Tells work u number part can x q → SameLater can.again.before can.again.now q → ⊥

-- a definition, and how it ends
abbrev pub definition_in : code_question.Question → Option (Definition × code_outcome.Outcome)
definition_in (code.Lookup ident meaning keyword) = None
definition_in (code.Literal literal ident holds) = None
definition_in (code.Rules meaning edition) = None
definition_in (code.Assigned ident is) = None
definition_in (code.Library name is) = None
definition_in (code.Definition d ends) = Some (d, ends)

-- its note, behind so many others
abbrev pub note_of : Definition → code_outcome.Outcome → ℕ → code_note.Note
note_of d ends behind = record { behind = behind; question = code.Definition d ends }

abbrev pub name_of : Definition → NamePart
name_of d = record { ident = d.ident; occ = d.occ }

-- ---- its own notes

-- in the unit's own scope
abbrev pub own_spot : UnitScope → Spot
own_spot u = record { scope = u.root; in_body = false }

abbrev pub note_at : ℕ → code_own.OwnNote → asked_note.Note
note_at root (own_notes_of.LookedUp i h k) = asked_notes.LookedUp (record { scope = root; ident = i }) h k
note_at root (own_notes_of.Compared l i h) = asked_notes.Compared (record { scope = root; ident = l }) (record { scope = root; ident = i }) h

-- so many of them
abbrev pub notes_first : ℕ → List (Note FramedIdent) → List (Note FramedIdent)
notes_first n own = reverse (take n (reverse own))

pub record OwnSoFar (work : Work) (ls : List Frames) (own : List (Note FramedIdent)) (asked : Asked) (n : ℕ) : Type 0 where
  pub few : n ≤ length own
  pub notes : NotesFor work ls asked (notes_first n own)

pub record CanSetOwn (work : Work) (u : UnitScope) (part : DeclaredPart) (ls : List Frames) (own : List (Note FramedIdent)) (asked : ℕ) (g : Going) : Type 0 where
  pub root : At ls u.root []
  pub kept : AllMatch (OwnNoteFor work.symbols) part.asked (reverse own)
  pub few : asked ≤ length own
  pub now : OwnSoFar work ls own g.own g.asked

-- ---- its macros

-- one of them in a scope
pub record IsMacroIn (root : ℕ) (k : KeptMacro) (m : Macro) : Type 0 where
  pub scope : m.scope ≡ root
  pub rules : m.rules ≡ k.rules
  pub leaves : m.leaves.items ≡ k.leaves
  pub edition : m.edition ≡ k.edition

-- the next one, where a keyword is defined
abbrev pub IsNextMacro : ℕ → Option KeptMacro → (keyword : Bool) → Option Macro → Type 0
IsNextMacro root next false kept = kept ≡ None
IsNextMacro root None true kept = ⊥
IsNextMacro root (Some k) true None = ⊥
IsNextMacro root (Some k) true (Some m) = IsMacroIn root k m

-- ---- what was made by now

-- what isn't local of what is around the form and of what it has made by a moment
abbrev pub settled : Around → Moment → ScopedState
settled v n = record (outside v.state) { table = n.table ++ v.state.table; macros = macros_outside n.macros ++ macros_outside v.state.macros }

-- the unit has the first of these macros, with their editions
abbrev pub HasMacros : UnitScope → List KeptMacro → ℕ → Type 0
HasMacros u ks n = (i : ℕ) (k : KeptMacro) (form : ℕ) → i < n → slice_get ks i ≡ Some k → (m : Macro) × (macro_in u.macros form (meanings.Global u.unit k.ident) ≡ Some m) × (m.edition ≡ k.edition)

-- each macro of the unit has a definition
abbrev pub AreMacrosDefined : ScopedState → Type 0
AreMacrosDefined s = (i : Ident) → is_some (macro_at s.macros (Global s.unit i)) ≡ true → is_some (defined_in s.table s.unit i) ≡ true

-- the form has made so many definitions
pub record GoesOn (work : Work) (old : UnitScope) (number : ℕ) (part : DeclaredPart) (can : CanDeclare work old number part) (u : UnitScope) (g : Going) (made : ℕ) : Type 0 where
  pub moment : Moment
  pub before : IsBefore moment (moment_of can.again)
  pub count : length moment.table ≡ made
  pub stands : Stands work u can.layout (settled can.again.now moment)
  pub closed : AreMacrosDefined (settled can.again.now moment)
  pub tells : EditionsTell work.symbols u.macros (settled can.again.now moment) can.editions
  pub rest : SameRest old u
  pub flat : (n : ℕ) (fs : Frames) → slice_get can.layout n ≡ Some fs → fs ≡ []
  pub roots : u.env.roots ≡ old.env.roots
  pub scopes : length u.env.scopes ≡ length old.env.scopes
  pub own : OwnSoFar work can.layout (own_notes can.again) g.own g.asked
  pub back : AreDefined old u (reverse g.made.items)
  pub given : HasMacros u part.macros g.macros

-- ---- a definition

-- a definition of this name, in view of these notes of the form and those of the unit before it, in a state that the scopes stand for
pub record CanEnd (work : Work) (u : UnitScope) (d : Definition) (asked : Asked) (ls : List Frames) (s : ScopedState) (x : Named Ident) (ns ms : List (Note FramedIdent)) : Type 0 where
  pub stands : Stands work u ls s
  pub is : IsName work (name_of d) x
  pub own : NotesFor work ls asked ns
  pub notes : NotesFor work ls u.asked ms

-- the macro of a keyword has these rules, and none has a variable
abbrev pub HasMacro : Work → (ℕ → Option (Transformer Frames Ident)) → Option KeptMacro → (keyword : Bool) → Option (Rules Ident) → Type 0
HasMacro work editions kept false rules = Unit {0}
HasMacro work editions kept true None = ⊥
HasMacro work editions None true (Some r) = ⊥
HasMacro work editions (Some k) true (Some r) =
    AreChecked work k.rules × RulesFor work k.rules r × AreLeaves work.symbols k.leaves (leaves_of identifiers r) × (editions k.edition ≡ Some (record { env = []; rules = r }))

-- it is the next one of the form, and stands; and so is its macro
pub record IsNext (work : Work) (x : Again) (editions : ℕ → Option (Transformer Frames Ident)) (n : Moment) (d : Definition) (kept : Option KeptMacro) : Type 0 where
  pub name : Named Ident
  pub rules : Option (Rules Ident)
  pub is : IsName work (name_of d) name
  pub keyword : d.keyword ≡ is_some rules
  pub macro : HasMacro work editions kept d.keyword rules
  pub named : (k : KeptMacro) → kept ≡ Some k → d.keyword ≡ true → k.ident ≡ d.ident
  pub new : is_defined (settled x.now n) None name.name ≡ false
  pub after : Moment
  pub before : IsBefore after (moment_of x)
  pub table : after.table ≡ record { unit = x.now.state.unit; form = x.now.state.form; ident = name.name; keyword = is_some rules; occ = name.occ } ∷ n.table
  pub macros : macros_outside after.macros ≡ macro_added (Global x.now.state.unit name.name) [] rules (macros_outside n.macros)

-- the macros that are left are those of these notes
abbrev pub KeptFrom : (work : Work) (u : UnitScope) (number : ℕ) (part : DeclaredPart) (can : CanDeclare work u number part) → ℕ → List code_note.Note → Type 0
KeptFrom work u number part can n xs = AllMatch (IsKeptMacro work (since_of can.again.before can.editions) can.kept.noted) (drop n part.macros) (keyword_notes xs)

-- ---- where it begins, and how it goes

pub record IsNewForm (n : ℕ) (f : FormAtWork) : Type 0 where
  pub number : f.number ≡ n
  pub budget : f.budget ≡ record { uses = 0; nodes = 0; locals = 0 }
  pub definitions : f.trace.definitions ≡ []
  pub keywords : f.trace.keywords ≡ []
  pub uses : f.trace.uses ≡ []

pub record IsNothing (g : Going) : Type 0 where
  pub own : g.own.notes.items ≡ []
  pub stands : (names : Names) → AskedStands names g.own
  pub asked : g.asked ≡ 0
  pub macros : g.macros ≡ 0
  pub made : g.made.items ≡ []

module _ (work : Work) (old : UnitScope) (number : ℕ) (part : DeclaredPart) (can : CanDeclare work old number part) where
  -- a note has its answer, and its definition is made where it stands; or it has another one
  abbrev pub HasGoneBy : code_note.Note → List code_note.Note → (made : ℕ) → UnitScope → Going → Result Bool Memory → Type 0
  HasGoneBy x left made u g (Ok true) = TellsSame work old number part can x × GoesOn work old number part can u g (made + stood x.question) × KeptFrom work old number part can g.macros left
  HasGoneBy x left made u g (Ok false) = TellsOther work old number part can x × GoesOn work old number part can u g made
  HasGoneBy x left made u g (Err e) = Unit {0}

  -- all notes have theirs, and all definitions are made, with the editions of macros; or not
  abbrev pub HasGone : UnitScope → Going → Result Bool Memory → Type 0
  HasGone u g (Ok true) = AreSameLater can.again × GoesOn work old number part can u g (length (moment_of can.again).table) × HasEditions part u
  HasGone u g (Ok false) = (AreSameLater can.again → ⊥) × ((made : ℕ) × GoesOn work old number part can u g made)
  HasGone u g (Err e) = Unit {0}
