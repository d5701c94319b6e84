-- What is kept of a form that was gone through (R7RS 5.3): what it looked up and compared in its unit, all that it noted, and the macros that
-- it defined there.
use Rattle.std.specs.Prelude.{◌≡◌, ℕ, List, [], ◌∷◌, ◌++◌, filter, reverse, Option, Some, None, if◌then◌else◌}
use Rattle.std.specs.List.{Contains}
use Rattle.scheme_model.specs.ExpansionFaults.{Named}
use Rattle.scheme_model.specs.Ident.{Ident as Identifier}
use Rattle.scheme_model.specs.Leaves.{leaves_of}
use Rattle.scheme_model.specs.Meaning.{Global}
use Rattle.scheme_model.specs.Order.{Note, LookedUp, Compared, is_some}
use Rattle.scheme_model.specs.Questions.{Question, LooksUp, UsesRules, Compares, IsAssigned, Requires, Defines, Ends, Stands}
use Rattle.scheme_model.specs.RulesShape.{Rules}
use Rattle.scheme_model.specs.ScopedExpansion.{Frames, FramedIdent, ScopedState, macro_at}
use Rattle.syntax_tree.specs.Names.{Names}
use Rattle.syntax_tree.specs.Macros.{identifiers, IsIdent, RulesFor, AreChecked}
use Rattle.syntax_tree.specs.declared.meaning.Meaning.TheVariants as meanings
use Rattle.syntax_tree.specs.declared.trees.Work.{Work}
use Rattle.rules_check.specs.Gathered.{AreLeaves}
use Rattle.core_tree.specs.Names.{AllMatch}
use Rattle.form_notes.specs.Noted.{Noted, Since}
use Rattle.form_notes.specs.Standing.{IsNote, HaveNotes, InOrder, RisesTo}
use Rattle.form_notes.specs.declared.notes.Definition.{Definition}
use Rattle.form_notes.specs.declared.notes.Note as code_note
use Rattle.form_notes.specs.declared.notes.Outcome as code_outcome
use Rattle.form_notes.specs.declared.notes.Outcome.TheVariants as outcomes
use Rattle.form_notes.specs.declared.notes.Question as code_question
use Rattle.form_notes.specs.declared.notes.Question.TheVariants as questions
use Rattle.form_notes.specs.declared.noting.Noting as code_noting
use Rattle.unit_scopes.specs.Macros.{macro_in}
use Rattle.unit_scopes.specs.declared.asked.Note as unit_note
use Rattle.unit_scopes.specs.declared.asked.Note.TheVariants as unit_notes
use Rattle.unit_scopes.specs.declared.macros.Macro.{Macro}
use Rattle.unit_scopes.specs.declared.macros.Macros.{Macros}
use Rattle.declared_parts.specs.declared.parts.DeclaredPart.{DeclaredPart}
use Rattle.declared_parts.specs.declared.parts.KeptMacro.{KeptMacro}
use Rattle.declared_parts.specs.declared.parts.OwnNote as own_note
use Rattle.declared_parts.specs.declared.parts.OwnNote.TheVariants as own

-- ---- what the form looked up and compared

-- a note of the unit without its scopes
abbrev pub without_scopes : unit_note.Note → own_note.OwnNote
without_scopes (unit_notes.LookedUp at head keyword) = own.LookedUp at.ident head keyword
without_scopes (unit_notes.Compared literal at held) = own.Compared literal.ident at.ident held

-- it was asked in the unit itself
abbrev pub OwnNoteFor : Names → own_note.OwnNote → Note FramedIdent → Type 0
OwnNoteFor names (own.LookedUp n h k) (LookedUp p head keyword) = IsIdent names n p.ident × (p.frames ≡ []) × (h ≡ head) × (k ≡ keyword)
OwnNoteFor names (own.LookedUp n h k) (Compared p q held) = ⊥
OwnNoteFor names (own.Compared l n h) (LookedUp p head keyword) = ⊥
OwnNoteFor names (own.Compared l n h) (Compared p q held) = IsIdent names l p.ident × (p.frames ≡ []) × IsIdent names n q.ident × (q.frames ≡ []) × (h ≡ held)

-- ---- the macros that it defined

-- the identifier that a definition made a keyword
abbrev pub keyword_if : Definition → code_outcome.Outcome → Option ℕ
keyword_if d outcomes.Stands = if d.keyword then Some d.ident else None
keyword_if d outcomes.Redefines = None
keyword_if d outcomes.StoodBefore = None

abbrev pub keyword_made : code_question.Question → Option ℕ
keyword_made (questions.Lookup n meaning keyword) = None
keyword_made (questions.Literal l n holds) = None
keyword_made (questions.Rules meaning edition) = None
keyword_made (questions.Assigned n is) = None
keyword_made (questions.Library name is) = None
keyword_made (questions.Definition d ends) = keyword_if d ends

abbrev pub keyword_notes : List code_note.Note → List code_note.Note
keyword_notes xs = filter (λ x. is_some (keyword_made x.question)) xs

-- the macro that an identifier was defined as
abbrev pub kept_as : ℕ → Macro → KeptMacro
kept_as n k = record { ident = n; rules = k.rules; leaves = k.leaves.items; edition = k.edition }

abbrev pub kept_if : ℕ → Option Macro → List KeptMacro
kept_if n None = []
kept_if n (Some k) = kept_as n k ∷ []

abbrev pub macro_taken : Macros → (form unit : ℕ) → Option ℕ → List KeptMacro
macro_taken macros form unit None = []
macro_taken macros form unit (Some n) = kept_if n (macro_in macros form (meanings.Global unit n))

abbrev pub macros_taken : Macros → (form unit : ℕ) → List code_note.Note → List KeptMacro
macros_taken macros form unit [] = []
macros_taken macros form unit (x ∷ xs) = macro_taken macros form unit (keyword_made x.question) ++ macros_taken macros form unit xs

-- the rules of a definition
abbrev pub rules_defined : Question → Option (Rules Identifier)
rules_defined (LooksUp i) = None
rules_defined (UsesRules m) = None
rules_defined (Compares l i) = None
rules_defined (IsAssigned i) = None
rules_defined (Requires l) = None
rules_defined (Defines fs x r ns) = r

-- the macro of the definition that a note tells, with the edition that tells its rules
pub record IsKeptMacro (work : Work) (r : Since) (ms : List Noted) (k : KeptMacro) (x : code_note.Note) : Type 0 where
  pub keyword : keyword_made x.question ≡ Some k.ident
  pub noted : Noted
  pub there : Contains ms noted
  pub is : IsNote work.symbols r x noted
  pub rules : Rules Identifier
  pub defines : rules_defined noted.question ≡ Some rules
  pub checked : AreChecked work k.rules
  pub stands : RulesFor work k.rules rules
  pub leaves : AreLeaves work.symbols k.leaves (leaves_of identifiers rules)
  pub edition : r.editions k.edition ≡ Some (record { env = []; rules = rules })

-- ---- the whole

-- What is kept stands for these notes of the form in its unit, latest first, and for these that it noted, told in order from no definition
-- to as many as it made; the macros are those that its definitions made.
pub record IsPart (work : Work) (r : Since) (part : DeclaredPart) (own : List (Note FramedIdent)) (ms : List Noted) : Type 0 where
  pub asked : AllMatch (OwnNoteFor work.symbols) part.asked (reverse own)
  pub notes : HaveNotes work.symbols r part.notes ms
  pub made : ℕ
  pub order : RisesTo part.notes 0 made
  pub macros : AllMatch (IsKeptMacro work r ms) part.macros (keyword_notes part.notes)

-- ---- where it is taken

-- the form's notes are these, all of its first part, which began where its unit had so many notes
pub record HasDeclared (names : Names) (x : code_noting.Noting) (r : Since) (ms : List Noted) (count : ℕ) : Type 0 where
  pub notes : HaveNotes names r x.notes ms
  pub made : ℕ
  pub order : InOrder x.first x.notes made
  pub first : x.first ≡ 0
  pub before : x.before ≡ count

-- macros that were noted to be defined are there
abbrev pub MacrosThere : ScopedState → List Noted → Type 0
MacrosThere s ms =
    (m : Noted) (fs : Frames) (x : Named Identifier) (rules : Rules Identifier) (ns : List (Note FramedIdent)) → Contains ms m → m.question ≡ Defines fs x (Some rules) ns → m.answer ≡ Ends Stands →
    macro_at s.macros (Global s.unit x.name) ≡ Some (record { env = []; rules = rules })
