-- Whether what a form asked has its answers still, asked outside of all forms (R7RS 4.3, 5.3).
use Rattle.std.specs.Prelude.{◌≡◌, ℕ, List, [], Bool, false, not, Option, Some, None}
use Rattle.std.specs.List.{Contains}
use Rattle.scheme_model.specs.Meaning.{Meaning}
use Rattle.scheme_model.specs.RulesShape.{option_map}
use Rattle.scheme_model.specs.ScopedExpansion.{Frames, macro_at}
use Rattle.scheme_model.specs.Questions.{Around, Question, LooksUp, UsesRules, Compares, IsAssigned, Requires, Defines, Answer, answer, bare_macro}
use Rattle.scheme_model.specs.FormsAlike.{start}
use Rattle.scheme_tokens.specs.LibraryNames.{IsProper}
use Rattle.syntax_tree.specs.Meant.{IsMeaning}
use Rattle.syntax_tree.specs.declared.trees.Work.{Work}
use Rattle.feature_requirements.specs.Judged.{Knows}
use Rattle.form_laws.specs.Begins.{IsEntry}
use Rattle.form_notes.specs.Noted.{Noted, Since, is_local}
use Rattle.form_notes.specs.Standing.{IsNote}
use Rattle.form_notes.specs.declared.notes.Note as code_note
use Rattle.form_notes.specs.declared.notes.Question as code_question
use Rattle.form_notes.specs.declared.notes.Question.TheVariants as code
use Rattle.unit_scopes.specs.Editions.{EditionsTell}
use Rattle.unit_scopes.specs.Macros.{edition_in}
use Rattle.unit_scopes.specs.State.{Rests}
use Rattle.unit_scopes.specs.declared.scope.UnitScope.{UnitScope}

-- the answer where the form begins
abbrev pub answer_now : Around → Question → Answer
answer_now v q = answer v (start v.state) q

-- Questions that are asked outside of all forms: the rules of no local, a library by a name that can be read. How a definition ends is
-- asked where it is made.
abbrev pub IsAskedOutside : Question → Type 0
IsAskedOutside (LooksUp i) = Unit {0}
IsAskedOutside (UsesRules m) = is_local m ≡ false
IsAskedOutside (Compares l i) = Unit {0}
IsAskedOutside (IsAssigned i) = Unit {0}
IsAskedOutside (Requires l) = IsProper l
IsAskedOutside (Defines fs x r ns) = ⊥

-- the open unit's scopes, between two forms: nothing local is there, and the editions of macros tell their rules
pub record CanAsk (work : Work) (u : UnitScope) (v : Around) (r : Since) : Type 0 where
  pub layout : List Frames
  pub rests : Rests work u layout v.state
  pub places : v.state.places ≡ []
  pub entries : (n : ℕ) (x : List ℕ) → IsEntry (v.state.entry n x)
  pub knows : Knows u.libraries v.known
  pub editions : EditionsTell work.symbols u.macros v.state r.editions

-- a macro of the rules that a note tells has the note's edition
abbrev pub KeepsEdition : Work → UnitScope → Around → Since → code_question.Question → Type 0
KeepsEdition work u v r (code.Lookup n c k) = Unit {0}
KeepsEdition work u v r (code.Literal l n h) = Unit {0}
KeepsEdition work u v r (code.Rules c e) =
    (m : Meaning) → IsMeaning work.symbols v.state.unit v.state.form c m → r.editions e ≡ option_map bare_macro (macro_at v.state.macros m) → edition_in u.macros v.state.form c ≡ e
KeepsEdition work u v r (code.Assigned n h) = Unit {0}
KeepsEdition work u v r (code.Library x h) = Unit {0}
KeepsEdition work u v r (code.Definition d o) = Unit {0}

-- what a note tells has its answer still, wherever it can be asked outside of all forms
abbrev pub HasAnswer : Work → UnitScope → code_note.Note → Type 0
HasAnswer work u x =
    (v : Around) (r : Since) (m : Noted) → CanAsk work u v r → IsNote work.symbols r x m → IsAskedOutside m.question → answer_now v m.question ≡ m.answer

-- whether a unit defines a variable, by the table of what it defines as keywords
abbrev pub variable_by : Option Bool → Bool
variable_by None = false
variable_by (Some keyword) = not keyword

-- ---- all notes

abbrev pub IsDefinition : Question → Type 0
IsDefinition (LooksUp i) = ⊥
IsDefinition (UsesRules m) = ⊥
IsDefinition (Compares l i) = ⊥
IsDefinition (IsAssigned i) = ⊥
IsDefinition (Requires l) = ⊥
IsDefinition (Defines fs x r ns) = Unit {0}

-- it was asked before the form had defined anything, and isn't how a definition ends
abbrev pub IsAtStart : Noted → Type 0
IsAtStart m = (m.behind ≡ 0) × (IsDefinition m.question → ⊥)

abbrev pub AreAskedOutside : List Noted → Type 0
AreAskedOutside ms = (m : Noted) → Contains ms m → IsAtStart m → IsAskedOutside m.question

-- what was asked at the start is asked outside of all forms, and macros keep their editions
pub record CanAskAll (work : Work) (u : UnitScope) (v : Around) (r : Since) (xs : List code_note.Note) (ms : List Noted) : Type 0 where
  pub outside : AreAskedOutside ms
  pub editions : (x : code_note.Note) → Contains xs x → KeepsEdition work u v r x.question

-- what was asked at the start has its answers
abbrev pub HaveAnswers : Around → List Noted → Type 0
HaveAnswers v ms = (m : Noted) → Contains ms m → IsAtStart m → answer_now v m.question ≡ m.answer
