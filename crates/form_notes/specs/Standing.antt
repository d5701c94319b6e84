-- What the notes of the code stand for.
use Rattle.std.specs.Prelude.{◌≡◌, ◌⊎◌, ℕ, ◌+◌, ◌<◌, List, [], ◌∷◌, ◌++◌, length, Bool, true, false, ◌==◌, Option}
use Rattle.std.specs.BTreeSet.{BTreeSet, contains, btree_set_len}
use Rattle.std.specs.List.{Contains}
use Rattle.std.specs.Ordering.{nat_cmp}
use Rattle.scheme_model.specs.ExpansionFaults.{Named}
use Rattle.scheme_model.specs.Ident.{Ident as Identifier}
use Rattle.scheme_model.specs.Meaning.{Meaning}
use Rattle.scheme_model.specs.Order.{Note, is_some}
use Rattle.scheme_model.specs.Requirements.{LibraryName}
use Rattle.scheme_model.specs.RulesShape.{Rules}
use Rattle.scheme_model.specs.ScopedExpansion.{Frames, FramedIdent}
use Rattle.scheme_model.specs.Questions.{Outcome, Stands, Redefines, StoodBefore, Question, LooksUp, UsesRules, Compares, IsAssigned, Requires, Defines, Answer, Means, Expands, Says, Ends}
use Rattle.scheme_tokens.specs.LibraryNames.{library_text}
use Rattle.syntax_tree.specs.Names.{Names}
use Rattle.syntax_tree.specs.Macros.{IsIdent}
use Rattle.syntax_tree.specs.Meant.{IsMeaning}
use Rattle.question_laws.specs.Noted.{is_defined_in}
use Rattle.form_notes.specs.Noted.{Noted, Since}
use Rattle.form_notes.specs.declared.notes.Definition.{Definition}
use Rattle.form_notes.specs.declared.notes.Note as code_note
use Rattle.form_notes.specs.declared.notes.Outcome as code_outcome
use Rattle.form_notes.specs.declared.notes.Outcome.TheVariants as outcomes
use Rattle.form_notes.specs.declared.notes.Question as code_question
use Rattle.form_notes.specs.declared.notes.Question.TheVariants as code
use Rattle.form_notes.specs.declared.noting.Noting as code_noting

-- ---- one note

abbrev pub outcome_as : code_outcome.Outcome → Outcome
outcome_as outcomes.Stands = Stands
outcome_as outcomes.Redefines = Redefines
outcome_as outcomes.StoodBefore = StoodBefore

-- how a definition fails
abbrev pub failed_as : (redefines : Bool) → Outcome
failed_as true = Redefines
failed_as false = StoodBefore

-- a definition in the unit, in view of these notes of its form
pub record IsDefinitionOf (names : Names) (d : Definition) (x : Named Identifier) (rules : Option (Rules Identifier)) (ns : List (Note FramedIdent)) : Type 0 where
  pub name : IsIdent names d.ident x.name
  pub place : d.occ ≡ x.occ
  pub keyword : d.keyword ≡ is_some rules
  pub asked : d.asked ≡ length ns

abbrev pub IsQuestion : Names → Since → code_question.Question → Question → Answer → Type 0
IsQuestion names r (code.Lookup ident meaning keyword) q a =
    (i : Identifier) × (m : Meaning) × (q ≡ LooksUp i) × (a ≡ Means m keyword) × IsIdent names ident i × IsMeaning names r.unit r.form meaning m
IsQuestion names r (code.Literal literal ident holds) q a = (l : Identifier) × (i : Identifier) × (q ≡ Compares l i) × (a ≡ Says holds) × IsIdent names literal l × IsIdent names ident i
IsQuestion names r (code.Rules meaning edition) q a = (m : Meaning) × (q ≡ UsesRules m) × (a ≡ Expands (r.editions edition)) × IsMeaning names r.unit r.form meaning m
IsQuestion names r (code.Assigned ident is) q a = (i : Identifier) × (q ≡ IsAssigned i) × (a ≡ Says is) × IsIdent names ident i
IsQuestion names r (code.Library name is) q a = (l : LibraryName) × (q ≡ Requires l) × (a ≡ Says is) × (name ≡ library_text l)
IsQuestion names r (code.Definition d ends) q a =
    (fs : Frames) × (x : Named Identifier) × (rules : Option (Rules Identifier)) × (ns : List (Note FramedIdent)) × (q ≡ Defines fs x rules ns) × (a ≡ Ends (outcome_as ends)) × IsDefinitionOf names d x rules ns

abbrev pub IsNote : Names → Since → code_note.Note → Noted → Type 0
IsNote names r x m = (x.behind ≡ m.behind) × IsQuestion names r x.question m.question m.answer

-- ---- all notes

-- each is there, and nothing else
pub record HaveNotes (names : Names) (r : Since) (xs : List code_note.Note) (ms : List Noted) : Type 0 where
  pub all : (m : Noted) → Contains ms m → (x : code_note.Note) × Contains xs x × IsNote names r x m
  pub alone : (x : code_note.Note) → Contains xs x → (m : Noted) × Contains ms m × IsNote names r x m

-- ---- their order

-- how many definitions of the form stand behind it, more than before it
abbrev pub made_by : code_outcome.Outcome → ℕ
made_by outcomes.Stands = 1
made_by outcomes.Redefines = 0
made_by outcomes.StoodBefore = 0

abbrev pub stood : code_question.Question → ℕ
stood (code.Lookup ident meaning keyword) = 0
stood (code.Literal literal ident holds) = 0
stood (code.Rules meaning edition) = 0
stood (code.Assigned ident is) = 0
stood (code.Library name is) = 0
stood (code.Definition d ends) = made_by ends

-- a definition is behind all that were made by then; all else is so too, or was asked as at the start
abbrev pub IsAsked : code_question.Question → (made behind : ℕ) → Type 0
IsAsked (code.Lookup ident meaning keyword) made behind = (behind ≡ 0) ⊎ (behind ≡ made)
IsAsked (code.Literal literal ident holds) made behind = (behind ≡ 0) ⊎ (behind ≡ made)
IsAsked (code.Rules meaning edition) made behind = (behind ≡ 0) ⊎ (behind ≡ made)
IsAsked (code.Assigned ident is) made behind = (behind ≡ 0) ⊎ (behind ≡ made)
IsAsked (code.Library name is) made behind = (behind ≡ 0) ⊎ (behind ≡ made)
IsAsked (code.Definition d ends) made behind = behind ≡ made

-- from so many definitions to so many
abbrev pub RisesTo : List code_note.Note → ℕ → ℕ → Type 0
RisesTo [] from to = from ≡ to
RisesTo (x ∷ xs) from to = IsAsked x.question from x.behind × RisesTo xs (from + stood x.question) to

-- behind the first ones the notes are in the order in which they were asked, from none to so many definitions
pub record InOrder (first : ℕ) (xs : List code_note.Note) (made : ℕ) : Type 0 where
  pub before : List code_note.Note
  pub since : List code_note.Note
  pub split : xs ≡ before ++ since
  pub count : length before ≡ first
  pub rises : RisesTo since 0 made

-- ---- while a part of a form is at work

pub record IsSince (x : code_noting.Noting) (r : Since) : Type 0 where
  pub unit : x.unit ≡ r.unit
  pub form : x.form ≡ r.form
  pub uses : x.begun ≡ r.uses

-- it has these definitions in its unit, each with a number, and none in others
pub record OwnStands (names : Names) (own : BTreeSet ℕ) (r : Since) : Type 0 where
  pub has : (n : ℕ) (i : Identifier) → IsIdent names n i → contains nat_cmp own n ≡ is_defined_in r.own r.unit i
  pub others : (u : ℕ) (i : Identifier) → (u == r.unit) ≡ false → is_defined_in r.own u i ≡ false
  pub named : (i : Identifier) → is_defined_in r.own r.unit i ≡ true → (n : ℕ) × IsIdent names n i
  pub within : (n : ℕ) → contains nat_cmp own n ≡ true → n < length names.idents
  pub count : btree_set_len own ≡ length r.own

pub record NotesStand (names : Names) (x : code_noting.Noting) (r : Since) (ms : List Noted) : Type 0 where
  pub own : OwnStands names x.own r
  pub notes : HaveNotes names r x.notes ms
  pub order : InOrder x.first x.notes (length r.own)

-- unless some were lost
pub record NotingStands (names : Names) (x : code_noting.Noting) (r : Since) (ms : List Noted) : Type 0 where
  pub since : IsSince x r
  pub stands : x.lost ≡ false → NotesStand names x r ms

-- the part at work is the one that was
pub record SameStart (old new : code_noting.Noting) : Type 0 where
  pub before : new.before ≡ old.before
  pub first : new.first ≡ old.first

-- a note more, or it is lost
pub record Adds (old new : code_noting.Noting) (x : code_note.Note) : Type 0 where
  pub rest : new ≡ record old { notes = new.notes; lost = new.lost }
  pub added : new.lost ≡ false → (old.lost ≡ false) × (new.notes ≡ old.notes ++ x ∷ [])
