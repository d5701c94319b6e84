-- Notes under other numbers: identifiers stay by their numbers in the table, and so do editions of rules.
use Rattle.std.specs.Prelude.{◌≡◌, ℕ}
use Rattle.scheme_model.specs.RulesShape.{option_map}
use Rattle.form_notes.specs.Noted.{Noted, Since}
use Rattle.form_notes.specs.declared.notes.Note.{Note}
use Rattle.form_notes.specs.declared.notes.Question.{Question}
use Rattle.form_notes.specs.declared.notes.Question.TheVariants.{Lookup, Literal, Rules, Assigned, Library, Definition}
use Rattle.renumbering_laws.specs.Renumbering.{Renumbering, place}
use Rattle.renumbering_laws.specs.Asked.{new_question, new_answer, new_macro}
use Rattle.moves.specs.Numbers.{meaning_as}

abbrev pub question_as : Renumbering → Question → Question
question_as r (Lookup ident answer keyword) = Lookup ident (meaning_as r answer) keyword
question_as r (Literal literal ident answer) = Literal literal ident answer
question_as r (Rules meaning edition) = Rules (meaning_as r meaning) edition
question_as r (Assigned ident answer) = Assigned ident answer
question_as r (Library name answer) = Library name answer
question_as r (Definition d answer) = Definition (record d { occ = place r d.occ }) answer

abbrev pub note_as : Renumbering → Note → Note
note_as r x = record { behind = x.behind; question = question_as r x.question }

-- the question and its answer under the new numbers, and as many definitions of the form
abbrev pub noted_as : Renumbering → Noted → Noted
noted_as r m = record { behind = m.behind; question = new_question r m.question; answer = new_answer r m.answer }

-- a part of a form that began at the same place under the new numbers, where editions are of the same rules under them
pub record SinceMoves (r : Renumbering) (old new : Since) : Type 0 where
  pub unit : new.unit ≡ r.unit old.unit
  pub form : new.form ≡ r.form old.unit old.form
  pub editions : (n : ℕ) → new.editions n ≡ option_map (new_macro r) (old.editions n)
