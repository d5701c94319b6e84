-- Notes that are tested in other surroundings of the form (R7RS 4.3, 5.3): those of the form's start, whatever is around it by now.
use Rattle.std.specs.Prelude.{◌≡◌, Bool, true, false}
use Rattle.scheme_model.specs.Questions.{Moment, Around, Question, LooksUp, UsesRules, Compares, IsAssigned, Requires, Defines, answer, SameAnswer}
use Rattle.scheme_model.specs.FormsAlike.{start}
use Rattle.form_notes.specs.Noted.{Noted}

abbrev pub is_definition : Question → Bool
is_definition (LooksUp i) = false
is_definition (UsesRules m) = false
is_definition (Compares l i) = false
is_definition (IsAssigned i) = false
is_definition (Requires l) = false
is_definition (Defines fs x r ns) = true

-- it is asked when the form begins, and is no definition of its own
pub record IsOfStart (m : Noted) : Type 0 where
  pub behind : m.behind ≡ 0
  pub looks : is_definition m.question ≡ false

-- it has its answer there
abbrev pub HasAnswer : Around → Noted → Type 0
HasAnswer v m = answer v (start v.state) m.question ≡ m.answer

-- a question that is asked when the form begins has the same answer in both
abbrev pub SameAtStart : Around → Around → Moment × Question → Type 0
SameAtStart w v q = q.0 ≡ start w.state → is_definition q.1 ≡ false → SameAnswer w v q
