-- Questions that are noted, as notes (R7RS 4.3, 5.3): each has its answer, and tells how many definitions the form had made in its unit by
-- then.
use Rattle.std.specs.Prelude.{◌≡◌, ℕ, List, [], map, length, Option, Some}
use Rattle.scheme_model.specs.Ident.{Ident}
use Rattle.scheme_model.specs.Trees.{Tree}
use Rattle.scheme_model.specs.Meaning.{Global}
use Rattle.scheme_model.specs.Order.{Transformer, run}
use Rattle.scheme_model.specs.UnitExpansion.{one_form}
use Rattle.scheme_model.specs.ScopedExpansion.{Frames, ScopedState}
use Rattle.scheme_model.specs.Questions.{Moment, Around, Question, LooksUp, UsesRules, Compares, IsAssigned, Requires, Defines, bare, answer}
use Rattle.scheme_model.specs.FormsAlike.{bare_note}
use Rattle.form_notes.specs.Noted.{Noted, Since, beginning}
use Rattle.noted_steps.specs.Noting.{noting, begun, state_of}

-- without the times at which bodies were entered
abbrev pub bare_question : Question → Question
bare_question (LooksUp i) = LooksUp i
bare_question (UsesRules m) = UsesRules m
bare_question (Compares l i) = Compares l i
bare_question (IsAssigned i) = IsAssigned i
bare_question (Requires l) = Requires l
bare_question (Defines fs x r ns) = Defines (bare fs) x r (map bare_note ns)

abbrev pub bare_noted : Noted → Noted
bare_noted m = record { behind = m.behind; question = bare_question m.question; answer = m.answer }

-- a question at its moment
abbrev pub told : Around → Moment × Question → Noted
told w q = record { behind = length q.0.table; question = bare_question q.1; answer = answer w q.0 q.1 }

-- a part of the form begins, where editions tell these macros
abbrev pub since_of : Around → (ℕ → Option (Transformer Frames Ident)) → Since
since_of w e = beginning w.state.unit w.state.form (w.state.uses w.state.form) e

-- the form is gone through: what it comes to, and what it noted by then
abbrev pub goes_noting : Around → ℕ → Tree Ident → (ℕ → Option (Transformer Frames Ident)) → ScopedState × List Noted
goes_noting w turns t e = let s = (run (noting w.known) turns [] (one_form t w.notes) (begun (length w.notes) (since_of w e) w.state)).1 in (state_of s, s.noted)

-- the unit at work imports nothing of its own
abbrev pub ImportsOthers : ScopedState → Type 0
ImportsOthers s = (u : ℕ) (x : List ℕ) (i : Ident) → s.entry u x ≡ Some (Global s.unit i) → ⊥
