-- The forms that are carried from a program to the next, since what they ask of what is around them has the same answers there, and the
-- work of an event: the macro uses of all forms that aren't carried.
use Rattle.std.specs.Prelude.{◌≡◌, ◌⊎◌, ℕ, ◌+◌, ◌==◌, List, [], ◌∷◌, ◌++◌, Bool, true, false, ◌&&◌, Option, Some, None, if◌then◌else◌}
use Rattle.std.specs.List.{list_all}
use Rattle.scheme_model.specs.Substitution.{Clock}
use Rattle.scheme_model.specs.Program.{enough_turns}
use Rattle.scheme_model.specs.Questions.{Around, Moment, Question, answer}
use Rattle.scheme_model.specs.FormsAlike.{questions_of_pass, questions_of_left}
use Rattle.renumbering_laws.specs.Renumbering.{Renumbering}
use Rattle.renumbering_laws.specs.Asked.{new_moment, new_question, new_answer}
use Rattle.carried_forms.specs.Alike.{same_answer}
use Rattle.carried_forms.specs.Paired.{UnitPair, unit_pairs, renumbering}
use Rattle.carried_forms.specs.Worked.{WorkedForm, WorkedUnit, OpenDocument, read_documents, units_at_work, unit_texts}

-- a question has the same answer in both, up to the numbers
abbrev pub has_same_answer : Renumbering → Around → Around → Moment × Question → Bool
has_same_answer r w v q = same_answer (new_answer r (answer w q.0 q.1)) (answer v (new_moment r q.0) (new_question r q.1))

abbrev pub have_same_answers : Renumbering → Around → Around → List (Moment × Question) → Bool
have_same_answers r w v qs = list_all (has_same_answer r w v) qs

-- all that a form asks, at both of its turns
abbrev pub asks_alike : Renumbering → WorkedForm → WorkedForm → Bool
asks_alike r f g =
    have_same_answers r f.around g.around (questions_of_pass f.around enough_turns f.tree)
    && have_same_answers r f.later g.later (questions_of_left f.later enough_turns f.left)

-- ---- carried forms

abbrev pub form_at : List WorkedForm → ℕ → Option WorkedForm
form_at [] n = None
form_at (f ∷ fs) n = if f.form == n then Some f else form_at fs n

abbrev pub worked_at : List WorkedUnit → (unit form : ℕ) → Option WorkedForm
worked_at [] u n = None
worked_at (w ∷ ws) u n = if w.number == u then form_at w.forms n else worked_at ws u n

abbrev pub both_alike : Renumbering → Option WorkedForm → Option WorkedForm → Bool
both_alike r None g = false
both_alike r (Some f) None = false
both_alike r (Some f) (Some g) = asks_alike r f g

-- of a unit's pairs, those whose form was worked through before and asks alike
abbrev pub carried_in : Renumbering → List WorkedUnit → List WorkedUnit → (before after : ℕ) → List (ℕ × ℕ) → List (ℕ × ℕ)
carried_in r us vs b a [] = []
carried_in r us vs b a (q ∷ qs) =
    if both_alike r (worked_at us b q.0) (worked_at vs a q.1) then (a, q.1) ∷ carried_in r us vs b a qs else carried_in r us vs b a qs

abbrev pub carried_by : Renumbering → List WorkedUnit → List WorkedUnit → List UnitPair → List (ℕ × ℕ)
carried_by r us vs [] = []
carried_by r us vs (p ∷ ps) = carried_in r us vs p.before p.after p.forms ++ carried_by r us vs ps

abbrev pub IsIn : {X : Type 0} → X → List X → Type 0
IsIn x [] = ⊥
IsIn x (y ∷ ys) = (x ≡ y) ⊎ IsIn x ys

-- a form that goes on in one of these units, was worked on before and after, and asks alike
pub record IsCarried (r : Renumbering) (us vs : List WorkedUnit) (ps : List UnitPair) (c : ℕ × ℕ) : Type 0 where
  pub unit : UnitPair
  pub goes_on : IsIn unit ps
  pub forms : ℕ × ℕ
  pub with_it : IsIn forms unit.forms
  pub alike : both_alike r (worked_at us unit.before forms.0) (worked_at vs unit.after forms.1) ≡ true
  pub is : c ≡ (unit.after, forms.1)

-- the carried forms by their units and numbers afterwards
abbrev pub carried : (before after : List OpenDocument) → List (ℕ × ℕ)
carried before after =
    let ps = unit_pairs (unit_texts before) (unit_texts after) in
    carried_by (renumbering ps) (units_at_work (read_documents before)) (units_at_work (read_documents after)) ps

-- ---- work

abbrev pub is_among : List (ℕ × ℕ) → (unit form : ℕ) → Bool
is_among [] u n = false
is_among (c ∷ cs) u n = if c.0 == u && (c.1 == n) then true else is_among cs u n

abbrev pub uses_beside : List (ℕ × ℕ) → (unit : ℕ) → Clock → List WorkedForm → ℕ
uses_beside cs u uses [] = 0
uses_beside cs u uses (f ∷ fs) = (if is_among cs u f.form then 0 else uses f.form) + uses_beside cs u uses fs

-- the macro uses of forms that aren't among these
abbrev pub work_beside : List (ℕ × ℕ) → List WorkedUnit → ℕ
work_beside cs [] = 0
work_beside cs (w ∷ ws) = uses_beside cs w.number w.uses w.forms + work_beside cs ws

abbrev pub work : (before after : List OpenDocument) → ℕ
work before after = work_beside (carried before after) (units_at_work (read_documents after))
