-- Where what is noted of an entry has its answers, all that was asked has.
use Rattle.std.proofs.Common.{◌≡◌, ℕ, List, [], ◌∷◌, Option, Some, None, Result, Ok, Err, refl, sym, ap, ◌∙◌, subst}
use Rattle.scheme_model.specs.Ident.{Ident}
use Rattle.scheme_model.specs.Trees.{Tree}
use Rattle.scheme_model.specs.Cores.{Bound}
use Rattle.scheme_model.specs.Steps.{Broken}
use Rattle.scheme_model.specs.Order.{Left}
use Rattle.scheme_model.specs.Includes.{Document}
use Rattle.scheme_model.specs.Program.{enough_turns}
use Rattle.scheme_model.specs.ScopedExpansion.{ScopedState}
use Rattle.scheme_model.specs.Questions.{Around, SameAnswer}
use Rattle.scheme_model.specs.FormsAlike.{left_with, or_fault, set_aside, start, questions_of_pass, questions_of_left}
use Rattle.form_laws.specs.Begins.{Each, Begins, RestBegins, SameForm}
use Rattle.form_laws.proofs.AskingSides.{NoLocals}
use Rattle.form_laws.proofs.OwnStates.{entry_given}
use Rattle.question_laws.proofs.OwnRuns.{pass_known, left_known}
use Rattle.question_laws.proofs.NotedAnswers.{noted_suffice}
use Rattle.kept_forms.specs.KeptForms.{KeptParts, KeptForm, FormOrKept, form_of, put_aside, moved_to, counts_at}
use Rattle.kept_forms.specs.KeptPrograms.{Keeping}
use Rattle.kept_forms.specs.Carried.{only_counted, RestFits}
use Rattle.kept_forms.proofs.OneForm.{PassLike, pass_like}
use Rattle.kept_forms.proofs.UsesCounted.{counts_here}
use Rattle.carried_forms.specs.Worked.{WorkedForm, WorkedUnit, units_at_work}
use Rattle.carried_laws.specs.AtWork.{IsAtWork, AreAtWork}
use Rattle.carried_laws.specs.Entries.{RestStands, StandsFor, RestAnswers, HasAnswers, Stays, FormsStay, UnitsStay}
use Rattle.carried_laws.proofs.StayingPrograms.{program_begins}
use Rattle.carried_laws.proofs.ClosedForms.{program_closed}
use Rattle.carried_laws.specs.NotedEntries.{IsClosedForm, AreClosed, RestNoted, HasNotedAnswers, IsNoted, FormsNoted, UnitsNoted}

no_locals : (w : Around) → Begins w.state → NoLocals w
no_locals w h = λ u x. entry_given (w.state.entry u x) (h.entries u x)

-- what is left where it was left there
left_of : (f : Bound → Bound) (x : Result (Left Ident) Broken) (l : Left Ident) → or_fault (left_with f) x ≡ Ok l → (m : Left Ident) × (x ≡ Ok m)
left_of f (Ok m) l e = (m, refl)
left_of f (Err b) l e = let z : Err b ≡ Ok l = e in absurd cc

module _ (n : ℕ) (k : KeptForm) (w u : Around) (g : WorkedForm) (st : StandsFor n (g.form, g.tree) k w u) (at : IsAtWork n g) (closed : IsClosedForm g) (has : HasNotedAnswers g.tree k w u g) where
  first_form : SameForm w g.around
  first_form = record { unit = at.unit_first ∙ sym st.unit_there; form = at.form_first ∙ sym st.form_there; counts = at.new ∙ sym st.new }

  pass_told : Each (SameAnswer w g.around) (questions_of_pass w enough_turns g.tree)
  pass_told =
      let en = no_locals w st.begun.state in
      (noted_suffice w g.around (record { form = first_form; program = has.program }) st.begun.state at.begun.state has.stood closed.first (questions_of_pass w enough_turns g.tree) (pass_known w en enough_turns g.tree).1 en).0 has.pass

  like : PassLike (set_aside g.around enough_turns g.tree) (put_aside g.around k.aside)
  like = pass_like g.around g.around refl enough_turns g.tree (Some k) at.new at.begun (w, record { unit = first_form.unit; form = first_form.form; new = st.new; begun = st.begun; answers = pass_told }, st.aside)

  later_counts : start g.later.state ≡ only_counted k.aside.moment
  later_counts =
      at.counts ∙ ap (λ (z : ScopedState). counts_at g.form z) like.state ∙ ap (λ f. counts_at f (put_aside g.around k.aside).1) (sym at.form_first) ∙ counts_here g.around k.aside.moment

  later_begins : (c : KeptParts) → RestFits k.aside (Some c) → Begins g.later.state
  later_begins c h =
      let m = left_of _ k.aside.pass.left c.left h.1 in
      let e : g.left ≡ Ok (left_with (moved_to g.around k.aside.before) m.0) = at.set ∙ like.left ∙ ap (or_fault (left_with (moved_to g.around k.aside.before))) m.1 in
      (subst (RestBegins g.later) e at.rest).state

  rest_told : (o : Option KeptParts) → RestStands n g.form u o → RestFits k.aside o → RestNoted u g.later o → RestAnswers u g.later o
  rest_told None s f h = tt
  rest_told (Some c) s f h =
      let en = no_locals u s.2.state in
      let begun : start u.state ≡ c.begun = ap (λ (z : KeptParts). z.begun) (sym s.3) in
      let form : SameForm u g.later = record { unit = at.unit_later ∙ sym s.0; form = at.form_later ∙ sym s.1; counts = later_counts ∙ sym f.0 ∙ sym begun } in
      (noted_suffice u g.later (record { form = form; program = h.1 }) s.2.state (later_begins c f) h.0 closed.later (questions_of_left u enough_turns (Ok c.left)) (left_known u en enough_turns c.left).1 en).0 h.2

  pub answers_told : HasAnswers (g.form, g.tree) k w u g
  answers_told = record { pass = pass_told; rest = rest_told k.parts st.rest st.fits has.rest }

-- ---- form by form

one_stays : (n : ℕ) (x : ℕ × Tree Ident) (o : Option KeptForm) (g : WorkedForm) → x ≡ (g.form, g.tree) → IsAtWork n g → IsClosedForm g → IsNoted n x o g → Stays n x o g
one_stays n x None g e at c h = tt
one_stays n x (Some k) g e at c h =
    let w = h.0 in let u = h.1 in
    let st = subst (λ (y : ℕ × Tree Ident). StandsFor n y k w u) e h.2 in
    let has = subst (λ (y : ℕ × Tree Ident). HasNotedAnswers y.1 k w u g) e h.3 in
    (w, u, h.2, subst (λ (y : ℕ × Tree Ident). HasAnswers y k w u g) (sym e) (answers_told n k w u g st at c has))

forms_stay : (n : ℕ) (xs : List FormOrKept) (gs : List WorkedForm) → Each (IsAtWork n) gs → Each IsClosedForm gs → FormsNoted n xs gs → FormsStay n xs gs
forms_stay n [] [] a c h = tt
forms_stay n [] (g ∷ gs) a c h = absurd h
forms_stay n (x ∷ xs) [] a c h = absurd h
forms_stay n (x ∷ xs) (g ∷ gs) a c h = (h.0, one_stays n (form_of x) x.kept g h.0 a.0 c.0 h.1, forms_stay n xs gs a.1 c.1 h.2)

units_stay : (keep : Keeping) (ws : List WorkedUnit) → Each AreAtWork ws → Each AreClosed ws → UnitsNoted keep ws → UnitsStay keep ws
units_stay keep [] a c h = tt
units_stay keep (w ∷ ws) a c h = (forms_stay w.number (keep w.number) w.forms a.0 c.0 h.0, units_stay keep ws a.1 c.1 h.1)

pub noted_stay : (ds : List Document) (keep : Keeping) → UnitsNoted keep (units_at_work ds) → UnitsStay keep (units_at_work ds)
noted_stay ds keep h = units_stay keep (units_at_work ds) (program_begins ds) (program_closed ds) h
