-- An entry that may stay in a program may stay in the next one too, where its form asks alike before and after: it asked the same when it was
-- expanded.
use Rattle.std.proofs.Common.{◌≡◌, ℕ, List, [], ◌∷◌, Bool, true, false, Option, Some, None, Result, Ok, Err, refl, sym, ap, ◌∙◌, subst}
use Rattle.std.specs.Prelude.{◌&&◌}
use Rattle.scheme_model.specs.Ident.{Ident}
use Rattle.scheme_model.specs.Trees.{Tree}
use Rattle.scheme_model.specs.RulesShape.{option_map}
use Rattle.scheme_model.specs.Cores.{Bound}
use Rattle.scheme_model.specs.Steps.{Broken}
use Rattle.scheme_model.specs.Order.{Left}
use Rattle.scheme_model.specs.Program.{enough_turns}
use Rattle.scheme_model.specs.Substitution.{definition_count}
use Rattle.scheme_model.specs.ScopedExpansion.{ScopedState}
use Rattle.scheme_model.specs.Questions.{Moment, Around, Question, answer, SameAnswer, Asking}
use Rattle.scheme_model.specs.FormsAlike.{bound_moved, left_with, or_fault, set_aside, start, questions_of_pass, questions_of_left}
use Rattle.form_laws.specs.Begins.{Each, Begins, RestBegins, SameForm}
use Rattle.form_laws.proofs.AskingAlike.{pass_alike, left_alike}
use Rattle.renumbering_laws.specs.Moving.{move_tree}
use Rattle.renumbering_laws.specs.Renumbering.{Renumbering, change}
use Rattle.renumbering_laws.specs.Asked.{new_moment, new_question, new_answer}
use Rattle.renumbering_laws.specs.NewSurroundings.{HasOldNumbers, around_new}
use Rattle.renumbering_laws.proofs.NewSurroundings.{old_numbers_apart, turns_move}
use Rattle.kept_forms.specs.KeptForms.{KeptParts, KeptForm, put_aside, moved_to, counts_at}
use Rattle.kept_forms.specs.Carried.{only_counted, RestFits}
use Rattle.kept_forms.proofs.OneForm.{PassLike, pass_like}
use Rattle.kept_forms.proofs.UsesCounted.{counts_here}
use Rattle.carried_forms.specs.Alike.{same_answer}
use Rattle.carried_forms.specs.Worked.{WorkedForm}
use Rattle.carried_forms.specs.Carried.{have_same_answers, asks_alike}
use Rattle.carried_forms.proofs.NumberLaws.{pass_kept, left_kept}
use Rattle.carried_laws.specs.AtWork.{IsAtWork}
use Rattle.carried_laws.specs.Entries.{RestStands, StandsFor, RestAnswers, HasAnswers, Stays, kept_parts_as, kept_as}
use Rattle.carried_laws.proofs.Renumbered.{entry_moved}

both : (a b : Bool) → (a && b) ≡ true → (a ≡ true) × (b ≡ true)
both true true h = (refl, refl)
both true false h = absurd cc
both false b h = absurd cc

left_of : (f : Bound → Bound) (x : Result (Left Ident) Broken) (l : Left Ident) → or_fault (left_with f) x ≡ Ok l → (m : Left Ident) × (x ≡ Ok m)
left_of f (Ok m) l e = (m, refl)
left_of f (Err b) l e = let z : Err b ≡ Ok l = e in absurd cc

or_left : Left Ident → Result (Left Ident) Broken → Left Ident
or_left d (Ok l) = l
or_left d (Err e) = d

left_same : (x : Result (Left Ident) Broken) (l m : Left Ident) → x ≡ Ok l → x ≡ Ok m → l ≡ m
unfolding or_left
left_same x l m a b = ap (or_left l) (sym a ∙ b)

itself : (w : Around) (qs : List (Moment × Question)) → Each (SameAnswer w w) qs
itself w [] = tt
itself w (q ∷ qs) = (refl, itself w qs)

-- what had the same answers in two surroundings has them in the same ones
alike_before : (r : Renumbering) (w f g : Around) (qs : List (Moment × Question)) → Each (SameAnswer w f) qs → have_same_answers r w g qs ≡ have_same_answers r f g qs
alike_before r w f g [] h = refl
alike_before r w f g (q ∷ qs) h =
    let a = ap (λ z. same_answer (new_answer r z) (answer g (new_moment r q.0) (new_question r q.1))) (sym h.0) in let b = alike_before r w f g qs h.1 in
    λ j. a j && b j

module _ (r : Renumbering) (b : HasOldNumbers r) (n : ℕ) (k : KeptForm) (f g : WorkedForm) (at : IsAtWork n f) (w u : Around) (st : StandsFor n (f.form, f.tree) k w u) (has : HasAnswers (f.form, f.tree) k w u f) (alike : asks_alike r f g ≡ true)
    (form : r.form n f.form ≡ g.form) (tree : move_tree (change r) f.tree ≡ g.tree) where
  told : (have_same_answers r f.around g.around (questions_of_pass f.around enough_turns f.tree) ≡ true) × (have_same_answers r f.later g.later (questions_of_left f.later enough_turns f.left) ≡ true)
  told = both (have_same_answers r f.around g.around (questions_of_pass f.around enough_turns f.tree)) (have_same_answers r f.later g.later (questions_of_left f.later enough_turns f.left)) alike

  -- ---- its first turn

  first_form : SameForm w f.around
  first_form = record { unit = at.unit_first ∙ sym st.unit_there; form = at.form_first ∙ sym st.form_there; counts = at.new ∙ sym st.new }

  pass_told : have_same_answers r w g.around (questions_of_pass w enough_turns f.tree) ≡ true
  pass_told =
      alike_before r w f.around g.around (questions_of_pass w enough_turns f.tree) has.pass
      ∙ (ap (λ (z : Asking). have_same_answers r f.around g.around z.asked) (sym (pass_alike w f.around first_form st.begun.state at.begun.state enough_turns f.tree has.pass)) ∙ told.0)

  -- ---- its second

  like : PassLike (set_aside f.around enough_turns f.tree) (put_aside f.around k.aside)
  like = pass_like f.around f.around refl enough_turns f.tree (Some k) at.new at.begun (w, record { unit = first_form.unit; form = first_form.form; new = st.new; begun = st.begun; answers = has.pass }, st.aside)

  later_counts : start f.later.state ≡ only_counted k.aside.moment
  later_counts =
      at.counts ∙ ap (λ (z : ScopedState). counts_at f.form z) like.state ∙ ap (λ m. counts_at m (put_aside f.around k.aside).1) (sym at.form_first) ∙ counts_here f.around k.aside.moment

  rest_told : (o : Option KeptParts) → RestStands n f.form u o → RestFits k.aside o → RestAnswers u f.later o → RestAnswers (around_new r b u) g.later (option_map (kept_parts_as r) o)
  rest_told None s h a = tt
  rest_told (Some c) s h a =
      let m = left_of (bound_moved k.aside.before c.before) k.aside.pass.left c.left h.1 in
      let mine : c.left ≡ left_with (bound_moved k.aside.before c.before) m.0 =
      left_same (or_fault (left_with (bound_moved k.aside.before c.before)) k.aside.pass.left) c.left (left_with (bound_moved k.aside.before c.before) m.0) h.1 (ap (or_fault (left_with (bound_moved k.aside.before c.before))) m.1) in
      let there : f.left ≡ Ok (left_with (moved_to f.around k.aside.before) m.0) = at.set ∙ like.left ∙ ap (or_fault (left_with (moved_to f.around k.aside.before))) m.1 in
      let begun : start u.state ≡ c.begun = ap (λ (z : KeptParts). z.begun) (sym s.3) in
      let same : SameForm u f.later = record { unit = at.unit_later ∙ sym s.0; form = at.form_later ∙ sym s.1; counts = later_counts ∙ sym h.0 ∙ sym begun } in
      let later : Begins f.later.state = (subst (RestBegins f.later) there at.rest).state in
      -- all ask what was left before it had numbers
      let one : questions_of_left u enough_turns (Ok c.left) ≡ questions_of_left u enough_turns (Ok m.0) =
      ap (λ l. questions_of_left u enough_turns (Ok l)) mine
      ∙ ap (λ (z : Asking). z.asked) (left_alike u u (record { unit = refl; form = refl; counts = refl }) s.2.state s.2.state enough_turns k.aside.before c.before m.0 (itself u (questions_of_left u enough_turns (Ok m.0)))) in
      let had : Each (SameAnswer u f.later) (questions_of_left u enough_turns (Ok m.0)) = subst (Each (SameAnswer u f.later)) one a in
      let two : questions_of_left f.later enough_turns f.left ≡ questions_of_left u enough_turns (Ok m.0) =
      ap (questions_of_left f.later enough_turns) there
      ∙ ap (λ (z : Asking). z.asked) (left_alike u f.later same s.2.state later enough_turns k.aside.before (definition_count f.around.state.table f.around.state.unit) m.0 had) in
      let now : have_same_answers r u g.later (questions_of_left u enough_turns (Ok c.left)) ≡ true =
      alike_before r u f.later g.later (questions_of_left u enough_turns (Ok c.left)) a ∙ (ap (have_same_answers r f.later g.later) (one ∙ sym two) ∙ told.1) in
      left_kept r (old_numbers_apart r b) u g.later (around_new r b u) (turns_move r b u) enough_turns (Ok c.left) now

  stands : StandsFor (r.unit n) (g.form, g.tree) (kept_as r k) (around_new r b w) (around_new r b u)
  stands =
      let e = form in let d = tree in
      subst (λ (x : ℕ × Tree Ident). StandsFor (r.unit n) x (kept_as r k) (around_new r b w) (around_new r b u)) (λ j. (e j, d j)) (entry_moved r b n (f.form, f.tree) k w u st)

  answers : HasAnswers (g.form, g.tree) (kept_as r k) (around_new r b w) (around_new r b u) g
  answers = record {
    pass = subst (λ (t : Tree Ident). Each (SameAnswer (around_new r b w) g.around) (questions_of_pass (around_new r b w) enough_turns t)) tree (pass_kept r (old_numbers_apart r b) w g.around (around_new r b w) (turns_move r b w) enough_turns f.tree pass_told);
    rest = rest_told k.parts st.rest st.fits has.rest;
  }

  pub stays_there : StandsFor (r.unit n) (g.form, g.tree) (kept_as r k) (around_new r b w) (around_new r b u) × HasAnswers (g.form, g.tree) (kept_as r k) (around_new r b w) (around_new r b u) g
  stays_there = (stands, answers)

pub stays_on : (r : Renumbering) (b : HasOldNumbers r) (n : ℕ) (k : KeptForm) (f g : WorkedForm) → IsAtWork n f → Stays n (f.form, f.tree) (Some k) f → asks_alike r f g ≡ true → r.form n f.form ≡ g.form → move_tree (change r) f.tree ≡ g.tree
    → Stays (r.unit n) (g.form, g.tree) (Some (kept_as r k)) g
stays_on r b n k f g at h alike form tree = let z = stays_there r b n k f g at h.0 h.1 h.2 h.3 alike form tree in (around_new r b h.0, around_new r b h.1, z.0, z.1)
