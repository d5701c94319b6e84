-- What has its answers where a form's turns come has them at the form that is worked on.
use Rattle.std.proofs.Common.{◌≡◌, ◌↔◌, ℕ, Bool, Option, Some, None, Result, Ok, Err, refl, sym, ap, ◌∙◌, subst}
use Rattle.scheme_model.specs.Ident.{Ident}
use Rattle.scheme_model.specs.Cores.{Bound}
use Rattle.scheme_model.specs.Steps.{Broken}
use Rattle.scheme_model.specs.Order.{Left}
use Rattle.scheme_model.specs.Program.{enough_turns}
use Rattle.scheme_model.specs.ScopedExpansion.{ScopedState}
use Rattle.scheme_model.specs.Questions.{Around, SameAnswer}
use Rattle.scheme_model.specs.FormsAlike.{left_with, or_fault, set_aside, start, questions_of_pass, questions_of_left}
use Rattle.form_laws.specs.Begins.{Each, Begins, FormBegins, RestBegins, SameForm}
use Rattle.question_laws.specs.Noted.{IsClosed, SameUnit}
use Rattle.question_laws.proofs.OwnRuns.{pass_known, left_known}
use Rattle.question_laws.proofs.NotedAnswers.{noted_suffice}
use Rattle.kept_forms.specs.KeptForms.{KeptParts, put_aside, moved_to, counts_at}
use Rattle.kept_forms.specs.Carried.{only_counted, RestFits}
use Rattle.kept_forms.proofs.OneForm.{PassLike, pass_like}
use Rattle.kept_forms.proofs.UsesCounted.{counts_here}
use Rattle.kept_forms.proofs.Bares.{bare_around}
use Rattle.forgotten_locals.specs.Outside.{around_outside}
use Rattle.forgotten_locals.proofs.Outsides.{no_locals}
use Rattle.forgotten_locals.proofs.Followed.{forgetting_follows}
use Rattle.carried_forms.specs.Worked.{WorkedForm}
use Rattle.carried_laws.specs.AtWork.{IsAtWork}
use Rattle.carried_laws.specs.Entries.{RestStands, RestAnswers}
use Rattle.turns_at_work.specs.AtTurn.{IsAroundOutside}
use Rattle.turns_at_work.proofs.TurnsThere.{told_outside, pass_there, left_there}
use Rattle.answers_at_turns.specs.Had.{Had, RestStood, HadStands, HasFirst, RestHas, HasLater}

-- what is left where it was left there
left_of : (f : Bound → Bound) (x : Result (Left Ident) Broken) (l : Left Ident) → or_fault (left_with f) x ≡ Ok l → (m : Left Ident) × (x ≡ Ok m)
left_of f (Ok m) l e = (m, refl)
left_of f (Err b) l e = let z : Err b ≡ Ok l = e in absurd cc

module _ (n : ℕ) (program : Bool) (h : Had) (g : WorkedForm) (st : HadStands n program (g.form, g.tree) h) (at : IsAtWork n g) where
  abbrev w : Around
  w = h.first

  abbrev u : Around
  u = h.later

  module _ (v : Around) (here : IsAroundOutside g.around v) (closed : IsClosed v.state) (same : v.state.program ≡ program) where
    out_first : bare_around v ≡ bare_around (around_outside g.around)
    out_first = told_outside g.around v here

    begins_first : FormBegins v g.tree
    begins_first = (forgetting_follows enough_turns).begins v g.around out_first g.tree at.begun

    unit_first : SameUnit w v
    unit_first = record {
      form = record {
        unit = ap (λ (z : Around). z.state.unit) out_first ∙ (at.unit_first ∙ sym st.stands.unit_there);
        form = ap (λ (z : Around). z.state.form) out_first ∙ (at.form_first ∙ sym st.stands.form_there);
        counts = ap (λ (z : Around). start z.state) out_first ∙ (at.new ∙ sym st.stands.new);
      };
      program = same ∙ sym st.program_first;
    }

    pub first_told : HasFirst h (g.form, g.tree) v ↔ Each (SameAnswer w g.around) (questions_of_pass w enough_turns g.tree)
    first_told =
        let en = no_locals w st.stands.begun.state in let qs = questions_of_pass w enough_turns g.tree in
        let a = noted_suffice w v unit_first st.stands.begun.state begins_first.state st.stood_first closed qs (pass_known w en enough_turns g.tree).1 en in
        let b = pass_there w g.around v enough_turns here st.stands.begun.state at.begun.state g.tree in
        ((λ x. b.0 (a.0 x)), (λ x. a.1 (b.1 x)))

  module _ (pass_has : Each (SameAnswer w g.around) (questions_of_pass w enough_turns g.tree)) where
    first_form : SameForm w g.around
    first_form = record { unit = at.unit_first ∙ sym st.stands.unit_there; form = at.form_first ∙ sym st.stands.form_there; counts = at.new ∙ sym st.stands.new }

    pub like : PassLike (set_aside g.around enough_turns g.tree) (put_aside g.around h.kept.aside)
    like =
        pass_like g.around g.around refl enough_turns g.tree (Some h.kept) at.new at.begun
        (w, record { unit = first_form.unit; form = first_form.form; new = st.stands.new; begun = st.stands.begun; answers = pass_has }, st.stands.aside)

    pub later_counts : start g.later.state ≡ only_counted h.kept.aside.moment
    later_counts =
        at.counts ∙ ap (λ (z : ScopedState). counts_at g.form z) like.state ∙ ap (λ f. counts_at f (put_aside g.around h.kept.aside).1) (sym at.form_first) ∙ counts_here g.around h.kept.aside.moment

    left_is : (c : KeptParts) → RestFits h.kept.aside (Some c) → (l : Left Ident) × (g.left ≡ Ok l)
    left_is c f =
        let m = left_of _ h.kept.aside.pass.left c.left f.1 in
        (left_with (moved_to g.around h.kept.aside.before) m.0, at.set ∙ like.left ∙ ap (or_fault (left_with (moved_to g.around h.kept.aside.before))) m.1)

    module _ (v : Around) (here : IsAroundOutside g.later v) (closed : IsClosed v.state) (same : v.state.program ≡ program) where
      out_later : bare_around v ≡ bare_around (around_outside g.later)
      out_later = told_outside g.later v here

      pub begins_there : (c : KeptParts) → RestFits h.kept.aside (Some c) → Begins g.later.state × Begins v.state
      begins_there c f =
          let l = left_is c f in
          ((subst (RestBegins g.later) l.1 at.rest).state, (subst (RestBegins v) l.1 ((forgetting_follows enough_turns).rest_begins v g.later out_later g.left at.rest)).state)

      rest_told : (o : Option KeptParts) → RestStands n g.form u o → RestFits h.kept.aside o → RestStood u o → RestHas u v o ↔ RestAnswers u g.later o
      rest_told None s f d = ((λ x. x), (λ x. x))
      rest_told (Some c) s f d =
          let en = no_locals u s.2.state in let qs = questions_of_left u enough_turns (Ok c.left) in
          let begun : start u.state ≡ c.begun = ap (λ (z : KeptParts). z.begun) (sym s.3) in
          let form : SameForm u v = record {
            unit = ap (λ (z : Around). z.state.unit) out_later ∙ (at.unit_later ∙ sym s.0);
            form = ap (λ (z : Around). z.state.form) out_later ∙ (at.form_later ∙ sym s.1);
            counts = ap (λ (z : Around). start z.state) out_later ∙ (later_counts ∙ sym f.0 ∙ sym begun);
          } in
          let k = begins_there c f in
          let a = noted_suffice u v (record { form = form; program = same ∙ sym st.program_later }) s.2.state k.1 d closed qs (left_known u en enough_turns c.left).1 en in
          let b = left_there u g.later v enough_turns here s.2.state k.0 (Ok c.left) in
          ((λ x. b.0 (a.0 x)), (λ x. a.1 (b.1 x)))

      pub later_told : HasLater h v ↔ RestAnswers u g.later h.kept.parts
      later_told = rest_told h.kept.parts st.stands.rest st.stands.fits st.stood_later
