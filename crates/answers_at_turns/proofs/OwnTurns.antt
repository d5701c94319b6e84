-- What a form comes to where its turns come is an entry, and what that asked has its answers at the form that is worked on.
use Rattle.std.proofs.Common.{◌≡◌, ℕ, Bool, Some, None, Result, Ok, Err, refl, sym, ap, ◌∙◌, subst}
use Rattle.scheme_model.specs.Ident.{Ident}
use Rattle.scheme_model.specs.Steps.{Broken}
use Rattle.scheme_model.specs.Order.{Left}
use Rattle.scheme_model.specs.Substitution.{definition_count}
use Rattle.scheme_model.specs.Program.{enough_turns}
use Rattle.scheme_model.specs.ScopedExpansion.{ScopedState}
use Rattle.scheme_model.specs.Questions.{Around, SameAnswer}
use Rattle.scheme_model.specs.FormsAlike.{set_aside, start, questions_of_pass, questions_of_left}
use Rattle.form_laws.specs.Begins.{Each, FormBegins, RestBegins, LeftBegins}
use Rattle.kept_forms.specs.KeptForms.{KeptForm, counts_at, goes_through}
use Rattle.kept_forms.specs.Carried.{kept_form, kept_parts}
use Rattle.kept_forms.proofs.OneForm.{PassLike}
use Rattle.kept_forms.proofs.Bares.{bare_around, answers_itself}
use Rattle.forgotten_locals.specs.Outside.{around_outside, outside, forgotten}
use Rattle.forgotten_locals.proofs.Followed.{forgetting_follows}
use Rattle.carried_forms.specs.Worked.{WorkedForm}
use Rattle.carried_laws.specs.AtWork.{IsAtWork}
use Rattle.carried_laws.specs.CarriedEntries.{rest_came_to, came_to}
use Rattle.carried_laws.specs.Entries.{StandsFor, RestAnswers, HasAnswers}
use Rattle.carried_laws.proofs.CarriedStays.{came_to_is_entry}
use Rattle.turns_at_work.specs.AtTurn.{IsAroundOutside}
use Rattle.turns_at_work.proofs.TurnsThere.{told_outside, pass_there, left_there}
use Rattle.answers_at_turns.specs.Had.{Had, HadStands, at_turns}
use Rattle.answers_at_turns.proofs.AtTurns.{like, later_counts}

module _ (n : ℕ) (g : WorkedForm) (at : IsAtWork n g) (u : Around) (there : IsAroundOutside g.later u) where
  out_later : bare_around u ≡ bare_around (around_outside g.later)
  out_later = told_outside g.later u there

  later_begins : RestBegins u g.left
  later_begins = (forgetting_follows enough_turns).rest_begins u g.later out_later g.left at.rest

  own_left : (l : Left Ident) → LeftBegins u l → LeftBegins g.later l → Each (SameAnswer u g.later) (questions_of_left u enough_turns (Ok l))
  own_left l a b = (left_there u g.later u enough_turns there a.state b.state (Ok l)).0 (answers_itself u u refl (questions_of_left u enough_turns (Ok l)))

  module _ (v : Around) (here : IsAroundOutside g.around v) where
    out_first : bare_around v ≡ bare_around (around_outside g.around)
    out_first = told_outside g.around v here

    begins_first : FormBegins v g.tree
    begins_first = (forgetting_follows enough_turns).begins v g.around out_first g.tree at.begun

    abbrev f : WorkedForm
    f = at_turns g v u

    new : start v.state ≡ start g.around.state
    new = ap (λ (z : Around). start z.state) out_first

    alike : PassLike ((set_aside g.around enough_turns g.tree).0, outside (set_aside g.around enough_turns g.tree).1) (forgotten (goes_through v enough_turns g.tree None))
    alike = (forgetting_follows enough_turns).first v g.around out_first g.tree None (new ∙ at.new) at.begun tt

    same_left : g.left ≡ f.left
    same_left = at.set ∙ alike.left

    pub own_work : IsAtWork n f
    own_work = record {
      unit_first = ap (λ (z : Around). z.state.unit) out_first ∙ at.unit_first;
      form_first = ap (λ (z : Around). z.state.form) out_first ∙ at.form_first;
      new = new ∙ at.new;
      begun = begins_first;
      set = refl;
      unit_later = ap (λ (z : Around). z.state.unit) out_later ∙ at.unit_later;
      form_later = ap (λ (z : Around). z.state.form) out_later ∙ at.form_later;
      rest = subst (RestBegins u) same_left later_begins;
      counts = ap (λ (z : Around). start z.state) out_later ∙ at.counts ∙ ap (λ (z : ScopedState). counts_at g.form z) alike.state;
    }

    own_rest : (r : Result (Left Ident) Broken) → RestBegins u r → RestBegins g.later r → RestAnswers u g.later (rest_came_to f r)
    own_rest (Ok l) a b = own_left l a b
    own_rest (Err e) a b = tt

    pub own_stands : StandsFor n (g.form, g.tree) (came_to f) v u
    own_stands = came_to_is_entry n f own_work

    pub own_answers : HasAnswers (g.form, g.tree) (came_to f) v u g
    own_answers = record {
      pass = (pass_there v g.around v enough_turns here begins_first.state at.begun.state g.tree).0 (answers_itself v v refl (questions_of_pass v enough_turns g.tree));
      rest = own_rest f.left own_work.rest (subst (RestBegins g.later) same_left at.rest);
    }

  -- its first part is what was kept of it
  module _ (program : Bool) (h : Had) (st : HadStands n program (g.form, g.tree) h) (has : Each (SameAnswer h.first g.around) (questions_of_pass h.first enough_turns g.tree)) (l : Left Ident) (left : g.left ≡ Ok l) where
    abbrev k : KeptForm
    k = kept_form h.kept.aside (Some (kept_parts u enough_turns (definition_count g.around.state.table g.around.state.unit) l))

    begun : LeftBegins u l
    begun = subst (RestBegins u) left later_begins

    pub rest_stands : StandsFor n (g.form, g.tree) k h.first u
    rest_stands = record {
      unit_there = st.stands.unit_there;
      form_there = st.stands.form_there;
      new = st.stands.new;
      begun = st.stands.begun;
      aside = st.stands.aside;
      rest = (ap (λ (z : Around). z.state.unit) out_later ∙ at.unit_later, ap (λ (z : Around). z.state.form) out_later ∙ at.form_later, begun, refl);
      fits = (ap (λ (z : Around). start z.state) out_later ∙ later_counts n program h g st at has, sym (at.set ∙ (like n program h g st at has).left) ∙ left);
    }

    pub rest_answers : HasAnswers (g.form, g.tree) k h.first u g
    rest_answers = record { pass = has; rest = own_left l begun (subst (RestBegins g.later) left at.rest) }
