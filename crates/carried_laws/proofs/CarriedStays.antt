-- A form that asks alike before and after under some numbers may be kept there, of what it came to before under these numbers.
use Rattle.std.proofs.Common.{◌≡◌, ℕ, Bool, true, false, Some, Result, Ok, Err, refl, sym, ap, ◌∙◌, subst}
use Rattle.std.specs.Prelude.{◌&&◌}
use Rattle.scheme_model.specs.Ident.{Ident}
use Rattle.scheme_model.specs.Trees.{Tree}
use Rattle.scheme_model.specs.RulesShape.{option_map}
use Rattle.scheme_model.specs.Steps.{Broken}
use Rattle.scheme_model.specs.Order.{Left}
use Rattle.scheme_model.specs.Program.{enough_turns}
use Rattle.scheme_model.specs.Questions.{Around, SameAnswer}
use Rattle.scheme_model.specs.FormsAlike.{set_aside, questions_of_pass, questions_of_left}
use Rattle.form_laws.specs.Begins.{Each, RestBegins}
use Rattle.renumbering_laws.specs.Moving.{move_tree}
use Rattle.renumbering_laws.specs.Renumbering.{Renumbering, change}
use Rattle.renumbering_laws.specs.NewSurroundings.{HasOldNumbers, around_new}
use Rattle.renumbering_laws.proofs.NewSurroundings.{old_numbers_apart, turns_move}
use Rattle.kept_forms.specs.KeptForms.{counts_at}
use Rattle.kept_forms.specs.Carried.{kept_aside, FormFits}
use Rattle.kept_forms.proofs.MayBeKept.{form_fits}
use Rattle.carried_forms.specs.Worked.{WorkedForm}
use Rattle.carried_forms.specs.Carried.{have_same_answers, asks_alike}
use Rattle.carried_forms.proofs.NumberLaws.{pass_kept, left_kept}
use Rattle.carried_laws.specs.AtWork.{IsAtWork}
use Rattle.carried_laws.specs.Entries.{RestStands, StandsFor, RestAnswers, Stays, kept_parts_as, kept_as}
use Rattle.carried_laws.specs.CarriedEntries.{rest_came_to, came_to}
use Rattle.carried_laws.proofs.Renumbered.{entry_moved}

pub came_to_is_entry : (n : ℕ) (f : WorkedForm) → IsAtWork n f → StandsFor n (f.form, f.tree) (came_to f) f.around f.later
came_to_is_entry n f h = record {
  unit_there = h.unit_first;
  form_there = h.form_first;
  new = h.new;
  begun = h.begun;
  aside = refl;
  rest = rest f.left h.rest;
  fits = fits f.left h.set;
}
  where
    rest : (l : Result (Left Ident) Broken) → RestBegins f.later l → RestStands n f.form f.later (rest_came_to f l)
    rest (Ok l) b = (h.unit_later, h.form_later, b, refl)
    rest (Err e) b = tt

    fits : (l : Result (Left Ident) Broken) → l ≡ (set_aside f.around enough_turns f.tree).0.left → FormFits (Some (record { aside = kept_aside f.around enough_turns f.tree; parts = rest_came_to f l }))
    fits (Ok l) e = form_fits f.around f.later enough_turns f.tree l h.begun (sym e) (h.counts ∙ ap (λ m. counts_at m (set_aside f.around enough_turns f.tree).1) (sym h.form_first))
    fits (Err x) e = tt

both : (a b : Bool) → (a && b) ≡ true → (a ≡ true) × (b ≡ true)
both true true h = (refl, refl)
both true false h = absurd cc
both false b h = absurd cc

module _ (r : Renumbering) (b : HasOldNumbers r) (n : ℕ) (f g : WorkedForm) (at : IsAtWork n f) (alike : asks_alike r f g ≡ true) (form : r.form n f.form ≡ g.form) (tree : move_tree (change r) f.tree ≡ g.tree) where
  abbrev w : Around
  w = around_new r b f.around

  abbrev u : Around
  u = around_new r b f.later

  told : (have_same_answers r f.around g.around (questions_of_pass f.around enough_turns f.tree) ≡ true) × (have_same_answers r f.later g.later (questions_of_left f.later enough_turns f.left) ≡ true)
  told = both (have_same_answers r f.around g.around (questions_of_pass f.around enough_turns f.tree)) (have_same_answers r f.later g.later (questions_of_left f.later enough_turns f.left)) alike

  rest_told : (l : Result (Left Ident) Broken) → have_same_answers r f.later g.later (questions_of_left f.later enough_turns l) ≡ true → RestAnswers u g.later (option_map (kept_parts_as r) (rest_came_to f l))
  rest_told (Ok l) h = left_kept r (old_numbers_apart r b) f.later g.later u (turns_move r b f.later) enough_turns (Ok l) h
  rest_told (Err e) h = tt

  pub carried_stays : Stays (r.unit n) (g.form, g.tree) (Some (kept_as r (came_to f))) g
  carried_stays = (
    w,
    u,
    (let e = form in let d = tree in subst (λ (x : ℕ × Tree Ident). StandsFor (r.unit n) x (kept_as r (came_to f)) w u) (λ j. (e j, d j)) (entry_moved r b n (f.form, f.tree) (came_to f) f.around f.later (came_to_is_entry n f at))),
    record {
      pass = subst (λ (t : Tree Ident). Each (SameAnswer w g.around) (questions_of_pass w enough_turns t)) tree (pass_kept r (old_numbers_apart r b) f.around g.around w (turns_move r b f.around) enough_turns f.tree told.0);
      rest = rest_told f.left told.1;
    },
  )
