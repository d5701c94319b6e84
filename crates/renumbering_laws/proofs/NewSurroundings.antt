-- All surroundings of a form correspond to themselves under new numbers, so the laws on questions speak of every form.
use Rattle.std.proofs.Common.{◌≡◌, ℕ, suc, ◌+◌, [], ◌∷◌, map, Bool, true, false, cond, Option, Some, None, refl, sym, ap, ◌∙◌, eq-eqb}
use Rattle.std.specs.Prelude.{◌==◌}
use Rattle.std.proofs.lemmas.Bool.{eqb-true}
use Rattle.scheme_model.specs.RulesShape.{option_map}
use Rattle.scheme_model.specs.Substitution.{Table, definition_count}
use Rattle.scheme_model.specs.Questions.{Around}
use Rattle.renumbering_laws.specs.Renumbering.{Renumbering, IsOneToOne, meaning, target, macro_use_as}
use Rattle.renumbering_laws.specs.States.{defined_as, CountsOn}
use Rattle.renumbering_laws.specs.Asked.{AroundMoves, TurnsMove}
use Rattle.renumbering_laws.specs.NewSurroundings.{HasOldNumbers, at_old, forms_new, around_new}
use Rattle.renumbering_laws.proofs.NewAnswers.{own_table, own_macros}

number_of : Option ℕ → ℕ
number_of None = 0
number_of (Some n) = n

-- numbers that tell their old ones are told apart
apart : (g : ℕ → ℕ) (back : ℕ → Option ℕ) → ((n : ℕ) → back (g n) ≡ Some n) → (m n : ℕ) → (g m == g n) ≡ (m == n)
unfolding number_of
apart g back h m n = go (g m == g n) refl (m == n) refl
  where
    same : g m ≡ g n → m ≡ n
    same e = ap number_of (sym (h m) ∙ ap back e ∙ h n)

    go : (a : Bool) → (g m == g n) ≡ a → (b : Bool) → (m == n) ≡ b → a ≡ b
    go true ea true eb = refl
    go false ea false eb = refl
    go true ea false eb = sym (eq-eqb m n (same (eqb-true (g m) (g n) ea))) ∙ eb
    go false ea true eb = sym ea ∙ eq-eqb (g m) (g n) (ap g (eqb-true m n eb))

module _ (r : Renumbering) (b : HasOldNumbers r) where
  pub old_numbers_apart : IsOneToOne r
  old_numbers_apart = record { units = apart r.unit b.unit_back b.unit_here; forms = λ u. apart (r.form u) (b.form_back u) (b.form_here u) }

  count_same : (t : Table) (u : ℕ) → definition_count (map (defined_as r) t) (r.unit u) ≡ definition_count t u
  count_same [] u = refl
  count_same (d ∷ ds) u = let a = old_numbers_apart.units d.unit u in let c = count_same ds u in λ j. cond (a j) (suc (c j)) (c j)

  counts_new : (t : Table) (u : ℕ) → CountsOn r u (definition_count t u) (definition_count (map (defined_as r) t) (r.unit u))
  counts_new t u m = ap (λ n. n + m) (count_same t u) ∙ sym (b.definitions u (definition_count t u + m))

  pub form_new : {X : Type 0} (u : ℕ) (none : X) (c : ℕ → X) (f : ℕ) → forms_new r b u none c (r.form u f) ≡ c f
  form_new u none c f = ap (at_old none c) (b.form_here u f)

  pub around_moves : (w : Around) → AroundMoves r w (around_new r b w)
  around_moves w = record {
    unit = refl;
    form = refl;
    program = refl;
    table = own_table r old_numbers_apart w.state.table;
    entry = λ u x. ap (at_old None (λ v. option_map (meaning r) (w.state.entry v x))) (b.unit_here u);
    macros = own_macros r old_numbers_apart w.state.macros;
    known = refl;
    notes = refl;
  }

  pub turns_move : (w : Around) → TurnsMove r w (around_new r b w)
  turns_move w =
      let u = w.state.unit in let f = w.state.form in
      let l = form_new u 0 w.state.locals f in let k = form_new u 0 w.state.uses f in let n = form_new u 0 w.state.nodes f in let c = form_new u 0 w.state.bodies f in
      let x = form_new u [] (λ g. map (target r) (w.state.keywords g)) f in let y = form_new u [] (λ g. map (macro_use_as r) (w.state.met g)) f in
      record {
        around = around_moves w;
        begun = λ j. record { locals = l j; uses = k j; nodes = n j; bodies = c j; keywords = x j; met = y j; table = []; macros = []; places = []; definitions = [] };
        counts = counts_new w.state.table u;
      }
