-- Each state corresponds to itself under new numbers, so the law speaks of every state.
use Rattle.std.proofs.Common.{◌≡◌, ℕ, suc, ◌+◌, List, [], ◌∷◌, map, Bool, true, false, cond, Option, Some, refl, sym, ap, ◌∙◌, arith, eq-eqb}
use Rattle.std.specs.Prelude.{◌&&◌, ◌==◌}
use Rattle.std.proofs.lemmas.Bool.Decides.{nat_tests}
use Rattle.scheme_model.specs.Identifiers.{Number, same_number}
use Rattle.scheme_model.specs.Ident.{Ident, same_ident}
use Rattle.scheme_model.specs.Meaning.{Meaning}
use Rattle.scheme_model.specs.RulesShape.{option_map}
use Rattle.scheme_model.specs.Substitution.{Table, definition_count, KeptMacro, State, rules_at}
use Rattle.scheme_model.specs.ScopedExpansion.{BodyDefinitions, UsePlace, ScopedMacro, ScopedState, around, find, macro_at}
use Rattle.scheme_model.proofs.RenamingLaws.{cond_map}
use Rattle.renumbering_laws.specs.Moving.{move_rules}
use Rattle.renumbering_laws.specs.Renumbering.{Renumbering, IsOneToOne, number, ident, meaning, target, macro_use_as}
use Rattle.renumbering_laws.specs.States.{defined_as, names_change, AtForms, TablesMove, EntriesMove, CountsOn, StatesMove}
use Rattle.renumbering_laws.specs.ScopedStates.{frames_as, transformer_as, ScopedMacrosMove, found_number, ScopedMove}
use Rattle.renumbering_laws.specs.NewStates.{HasInverse, at_new, entries_new, kept_new, state_new, scoped_new, use_new, body_definition_new, scoped_state_new}
use Rattle.renumbering_laws.proofs.OneToOne.{number_moved, ident_moved, same_moved}
use Rattle.renumbering_laws.proofs.NameLaws.{table_step}

-- numbers with an old one each are told apart
told_by_back : (g back : ℕ → ℕ) → ((n : ℕ) → back (g n) ≡ n) → (m n : ℕ) → (g m == g n) ≡ (m == n)
told_by_back g back h m n = go (m == n) refl
  where
    go : (b : Bool) → (m == n) ≡ b → (g m == g n) ≡ b
    go true e = let q : m ≡ n = grind (arith, nat_tests) in ap (λ k. g m == g k) (sym q) ∙ eq-eqb (g m) (g m) refl
    go false e = other (g m == g n) refl
      where
        other : (c : Bool) → (g m == g n) ≡ c → c ≡ false
        other false d = refl
        other true d =
            let q : g m ≡ g n = grind (arith, nat_tests) in let p : m ≡ n = sym (h m) ∙ ap back q ∙ h n in
            let z : (m == n) ≡ true = ap (λ k. m == k) (sym p) ∙ eq-eqb m m refl in let y : true ≡ false = sym z ∙ e in absurd cc

module _ (r : Renumbering) (w : HasInverse r) where
  pub one_to_one : IsOneToOne r
  one_to_one = record { units = told_by_back r.unit w.unit_back w.unit_here; forms = λ u. told_by_back (r.form u) (w.forms.back u) (w.forms.here u) }

  at_forms : {X Y : Type 0} (u : ℕ) (g : X → Y) (c : ℕ → X) → AtForms r u g c (at_new r w u g c)
  at_forms u g c f = ap (λ x. g (c x)) (w.forms.here u f)

  tables_new : (t : Table) → TablesMove r t (map (defined_as r) t)
  tables_new [] = λ u i. refl
  tables_new (d ∷ ds) = table_step r one_to_one ds (map (defined_as r) ds) (tables_new ds) d

  entries_move : (e : ℕ → List ℕ → Option Meaning) → EntriesMove r e (entries_new r w e)
  entries_move e u x = ap (λ v. option_map (meaning r) (e v x)) (w.unit_here u)

  count_same : (t : Table) (u : ℕ) → definition_count (map (defined_as r) t) (r.unit u) ≡ definition_count t u
  count_same [] u = refl
  count_same (d ∷ ds) u = let a = one_to_one.units d.unit u in let b = count_same ds u in λ j. cond (a j) (suc (b j)) (b j)

  counts_new : (t : Table) (u : ℕ) → CountsOn r u (definition_count t u) (definition_count (map (defined_as r) t) (r.unit u))
  counts_new t u m = ap (λ n. n + m) (count_same t u) ∙ sym (w.definitions u (definition_count t u + m))

  rules_new : (ks : List KeptMacro) (m : Meaning) → rules_at (map (kept_new r w) ks) (meaning r m) ≡ option_map (move_rules (names_change r)) (rules_at ks m)
  rules_new [] m = refl
  rules_new (k ∷ ks) m = cond_map (option_map (move_rules (names_change r))) (Some k.rules) (rules_at ks m) (same_moved r one_to_one k.meaning m) refl (rules_new ks m)

  pub states_move : (s : State) → StatesMove r s.unit s (state_new r w s)
  states_move s = record {
    at = refl;
    unit = refl;
    program = refl;
    form = refl;
    locals = at_forms s.unit (λ (n : ℕ). n) s.locals;
    uses = at_forms s.unit (λ (n : ℕ). n) s.uses;
    nodes = at_forms s.unit (λ (n : ℕ). n) s.nodes;
    bodies = at_forms s.unit (λ (n : ℕ). n) s.bodies;
    keywords = at_forms s.unit (map (target r)) s.keywords;
    met = at_forms s.unit (map (macro_use_as r)) s.met;
    table = tables_new s.table;
    counts = counts_new s.table s.unit;
    entry = entries_move s.entry;
    macros = rules_new s.macros;
    in_body = refl;
    mine = refl;
  }

  -- ---- scopes

  macros_new : (ks : List ScopedMacro) → ScopedMacrosMove r w.forms ks (map (scoped_new r w) ks)
  macros_new [] m = refl
  macros_new (k ∷ ks) m = cond_map (option_map (transformer_as r w.forms)) (Some (record { env = k.frames; rules = k.rules })) (macro_at ks m) (same_moved r one_to_one k.meaning m) refl (macros_new ks m)

  places_new : (ps : List UsePlace) (k : Number) → around (map (use_new r w) ps) (number r k) ≡ frames_as r w.forms (around ps k)
  places_new [] k = refl
  places_new (p ∷ ps) k = cond_map (frames_as r w.forms) p.frames (around ps k) (number_moved r one_to_one p.use_number k) refl (places_new ps k)

  found_new : (ds : BodyDefinitions) (b : Number) (i : Ident) → found_number r w.forms (find (map (body_definition_new r w) ds) (number r b) (ident r i)) ≡ option_map (number r) (found_number r w.forms (find ds b i))
  found_new [] b i = refl
  found_new (d ∷ ds) b i =
      (let x = number_moved r one_to_one d.body b in let y = ident_moved r one_to_one d.ident i in
      λ j. found_number r w.forms (cond (x j && y j) (Some (number r d.binder, map (body_definition_new r w) ds)) (find (map (body_definition_new r w) ds) (number r b) (ident r i)))) ∙ go (found_new ds b i) (same_number d.body b && same_ident d.ident i)
    where
      go : found_number r w.forms (find (map (body_definition_new r w) ds) (number r b) (ident r i)) ≡ option_map (number r) (found_number r w.forms (find ds b i)) → (t : Bool)
          → found_number r w.forms (cond t (Some (number r d.binder, map (body_definition_new r w) ds)) (find (map (body_definition_new r w) ds) (number r b) (ident r i))) ≡ option_map (number r) (found_number r w.forms (cond t (Some (d.binder, ds)) (find ds b i)))
      go ih true = refl
      go ih false = ih

  pub scoped_states_move : (s : ScopedState) → ScopedMove r w.forms s.unit s (scoped_state_new r w s)
  scoped_states_move s = record {
    at = refl;
    unit = refl;
    program = refl;
    form = refl;
    locals = at_forms s.unit (λ (n : ℕ). n) s.locals;
    uses = refl;
    nodes = at_forms s.unit (λ (n : ℕ). n) s.nodes;
    bodies = at_forms s.unit (λ (n : ℕ). n) s.bodies;
    keywords = at_forms s.unit (map (target r)) s.keywords;
    met = at_forms s.unit (map (macro_use_as r)) s.met;
    table = tables_new s.table;
    counts = counts_new s.table s.unit;
    entry = entries_move s.entry;
    macros = macros_new s.macros;
    places = places_new s.places;
    definitions = found_new s.definitions;
  }
