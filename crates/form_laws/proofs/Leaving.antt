-- Where a form is at a moment in its surroundings, each step of it is at the next one; and what is read there is what the moment gives.
use Rattle.std.proofs.Common.{◌≡◌, ℕ, suc, ◌+◌, ◌-◌, [], ◌∷◌, ◌++◌, map, Bool, true, false, cond, Option, Some, None, refl, sym, ap, ◌∙◌, eq-eqb, arith}
use Rattle.std.specs.Prelude.{◌==◌}
use Rattle.std.proofs.lemmas.Bool.{eqb-true}
use Rattle.scheme_model.specs.Identifiers.{Number}
use Rattle.scheme_model.specs.Ident.{Ident}
use Rattle.scheme_model.specs.ExpansionFaults.{Named}
use Rattle.scheme_model.specs.Meaning.{Meaning, Local, Global, Standard, Free}
use Rattle.scheme_model.specs.Requirements.{Known}
use Rattle.scheme_model.specs.RulesShape.{Rules, option_map}
use Rattle.scheme_model.specs.Cores.{Target, MacroUse, Definition}
use Rattle.scheme_model.specs.Order.{is_some}
use Rattle.scheme_model.specs.Substitution.{Table, at_form, definition_count}
use Rattle.scheme_model.specs.Scopes.{local_or}
use Rattle.scheme_model.specs.ScopedExpansion.{Frames, ScopedState, next_number, find, macro_at, macro_added, assigned, is_defined, meaning_next, definition_added, bound_next, scoped}
use Rattle.scheme_model.specs.OwnAnswers.{local_inside, local_outside, own_local, root_means, own_means, own_macro}
use Rattle.scheme_model.specs.Questions.{Moment, Around, at_moment, own_at, number_in, found, bare, bare_macro}
use Rattle.scheme_model.specs.FormsAlike.{start, again, bare_place, bare_kept, bare_state, Leaves}
use Rattle.form_laws.proofs.Answering.{new_of, own_since, new_front, new_mapped}
use Rattle.form_laws.proofs.Bare.{SameFrames, macro_bare, some_mapped, local_bare}

-- ---- the counts of one form

-- a count that the form has gone to, and goes on from
pub at_twice : {X : Type 0} (f : ℕ) (g : X → X) (c : ℕ → X) (x : X) → at_form f g (at_form f (λ y. x) c) ≡ at_form f (λ y. g x) c
at_twice {X} f g c x = λ j k. go k (k == f) j
  where
    go : (k : ℕ) (b : Bool) → cond b (g (cond b x (c k))) (cond b x (c k)) ≡ cond b (g x) (c k)
    go k true = refl
    go k false = refl

pub at_here : {X : Type 0} (f : ℕ) (c : ℕ → X) (x : X) → at_form f (λ y. x) c f ≡ x
at_here f c x = ap (λ b. cond b x (c f)) (eq-eqb f f refl)

at_same : {X : Type 0} (f : ℕ) (c : ℕ → X) (x : X) → c f ≡ x → c ≡ at_form f (λ y. x) c
at_same {X} f c x e = λ j k. go k (k == f) refl j
  where
    go : (k : ℕ) (b : Bool) → (k == f) ≡ b → c k ≡ cond b x (c k)
    go k true d = ap c (eqb-true k f d) ∙ e
    go k false d = refl

-- what a form finds that begins with these counts
pub leaves_start : (v : Around) (n : Moment) → start v.state ≡ n → Leaves v n v.state
leaves_start v n e =
    let f = v.state.form in
    let a = at_same f v.state.locals n.locals (ap (λ (m : Moment). m.locals) e) in
    let b = at_same f v.state.uses n.uses (ap (λ (m : Moment). m.uses) e) in
    let c = at_same f v.state.nodes n.nodes (ap (λ (m : Moment). m.nodes) e) in
    let d = at_same f v.state.bodies n.bodies (ap (λ (m : Moment). m.bodies) e) in
    let x = at_same f v.state.keywords n.keywords (ap (λ (m : Moment). m.keywords) e) in
    let y = at_same f v.state.met n.met (ap (λ (m : Moment). m.met) e) in
    let t = ap (λ (m : Moment). m.table ++ v.state.table) e in
    let k = ap (λ (m : Moment). map bare_kept (m.macros ++ v.state.macros)) e in
    let p = ap (λ (m : Moment). map bare_place (m.places ++ v.state.places)) e in
    let q = ap (λ (m : Moment). m.definitions ++ v.state.definitions) e in
    λ j. record v.state { locals = a j; uses = b j; nodes = c j; bodies = d j; keywords = x j; met = y j; table = t j; macros = k j; places = p j; definitions = q j }

-- ---- steps

module _ (v : Around) (n : Moment) (t : ScopedState) (h : Leaves v n t) where
  abbrev form : ℕ
  form = v.state.form

  -- a state without times, at this moment
  abbrev here : ScopedState
  here = bare_state (again v n)

  pub spent : (m : ℕ) → Leaves v (record n { nodes = n.nodes + m }) (record t { nodes = at_form t.form (λ x. x + m) t.nodes })
  spent m =
      ap (λ (s : ScopedState). record s { nodes = at_form s.form (λ x. x + m) s.nodes }) h
      ∙ (let p = at_twice form (λ x. x + m) v.state.nodes n.nodes in λ j. record here { nodes = p j })

  pub met_keyword : (x : Target) → Leaves v (record n { keywords = x ∷ n.keywords }) (record t { keywords = at_form t.form (λ xs. x ∷ xs) t.keywords })
  met_keyword x =
      ap (λ (s : ScopedState). record s { keywords = at_form s.form (λ xs. x ∷ xs) s.keywords }) h
      ∙ (let p = at_twice form (λ xs. x ∷ xs) v.state.keywords n.keywords in λ j. record here { keywords = p j })

  pub met_use : (u : MacroUse) → Leaves v (record n { met = u ∷ n.met }) (record t { met = at_form t.form (λ us. u ∷ us) t.met })
  met_use u =
      ap (λ (s : ScopedState). record s { met = at_form s.form (λ us. u ∷ us) s.met }) h
      ∙ (let p = at_twice form (λ us. u ∷ us) v.state.met n.met in λ j. record here { met = p j })

  pub taken : Leaves v (record n { locals = suc n.locals }) (record t { locals = at_form t.form suc t.locals })
  taken =
      ap (λ (s : ScopedState). record s { locals = at_form s.form suc s.locals }) h
      ∙ (let p = at_twice form suc v.state.locals n.locals in λ j. record here { locals = p j })

  pub entered : Leaves v (record n { bodies = suc n.bodies }) (record t { bodies = at_form t.form suc t.bodies })
  entered =
      ap (λ (s : ScopedState). record s { bodies = at_form s.form suc s.bodies }) h
      ∙ (let p = at_twice form suc v.state.bodies n.bodies in λ j. record here { bodies = p j })

  pub next_locals : next_number t t.locals ≡ number_in v n.locals
  next_locals = ap (λ (s : ScopedState). next_number s s.locals) h ∙ (let p = at_here form v.state.locals n.locals in λ j. record { unit = v.state.unit; form = form; count = p j })

  pub next_uses : next_number t t.uses ≡ number_in v n.uses
  next_uses = ap (λ (s : ScopedState). next_number s s.uses) h ∙ (let p = at_here form v.state.uses n.uses in λ j. record { unit = v.state.unit; form = form; count = p j })

  pub next_bodies : next_number t t.bodies ≡ number_in v n.bodies
  next_bodies = ap (λ (s : ScopedState). next_number s s.bodies) h ∙ (let p = at_here form v.state.bodies n.bodies in λ j. record { unit = v.state.unit; form = form; count = p j })

  module _ (fs gs : Frames) (e : SameFrames fs gs) where
    pub begun : Leaves v (record n { uses = suc n.uses; places = record { use_number = number_in v n.uses; frames = fs } ∷ n.places }) (record t { uses = at_form t.form suc t.uses; places = record { use_number = next_number t t.uses; frames = gs } ∷ t.places })
    begun =
        (λ j. let s : ScopedState = h j in record s { uses = at_form s.form suc s.uses; places = record { use_number = next_number s s.uses; frames = e j } ∷ s.places })
        ∙ (let p = at_twice form suc v.state.uses n.uses in let q = at_here form v.state.uses n.uses in
        λ j. record here { uses = p j; places = record { use_number = record { unit = v.state.unit; form = form; count = q j }; frames = bare fs } ∷ here.places })

    pub kept : (m : Meaning) (r : Rules Ident) → Leaves v (record n { macros = record { meaning = m; frames = fs; rules = r } ∷ n.macros }) (record t { macros = record { meaning = m; frames = gs; rules = r } ∷ t.macros })
    kept m r = λ j. let s : ScopedState = h j in record s { macros = record { meaning = m; frames = e j; rules = r } ∷ s.macros }

    -- macros of one meaning, where there are rules
    macros_added : (m : ScopedState → Meaning) (k : Meaning) → m here ≡ k → (m t ≡ m here) → (r : Option (Rules Ident)) → map bare_kept (macro_added (m t) gs r t.macros) ≡ map bare_kept (macro_added k fs r n.macros ++ v.state.macros)
    macros_added m k d c None = ap (λ (s : ScopedState). s.macros) h
    macros_added m k d c (Some r) = let x = c ∙ d in let y = ap (λ (s : ScopedState). s.macros) h in λ j. record { meaning = x j; frames = e j; rules = r } ∷ y j

    pub added : (b : Option Number) (x : Named Ident) (r : Option (Rules Ident)) → Leaves v (found v b x r fs n) (definition_added b x r gs t)
    added None x r =
        let k = macros_added (λ s. Global s.unit x.name) (Global v.state.unit x.name) refl (ap (λ (s : ScopedState). Global s.unit x.name) h) r in
        λ j. let s : ScopedState = h j in record s { table = record { unit = s.unit; form = s.form; ident = x.name; keyword = is_some r; occ = x.occ } ∷ s.table; macros = k j }
    added (Some b) x r =
        let k = macros_added (λ s. Local (next_number s s.locals)) (Local (number_in v n.locals)) (let q = at_here form v.state.locals n.locals in λ j. Local (record { unit = v.state.unit; form = form; count = q j })) (ap (λ (s : ScopedState). Local (next_number s s.locals)) h) r in
        let p = ap (λ (s : ScopedState). at_form s.form suc s.locals) h ∙ at_twice form suc v.state.locals n.locals in
        let q = next_locals in
        λ j. let s : ScopedState = h j in record s { locals = p j; definitions = record { body = b; ident = x.name; binder = q j } ∷ s.definitions; macros = k j }

  -- ---- what is read

  pub counts_are : (known : Known) → (scoped known).counted t ≡ record { locals = n.locals; uses = n.uses; nodes = n.nodes; keywords = n.keywords; met = n.met }
  counts_are known =
      ap (λ (s : ScopedState). (scoped known).counted s) h
      ∙ (let a = at_here form v.state.locals n.locals in let b = at_here form v.state.uses n.uses in let c = at_here form v.state.nodes n.nodes in let d = at_here form v.state.keywords n.keywords in let e = at_here form v.state.met n.met in
      λ j. record { locals = a j; uses = b j; nodes = c j; keywords = d j; met = e j })

  pub assigned_is : (b : Option Number) (i : Ident) → assigned t b i ≡ assigned (at_moment v n) b i
  assigned_is None i = ap (λ (s : ScopedState). assigned s None i) h
  assigned_is (Some b) i = refl

  pub defined_is : (i : Ident) → is_defined t None i ≡ is_defined (at_moment v n) None i
  defined_is i = ap (λ (s : ScopedState). is_defined s None i) h

  pub unit_is : (i : Ident) → meaning_next t None i ≡ Global v.state.unit i
  unit_is i = ap (λ (s : ScopedState). Global s.unit i) h

  table_is : new_of v.state.table t.table ≡ n.table
  table_is = ap (λ (s : ScopedState). new_of v.state.table s.table) h ∙ new_front v.state.table n.table

  definitions_are : new_of v.state.definitions t.definitions ≡ n.definitions
  definitions_are = ap (λ (s : ScopedState). new_of v.state.definitions s.definitions) h ∙ new_front v.state.definitions n.definitions

  places_are : map bare_place (new_of v.state.places t.places) ≡ map bare_place n.places
  places_are = new_mapped bare_place v.state.places n.places t.places (ap (λ (s : ScopedState). s.places) h)

  macros_are : map bare_kept (new_of v.state.macros t.macros) ≡ map bare_kept n.macros
  macros_are = new_mapped bare_kept v.state.macros n.macros t.macros (ap (λ (s : ScopedState). s.macros) h)

  pub local_is : (fs gs : Frames) → SameFrames fs gs → (i : Ident) → own_local (own_since v.state t) gs i ≡ own_local (own_at n) fs i
  local_is fs gs e i =
      let a = table_is in let b = places_are in let c = definitions_are in
      sym (local_bare (own_since v.state t) gs i)
      ∙ (λ j. local_inside (c j) (e j) i (local_outside (a j) (b j) (c j) i))
      ∙ local_bare (own_at n) fs i

  pub means_is : (fs gs : Frames) → SameFrames fs gs → (i : Ident) → own_means (own_since v.state t) t gs i ≡ own_means (own_at n) (at_moment v n) fs i
  means_is fs gs e i = let a = local_is fs gs e i in let b = ap (λ (s : ScopedState). root_means s i) h in λ j. local_or (a j) (b j)

  pub outside_macro : (m : Meaning) → option_map bare_macro (macro_at t.macros m) ≡ option_map bare_macro (macro_at (n.macros ++ v.state.macros) m)
  outside_macro m = sym (macro_bare t.macros m) ∙ ap (λ (s : ScopedState). macro_at s.macros m) h ∙ macro_bare (n.macros ++ v.state.macros) m

  pub macro_is : (m : Meaning) → option_map bare_macro (own_macro (own_since v.state t) t m) ≡ option_map bare_macro (own_macro (own_at n) (at_moment v n) m)
  macro_is (Local k) = sym (macro_bare (new_of v.state.macros t.macros) (Local k)) ∙ ap (λ ks. macro_at ks (Local k)) macros_are ∙ macro_bare n.macros (Local k)
  macro_is (Global u i) = outside_macro (Global u i)
  macro_is (Standard x) = outside_macro (Standard x)
  macro_is (Free x) = outside_macro (Free x)

  pub keyword_is : (m : Meaning) → is_some (own_macro (own_since v.state t) t m) ≡ is_some (own_macro (own_at n) (at_moment v n) m)
  keyword_is m = sym (some_mapped bare_macro (own_macro (own_since v.state t) t m)) ∙ ap is_some (macro_is m) ∙ some_mapped bare_macro (own_macro (own_at n) (at_moment v n) m)

  pub found_is : (b : Number) (i : Ident) → is_some (find (new_of v.state.definitions t.definitions) b i) ≡ is_some (find n.definitions b i)
  found_is b i = ap (λ ds. is_some (find ds b i)) definitions_are

  -- ---- what the next definition binds

  counts_join : (u : ℕ) (xs ys : Table) → definition_count (xs ++ ys) u ≡ definition_count xs u + definition_count ys u
  counts_join u [] ys = omega arith
  counts_join u (d ∷ xs) ys = go (d.unit == u) (counts_join u xs ys)
    where
      go : (b : Bool) → definition_count (xs ++ ys) u ≡ definition_count xs u + definition_count ys u → cond b (suc (definition_count (xs ++ ys) u)) (definition_count (xs ++ ys) u) ≡ cond b (suc (definition_count xs u)) (definition_count xs u) + definition_count ys u
      go true e = omega (arith, e)
      go false e = e

  moved_count : (own from to a b : ℕ) → a ≡ own + from → b ≡ own + to → b ≡ a + to - from
  moved_count own from to a b p q = omega (arith, p, q)

  pub next_definition : (w : Around) → v.state.unit ≡ w.state.unit
      → bound_next t None ≡ Definition w.state.unit (definition_count (n.table ++ w.state.table) w.state.unit + definition_count v.state.table v.state.unit - definition_count w.state.table w.state.unit)
  next_definition w same =
      let own = definition_count n.table w.state.unit in
      let a = counts_join w.state.unit n.table w.state.table in
      let b = counts_join v.state.unit n.table v.state.table ∙ ap (λ u. definition_count n.table u + definition_count v.state.table v.state.unit) same in
      let c = moved_count own (definition_count w.state.table w.state.unit) (definition_count v.state.table v.state.unit) (definition_count (n.table ++ w.state.table) w.state.unit) (definition_count (n.table ++ v.state.table) v.state.unit) a b in
      ap (λ (s : ScopedState). bound_next s None) h ∙ (λ j. Definition (same j) (c j))
