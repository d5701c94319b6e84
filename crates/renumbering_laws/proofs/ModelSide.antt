-- Expansion by substitution under old numbers and under new ones.
use Rattle.std.proofs.Common.{◌≡◌, ℕ, suc, ◌+◌, List, [], ◌∷◌, map, Bool, true, false, cond, Option, Some, None, Result, Ok, Err, refl, sym, ap, ◌∙◌, subst, arith, eq-eqb}
use Rattle.std.specs.Prelude.{◌&&◌, ◌==◌, not}
use Rattle.scheme_model.specs.Identifiers.{Number, Name, Inner}
use Rattle.scheme_model.specs.Ident.{Ident, erase}
use Rattle.scheme_model.specs.ExpansionFaults.{Named, named, Fault, KeywordRedefined, Duplicate}
use Rattle.scheme_model.specs.Meaning.{Meaning, Local, Global, Standard, Free, same_meaning}
use Rattle.scheme_model.specs.Requirements.{Known}
use Rattle.scheme_model.specs.Trees.{map_trees}
use Rattle.scheme_model.specs.RulesShape.{Rules, option_map}
use Rattle.scheme_model.specs.Cores.{LocalNumber, Definition}
use Rattle.scheme_model.specs.Order.{Pending, Renamed, Region, is_some}
use Rattle.scheme_model.specs.Substitution.{Table, Defined, Clock, at_form, defined_in, definition_count, State, KeptMacro, number_at, means, rules_at, transformer_of, with_macro, any, asks, refused_in_body, refused_in_unit, is_mine, is_own, rules_mapped, own_rules, deep, shallow, pending_map, renamed, unchanged, defined_local, define_in_body, defined_global, define_in_unit, define, is_variable, model}
use Rattle.scheme_model.proofs.RenamingLaws.{cond_map}
use Rattle.scheme_model.proofs.IdentLaws.{number_told}
use Rattle.renumbering_laws.specs.Moving.{Change, move_trees, move_named, move_rules}
use Rattle.renumbering_laws.specs.Renumbering.{Renumbering, IsOneToOne, number, place, ident, named_as, meaning, target, bound, macro_use_as, counted_as, pending_as}
use Rattle.renumbering_laws.specs.States.{defined_as, names_change, AtForms, ClocksMove, CountsOn, DefinedAlike, StatesMove}
use Rattle.renumbering_laws.proofs.Sides.{no_macro, a_macro, regions, DefinedMoves, Sides, Macros, Regions}
use Rattle.renumbering_laws.proofs.OneToOne.{name_moved, same_moved}
use Rattle.renumbering_laws.proofs.Turned.{trees_turned, rules_turned}
use Rattle.renumbering_laws.proofs.NameLaws.{some_kept, erase_moved, strip_moved, plain_moved, at_forms_step, found_moved, means_moved, shallow_moved, deep_moved, asks_moved, mine_moved, own_moved, any_moved, pending_turned, variable_moved, table_step}

module _ (r : Renumbering) (o : IsOneToOne r) (u : ℕ) (known : Known) where
  abbrev Moved : State → State → Type 0
  Moved s s' = StatesMove r u s s'

  abbrev mv : Change Name Name
  mv = names_change r

  abbrev pending_two : Pending Name Name → Pending Name Name
  pending_two p = pending_as r (named_as r) (named_as r) p

  -- what is defined since is the same, renumbered
  abbrev Grow : State → State → State → State → Type 0
  Grow s s' t t' = (from from' : Table) → DefinedAlike r from from' s.table s'.table → DefinedAlike r from from' t.table t'.table

  still : (s s' : State) → Grow s s' s s'
  still s s' from from' g = g

  -- what comes of a definition on both sides
  abbrev Defines : State → State → Result (Renamed Name Name) (Fault Ident) × State → Result (Renamed Name Name) (Fault Ident) × State → Type 0
  Defines s s' q q' = DefinedMoves r (named_as r) (named_as r) q.0 q'.0 × Moved q.1 q'.1 × Grow s s' q.1 q'.1

  -- ---- numbers

  -- what the form at work has
  now : {X Y : Type 0} (g : X → Y) (s s' : State) → Moved s s' → (c : ℕ → X) (d : ℕ → Y) → AtForms r s.unit g c d → d s'.form ≡ g (c s.form)
  now g s s' l c d e = ap d l.form ∙ e s.form

  pub number_now : (s s' : State) → Moved s s' → (c d : Clock) → ClocksMove r s.unit c d → number_at s' d ≡ number r (number_at s c)
  number_now s s' l c d e = let a = l.unit in let b = l.form in let n = now (λ (x : ℕ). x) s s' l c d e in λ j. record { unit = a j; form = b j; count = n j }

  pub tick : (s s' : State) → Moved s s' → (c d : Clock) → ClocksMove r s.unit c d → (k : ℕ → ℕ) → ClocksMove r s.unit (at_form s.form k c) (at_form s'.form k d)
  tick s s' l c d e k = at_forms_step r o s.unit (λ (x : ℕ). x) c d e s.form s'.form l.form k k (λ x. refl)

  pub counted_now : (s s' : State) → Moved s s' → (model known).counted s' ≡ counted_as r ((model known).counted s)
  counted_now s s' l =
      let a = now (λ (x : ℕ). x) s s' l s.locals s'.locals l.locals in let b = now (λ (x : ℕ). x) s s' l s.uses s'.uses l.uses in let c = now (λ (x : ℕ). x) s s' l s.nodes s'.nodes l.nodes in
      let d = now (map (target r)) s s' l s.keywords s'.keywords l.keywords in let e = now (map (macro_use_as r)) s s' l s.met s'.met l.met in
      λ j. record { locals = a j; uses = b j; nodes = c j; keywords = d j; met = e j }

  -- ---- macros

  pub to_transformer : (x y : Option (Rules Name)) → y ≡ option_map (move_rules mv) x → Macros (λ (a b : Unit {0}). Unit {0}) mv (transformer_of x) (transformer_of y)
  to_transformer x y e = subst (λ z. Macros (λ (a b : Unit {0}). Unit {0}) mv (transformer_of x) (transformer_of z)) (sym e) (go x)
    where
      go : (z : Option (Rules Name)) → Macros (λ (a b : Unit {0}). Unit {0}) mv (transformer_of z) (transformer_of (option_map (move_rules mv) z))
      go None = no_macro
      go (Some x) = a_macro (record { env = tt; rules = x }) tt tt

  abbrev MacrosMove : List KeptMacro → List KeptMacro → Type 0
  MacrosMove ks ks' = (m : Meaning) → rules_at ks' (meaning r m) ≡ option_map (move_rules mv) (rules_at ks m)

  pub added : (ks ks' : List KeptMacro) → MacrosMove ks ks' → (n n' : Meaning) → n' ≡ meaning r n → (x : Option (Rules Name)) → MacrosMove (with_macro n x ks) (with_macro n' (option_map (move_rules mv) x) ks')
  added ks ks' l n n' e None m = l m
  added ks ks' l n n' e (Some x) m = cond_map (option_map (move_rules mv)) (Some x) (rules_at ks m) (ap (λ y. same_meaning y (meaning r m)) e ∙ same_moved r o n m) refl (l m)

  meaning_told : (m n : Meaning) → same_meaning m n ≡ true → (vs : List Number) → is_own vs m ≡ is_own vs n
  meaning_told (Local v) (Local w) e vs = ap (λ x. is_own vs (Local x)) (number_told v w e)
  meaning_told (Local v) (Global x i) e vs = absurd cc
  meaning_told (Local v) (Standard x) e vs = absurd cc
  meaning_told (Local v) (Free x) e vs = absurd cc
  meaning_told (Global x i) (Local w) e vs = absurd cc
  meaning_told (Global x i) (Global y j) e vs = refl
  meaning_told (Global x i) (Standard y) e vs = refl
  meaning_told (Global x i) (Free y) e vs = refl
  meaning_told (Standard x) (Local w) e vs = absurd cc
  meaning_told (Standard x) (Global y j) e vs = refl
  meaning_told (Standard x) (Standard y) e vs = refl
  meaning_told (Standard x) (Free y) e vs = refl
  meaning_told (Free x) (Local w) e vs = absurd cc
  meaning_told (Free x) (Global y j) e vs = refl
  meaning_told (Free x) (Standard y) e vs = refl
  meaning_told (Free x) (Free y) e vs = refl

  -- the rules of the macros that a body has defined, as a definition in it changes them
  own_found : (vs : List Number) (f : Name → Name) (ks : List KeptMacro) (m : Meaning) → rules_at (map (own_rules vs f) ks) m ≡ option_map (rules_mapped (is_own vs m) f) (rules_at ks m)
  own_found vs f [] m = refl
  own_found vs f (k ∷ ks) m = go (same_meaning k.meaning m) refl (own_found vs f ks m)
    where
      go : (t : Bool) → same_meaning k.meaning m ≡ t → rules_at (map (own_rules vs f) ks) m ≡ option_map (rules_mapped (is_own vs m) f) (rules_at ks m)
          → cond t (Some (rules_mapped (is_own vs k.meaning) f k.rules)) (rules_at (map (own_rules vs f) ks) m) ≡ option_map (rules_mapped (is_own vs m) f) (cond t (Some k.rules) (rules_at ks m))
      go true e ih = ap (λ b. Some (rules_mapped b f k.rules)) (meaning_told k.meaning m e vs)
      go false e ih = ih

  module _ (x : Name) (v : Number) where
    mapped_moved : (b : Bool) (y : Rules Name) → rules_mapped b (deep (named_as r x) (number r v)) (move_rules mv y) ≡ move_rules mv (rules_mapped b (deep x v) y)
    mapped_moved true y = rules_turned Name Name Name Name (place r) (named_as r) (named_as r) (deep x v) (deep (named_as r x) (number r v)) (deep_moved r o x v) y
    mapped_moved false y = refl

    some_mapped_moved : (b : Bool) (y : Option (Rules Name)) → option_map (rules_mapped b (deep (named_as r x) (number r v))) (option_map (move_rules mv) y) ≡ option_map (move_rules mv) (option_map (rules_mapped b (deep x v)) y)
    some_mapped_moved b None = refl
    some_mapped_moved b (Some y) = ap Some (mapped_moved b y)

    own_step : (vs : List Number) (ks ks' : List KeptMacro) → MacrosMove ks ks' → MacrosMove (map (own_rules vs (deep x v)) ks) (map (own_rules (map (number r) vs) (deep (named_as r x) (number r v))) ks')
    own_step vs ks ks' l m =
        own_found (map (number r) vs) (deep (named_as r x) (number r v)) ks' (meaning r m)
        ∙ (let a = own_moved r o vs m in let b = l m in λ j. option_map (rules_mapped (a j) (deep (named_as r x) (number r v))) (b j))
        ∙ some_mapped_moved (is_own vs m) (rules_at ks m)
        ∙ ap (option_map (move_rules mv)) (sym (own_found vs (deep x v) ks m))

  -- ---- a definition in a body

  pub means_now : (s s' : State) → Moved s s' → (i : Name) → means s' (named_as r i) ≡ meaning r (means s i)
  means_now s s' l i = means_moved r s.table s'.table s.entry s'.entry l.table l.entry i

  same_means : (s s' : State) → Moved s s' → (f : Name → Name) (f' : Name → Name) → ((i : Name) → f' (named_as r i) ≡ named_as r (f i)) → (i j : Name)
      → same_meaning (means s' (f' (named_as r i))) (means s' (f' (named_as r j))) ≡ same_meaning (means s (f i)) (means s (f j))
  same_means s s' l f f' e i j =
      (let a = ap (means s') (e i) ∙ means_now s s' l (f i) in let b = ap (means s') (e j) ∙ means_now s s' l (f j) in λ k. same_meaning (a k) (b k)) ∙ same_moved r o (means s (f i)) (means s (f j))

  module _ (n : Named Name) (x : Option (Rules Name)) (p : Pending Name Name) (s s' : State) (l : Moved s s') where
    abbrev n' : Named Name
    n' = move_named mv n

    abbrev x' : Option (Rules Name)
    x' = option_map (move_rules mv) x

    abbrev v : Number
    v = number_at s s.locals

    abbrev v' : Number
    v' = number r (number_at s s.locals)

    new_same : is_some x' ≡ is_some x
    new_same = some_kept (move_rules mv) x

    local_number : number_at s' s'.locals ≡ v'
    local_number = number_now s s' l s.locals s'.locals l.locals

    abbrev body_refused : Bool
    body_refused = any (refused_in_body s n.name v (is_some x)) p.notes

    body_refused_same : any (refused_in_body s' n'.name (number_at s' s'.locals) (is_some x')) (pending_two p).notes ≡ body_refused
    body_refused_same =
        (let a = local_number in let b = new_same in λ j. any (refused_in_body s' n'.name (a j) (b j)) (pending_two p).notes)
        ∙ any_moved (named_as r) (is_some x) (asks n.name) (asks n'.name) (asks_moved r o n.name v) (λ j. means s (deep n.name v j)) (λ j. means s' (deep n'.name v' j)) (same_means s s' l (deep n.name v) (deep n'.name v') (deep_moved r o n.name v)) p.notes

    local_step : Moved (defined_local n.name x s) (defined_local n'.name x' s')
    local_step = record {
      at = l.at;
      unit = l.unit;
      program = l.program;
      form = l.form;
      locals = tick s s' l s.locals s'.locals l.locals suc;
      uses = l.uses;
      nodes = l.nodes;
      bodies = l.bodies;
      keywords = l.keywords;
      met = l.met;
      table = l.table;
      counts = l.counts;
      entry = l.entry;
      macros = λ m. (let a = local_number in let b = l.mine in λ j. rules_at (map (own_rules (a j ∷ b j) (deep n'.name (a j))) (with_macro (Local (a j)) x' s'.macros)) (meaning r m))
          ∙ own_step n.name v (v ∷ s.mine) (with_macro (Local v) x s.macros) (with_macro (Local v') x' s'.macros) (added s.macros s'.macros l.macros (Local v) (Local v') refl x) m;
      in_body = l.in_body;
      mine = let a = local_number in let b = l.mine in λ j. a j ∷ b j;
    }

    body_case : (refused again : Bool) → Defines s s'
        (cond refused (Err (KeywordRedefined (named (erase n.name) n.occ)), s) (cond again (Err (Duplicate (named (erase n.name) n.occ)), s) (Ok (renamed (deep n.name v) p), defined_local n.name x s)))
        (cond refused (Err (KeywordRedefined (named (erase n'.name) n'.occ)), s') (cond again (Err (Duplicate (named (erase n'.name) n'.occ)), s') (Ok (renamed (deep n'.name (number_at s' s'.locals)) (pending_two p)), defined_local n'.name x' s')))
    body_case true again = (ap (λ i. KeywordRedefined (named i (place r n.occ))) (erase_moved r n.name), l, still s s')
    body_case false true = (ap (λ i. Duplicate (named i (place r n.occ))) (erase_moved r n.name), l, still s s')
    body_case false false = (
      record {
        pending = ap (λ w. pending_map (deep n'.name w) (deep n'.name w) (pending_two p)) local_number ∙ pending_turned Name Name r (named_as r) (deep n.name v) (deep n'.name v') (deep_moved r o n.name v) p;
        rename = λ i. ap (λ w. deep n'.name w (named_as r i)) local_number ∙ deep_moved r o n.name v i;
      },
      local_step,
      still s s',
    )

    in_body_goes : Defines s s' (define_in_body n x p s) (define_in_body n' x' (pending_two p) s')
    in_body_goes =
        subst (λ (t : Bool × Bool). Defines s s' (define_in_body n x p s) (cond t.0 (Err (KeywordRedefined (named (erase n'.name) n'.occ)), s') (cond t.1 (Err (Duplicate (named (erase n'.name) n'.occ)), s') (Ok (renamed (deep n'.name (number_at s' s'.locals)) (pending_two p)), defined_local n'.name x' s'))))
        (sym (let a = body_refused_same in let b = ap (λ vs. is_mine vs n'.name) l.mine ∙ mine_moved r o s.mine n.name in λ j. (a j, b j)))
        (body_case body_refused (is_mine s.mine n.name))

    -- ---- a definition in a unit

    abbrev d : Defined
    d = record { unit = s.unit; form = s.form; ident = erase n.name; keyword = is_some x; occ = n.occ }

    d_same : record { unit = s'.unit; form = s'.form; ident = erase n'.name; keyword = is_some x'; occ = n'.occ } ≡ defined_as r d
    d_same = let a = l.unit in let b = l.form in let c = erase_moved r n.name in let e = new_same in λ j. record { unit = a j; form = b j; ident = c j; keyword = e j; occ = place r n.occ }

    counts_step : CountsOn r s.unit (definition_count (d ∷ s.table) s.unit) (definition_count (record { unit = s'.unit; form = s'.form; ident = erase n'.name; keyword = is_some x'; occ = n'.occ } ∷ s'.table) s'.unit)
    counts_step m =
        let a : (s.unit == s.unit) ≡ true = eq-eqb s.unit s.unit refl in let b : (s'.unit == s'.unit) ≡ true = eq-eqb s'.unit s'.unit refl in
        let c = definition_count s.table s.unit in let c' = definition_count s'.table s'.unit in
        let e : suc c' + m ≡ c' + suc m = omega arith in let f : c + suc m ≡ suc c + m = omega arith in
        (λ j. cond (b j) (suc c') c' + m) ∙ e ∙ l.counts (suc m) ∙ ap (r.definition s.unit) f ∙ (λ j. r.definition s.unit (cond (sym a j) (suc c) c + m))

    global_same : Global s'.unit (erase n'.name) ≡ meaning r (Global s.unit (erase n.name))
    global_same = let a = l.unit in let b = erase_moved r n.name in λ j. Global (a j) (b j)

    global_step : Moved (defined_global n x s) (defined_global n' x' s')
    global_step = record {
      at = l.at;
      unit = l.unit;
      program = l.program;
      form = l.form;
      locals = l.locals;
      uses = l.uses;
      nodes = l.nodes;
      bodies = l.bodies;
      keywords = l.keywords;
      met = l.met;
      table = λ w i. ap (λ y. defined_in (y ∷ s'.table) (r.unit w) (ident r i)) d_same ∙ table_step r o s.table s'.table l.table d w i;
      counts = counts_step;
      entry = l.entry;
      macros = added s.macros s'.macros l.macros (Global s.unit (erase n.name)) (Global s'.unit (erase n'.name)) global_same x;
      in_body = l.in_body;
      mine = l.mine;
    }

    global_grows : Grow s s' (defined_global n x s) (defined_global n' x' s')
    global_grows from from' g = record { added = d ∷ g.added; here = ap (λ t. d ∷ t) g.here; there = (let a = d_same in let b = g.there in λ j. a j ∷ b j) }

    abbrev after : State
    after = defined_global n x s

    abbrev after' : State
    after' = defined_global n' x' s'

    unit_asked : (j : Name) → same_meaning (means after' (named_as r j)) (Global s'.unit (erase n'.name)) ≡ same_meaning (means after j) (Global s.unit (erase n.name))
    unit_asked j = (let a = means_now after after' global_step j in let b = global_same in λ k. same_meaning (a k) (b k)) ∙ same_moved r o (means after j) (Global s.unit (erase n.name))

    abbrev unit_refused : Bool
    unit_refused = any (refused_in_unit after (Global s.unit (erase n.name)) (is_some x)) p.notes

    unit_refused_same : any (refused_in_unit after' (Global s'.unit (erase n'.name)) (is_some x')) (pending_two p).notes ≡ unit_refused
    unit_refused_same =
        ap (λ b. any (refused_in_unit after' (Global s'.unit (erase n'.name)) b) (pending_two p).notes) new_same
        ∙ any_moved (named_as r) (is_some x) (λ j. same_meaning (means after j) (Global s.unit (erase n.name))) (λ j. same_meaning (means after' j) (Global s'.unit (erase n'.name))) unit_asked (means after) (means after')
        (λ i j. same_means after after' global_step (λ k. k) (λ k. k) (λ k. refl) i j) p.notes

    twice_same : is_some (defined_in s'.table s'.unit (erase n'.name)) ≡ is_some (defined_in s.table s.unit (erase n.name))
    twice_same =
        ap is_some (ap (λ w. defined_in s'.table w (erase n'.name)) l.unit ∙ found_moved r s.table s'.table s.entry s'.entry l.table l.entry s.unit n.name) ∙ some_kept (defined_as r) (defined_in s.table s.unit (erase n.name))

    unit_case : (refused again : Bool) → Defines s s'
        (cond refused (Err (KeywordRedefined (named (erase n.name) n.occ)), s) (cond again (Err (Duplicate (named (erase n.name) n.occ)), s) (Ok (unchanged p), after)))
        (cond refused (Err (KeywordRedefined (named (erase n'.name) n'.occ)), s') (cond again (Err (Duplicate (named (erase n'.name) n'.occ)), s') (Ok (unchanged (pending_two p)), after')))
    unit_case true again = (ap (λ i. KeywordRedefined (named i (place r n.occ))) (erase_moved r n.name), l, still s s')
    unit_case false true = (ap (λ i. Duplicate (named i (place r n.occ))) (erase_moved r n.name), l, still s s')
    unit_case false false = (record { pending = refl; rename = λ i. refl }, global_step, global_grows)

    in_unit_goes : Defines s s' (define_in_unit n x p s) (define_in_unit n' x' (pending_two p) s')
    in_unit_goes =
        subst (λ (t : Bool × Bool). Defines s s' (define_in_unit n x p s) (cond t.0 (Err (KeywordRedefined (named (erase n'.name) n'.occ)), s') (cond t.1 (Err (Duplicate (named (erase n'.name) n'.occ)), s') (Ok (unchanged (pending_two p)), after'))))
        (sym (let a = unit_refused_same in let b = twice_same in λ j. (a j, b j))) (unit_case unit_refused (is_some (defined_in s.table s.unit (erase n.name))))

    pub define_goes : Defines s s' (define n x p s) (define n' x' (pending_two p) s')
    define_goes = subst (λ b. Defines s s' (define n x p s) (cond b (define_in_body n' x' (pending_two p) s') (define_in_unit n' x' (pending_two p) s'))) (sym l.in_body) (go s.in_body)
      where
        go : (b : Bool) → Defines s s' (cond b (define_in_body n x p s) (define_in_unit n x p s)) (cond b (define_in_body n' x' (pending_two p) s') (define_in_unit n' x' (pending_two p) s'))
        go true = in_body_goes
        go false = in_unit_goes

  -- ---- the operations

  pub bound_now : (s s' : State) → Moved s s' → (model known).next_bound tt s' ≡ bound r ((model known).next_bound tt s)
  bound_now s s' l =
      (let a = l.in_body in let b = number_now s s' l s.locals s'.locals l.locals in let c = l.unit in let d = last in λ j. cond (a j) (LocalNumber (b j)) (Definition (c j) (d j)))
      ∙ go s.in_body
    where
      last : definition_count s'.table s'.unit ≡ r.definition s.unit (definition_count s.table s.unit)
      last =
          let a = definition_count s.table s.unit in let a' = definition_count s'.table s'.unit in
          let e : a' ≡ a' + 0 = omega arith in let f : a + 0 ≡ a = omega arith in e ∙ l.counts 0 ∙ ap (r.definition s.unit) f

      go : (b : Bool) → cond b (LocalNumber (number r (number_at s s.locals))) (Definition (r.unit s.unit) (r.definition s.unit (definition_count s.table s.unit))) ≡ bound r (cond b (LocalNumber (number_at s s.locals)) (Definition s.unit (definition_count s.table s.unit)))
      go true = refl
      go false = refl

  pub assigned_now : (s s' : State) → Moved s s' → (i : Name) → (model known).is_assigned tt s' (named_as r i) ≡ (model known).is_assigned tt s i
  assigned_now s s' l i =
      let a = l.program in let b = l.in_body in let c = plain_moved r i in
      let d = ap is_variable (ap (λ w. defined_in s'.table w (erase (named_as r i))) l.unit ∙ found_moved r s.table s'.table s.entry s'.entry l.table l.entry s.unit i) ∙ variable_moved r (defined_in s.table s.unit (erase i)) in
      λ j. a j && (not (b j) && (c j && d j))

  pub took : (s s' : State) → Moved s s' → Moved (record s { locals = at_form s.form suc s.locals }) (record s' { locals = at_form s'.form suc s'.locals })
  took s s' l = record { at = l.at; unit = l.unit; program = l.program; form = l.form; locals = tick s s' l s.locals s'.locals l.locals suc; uses = l.uses; nodes = l.nodes; bodies = l.bodies; keywords = l.keywords; met = l.met; table = l.table; counts = l.counts; entry = l.entry; macros = l.macros; in_body = l.in_body; mine = l.mine }

  abbrev pub model_sides : Sides
  model_sides = record {
    r = r;
    one_to_one = o;
    E = Unit {0};
    A = Name;
    L = Name;
    S = State;
    E' = Unit {0};
    A' = Name;
    L' = Name;
    S' = State;
    one = model known;
    two = model known;
    on = named_as r;
    look = named_as r;
    unit = u;
    around = λ e e'. Unit {0};
    state = Moved;
    same = name_moved r o;
    strip = strip_moved r;
    plain = erase_moved r;
    insert = λ i k. refl;
    place = λ e e' a i. refl;
    means = λ e e' a s s' l i. means_now s s' l i;
    transformer = λ s s' l m. to_transformer (rules_at s.macros m) (rules_at s'.macros (meaning r m)) (l.macros m);
    known = refl;
    ask = λ qs qs' a s s' l. l;
    is_assigned = λ e e' a s s' l i. assigned_now s s' l i;
    counted = counted_now;
    turn = λ f s s' l. record { at = l.at; unit = l.unit; program = l.program; form = ap (λ w. r.form w f) (sym l.at); locals = l.locals; uses = l.uses; nodes = l.nodes; bodies = l.bodies; keywords = l.keywords; met = l.met; table = l.table; counts = l.counts; entry = l.entry; macros = l.macros; in_body = refl; mine = l.mine };
    spend = λ n s s' l. record { at = l.at; unit = l.unit; program = l.program; form = l.form; locals = l.locals; uses = l.uses; nodes = tick s s' l s.nodes s'.nodes l.nodes (λ m. m + n); bodies = l.bodies; keywords = l.keywords; met = l.met; table = l.table; counts = l.counts; entry = l.entry; macros = l.macros; in_body = l.in_body; mine = l.mine };
    meet = λ t s s' l. record { at = l.at; unit = l.unit; program = l.program; form = l.form; locals = l.locals; uses = l.uses; nodes = l.nodes; bodies = l.bodies; keywords = at_forms_step r o s.unit (map (target r)) s.keywords s'.keywords l.keywords s.form s'.form l.form (λ ts. t ∷ ts) (λ ts. target r t ∷ ts) (λ ts. refl); met = l.met; table = l.table; counts = l.counts; entry = l.entry; macros = l.macros; in_body = l.in_body; mine = l.mine };
    meet_use = λ x s s' l. record { at = l.at; unit = l.unit; program = l.program; form = l.form; locals = l.locals; uses = l.uses; nodes = l.nodes; bodies = l.bodies; keywords = l.keywords; met = at_forms_step r o s.unit (map (macro_use_as r)) s.met s'.met l.met s.form s'.form l.form (λ us. x ∷ us) (λ us. macro_use_as r x ∷ us) (λ us. refl); table = l.table; counts = l.counts; entry = l.entry; macros = l.macros; in_body = l.in_body; mine = l.mine };
    next_use = λ s s' l. number_now s s' l s.uses s'.uses l.uses;
    begin_use = λ e e' a s s' l. record { at = l.at; unit = l.unit; program = l.program; form = l.form; locals = l.locals; uses = tick s s' l s.uses s'.uses l.uses suc; nodes = l.nodes; bodies = l.bodies; keywords = l.keywords; met = l.met; table = l.table; counts = l.counts; entry = l.entry; macros = l.macros; in_body = l.in_body; mine = l.mine };
    next_local = λ s s' l. number_now s s' l s.locals s'.locals l.locals;
    take_local = λ s s' l. took s s' l;
    next_bound = λ e e' a s s' l. bound_now s s' l;
    bind = λ i e e' a ts s s' l. regions tt (ap (λ v. map_trees (shallow (named_as r i) v) (move_trees mv ts)) (number_now s s' l s.locals s'.locals l.locals) ∙ trees_turned Name Name Name Name (place r) (named_as r) (named_as r) (shallow i (number_at s s.locals)) (shallow (named_as r i) (number r (number_at s s.locals))) (shallow_moved r o i (number_at s s.locals)) ts) (took s s' l);
    keep = λ v x e e' a s s' l. record { at = l.at; unit = l.unit; program = l.program; form = l.form; locals = l.locals; uses = l.uses; nodes = l.nodes; bodies = l.bodies; keywords = l.keywords; met = l.met; table = l.table; counts = l.counts; entry = l.entry; macros = added s.macros s'.macros l.macros (Local v) (Local (number r v)) refl (Some x); in_body = l.in_body; mine = l.mine };
    enter = λ e e' a ts s s' l. regions tt (ap (λ v. map_trees (Inner v) (move_trees mv ts)) (number_now s s' l s.bodies s'.bodies l.bodies) ∙ trees_turned Name Name Name Name (place r) (named_as r) (named_as r) (Inner (number_at s s.bodies)) (Inner (number r (number_at s s.bodies))) (λ i. refl) ts)
        (record { at = l.at; unit = l.unit; program = l.program; form = l.form; locals = l.locals; uses = l.uses; nodes = l.nodes; bodies = tick s s' l s.bodies s'.bodies l.bodies suc; keywords = l.keywords; met = l.met; table = l.table; counts = l.counts; entry = l.entry; macros = l.macros; in_body = refl; mine = refl });
    define = λ n x e e' a p s s' l. (let d = define_goes n x p s s' l in (d.0, d.1));
  }

  -- ---- and what is defined since these tables

  module _ (from from' : Table) where
    abbrev Since : State → State → Type 0
    Since s s' = Moved s s' × DefinedAlike r from from' s.table s'.table

    pub with_since : (x y : Region (Unit {0}) Name State) → Regions (λ (a b : Unit {0}). Unit {0}) mv Moved x y → DefinedAlike r from from' x.state.table y.state.table → Regions (λ (a b : Unit {0}). Unit {0}) mv Since x y
    with_since x y (regions k d m) g = regions k d (m, g)

    abbrev pub model_sides_since : Sides
    model_sides_since = record {
      r = r;
      one_to_one = o;
      E = Unit {0};
      A = Name;
      L = Name;
      S = State;
      E' = Unit {0};
      A' = Name;
      L' = Name;
      S' = State;
      one = model known;
      two = model known;
      on = named_as r;
      look = named_as r;
      unit = u;
      around = λ e e'. Unit {0};
      state = Since;
      same = name_moved r o;
      strip = strip_moved r;
      plain = erase_moved r;
      insert = λ i k. refl;
      place = λ e e' a i. refl;
      means = λ e e' a s s' l i. model_sides.means e e' a s s' l.0 i;
      transformer = λ s s' l m. model_sides.transformer s s' l.0 m;
      known = refl;
      ask = λ qs qs' a s s' l. l;
      is_assigned = λ e e' a s s' l i. model_sides.is_assigned e e' a s s' l.0 i;
      counted = λ s s' l. model_sides.counted s s' l.0;
      turn = λ f s s' l. (model_sides.turn f s s' l.0, l.1);
      spend = λ n s s' l. (model_sides.spend n s s' l.0, l.1);
      meet = λ t s s' l. (model_sides.meet t s s' l.0, l.1);
      meet_use = λ x s s' l. (model_sides.meet_use x s s' l.0, l.1);
      next_use = λ s s' l. model_sides.next_use s s' l.0;
      begin_use = λ e e' a s s' l. (model_sides.begin_use e e' a s s' l.0, l.1);
      next_local = λ s s' l. model_sides.next_local s s' l.0;
      take_local = λ s s' l. (model_sides.take_local s s' l.0, l.1);
      next_bound = λ e e' a s s' l. model_sides.next_bound e e' a s s' l.0;
      bind = λ i e e' a ts s s' l. with_since _ _ (model_sides.bind i e e' a ts s s' l.0) l.1;
      keep = λ v x e e' a s s' l. (model_sides.keep v x e e' a s s' l.0, l.1);
      enter = λ e e' a ts s s' l. with_since _ _ (model_sides.enter e e' a ts s s' l.0) l.1;
      define = λ n x e e' a p s s' l. (let d = define_goes n x p s s' l.0 in (d.0, (d.1, d.2 from from' l.1)));
    }
