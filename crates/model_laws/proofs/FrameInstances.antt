-- The law of one macro use: both sides choose the same rule, and build what is the same instance.
use Rattle.std.proofs.Common.{◌≡◌, ℕ, ◌+◌, ◌-◌, List, map, Bool, true, false, cond, Option, Some, None, Result, Ok, Err, refl, sym, ap, ◌∙◌, subst}
use Rattle.std.specs.Prelude.{nat_lt}
use Rattle.scheme_model.specs.Identifiers.{Number, Name, Inserted as InsertedName, same_name, strip}
use Rattle.scheme_model.specs.Ident.{Ident, Inserted, erase, same_ident, symbol_of}
use Rattle.scheme_model.specs.Trees.{Tree, Trees, Tail, map_tree, map_trees, map_tail}
use Rattle.scheme_model.specs.ExpansionFaults.{Named, named, named_map, Fault, fault_map, NoRule, UseBudget}
use Rattle.scheme_model.specs.Meaning.{same_meaning}
use Rattle.scheme_model.specs.Requirements.{Known}
use Rattle.scheme_model.specs.RulesShape.{Rules, rules_map, Names}
use Rattle.scheme_model.specs.Matching.{Value, One, Many, Values, no_values, value, Binding, Chosen, matcher, first_match}
use Rattle.scheme_model.specs.Building.{Built, build}
use Rattle.scheme_model.specs.Cores.{Target}
use Rattle.scheme_model.specs.Steps.{Step, ◌>>=◌, done, fails}
use Rattle.scheme_model.specs.Order.{Here, Instance, Transformer, given, used, use_of, max_uses, max_nodes}
use Rattle.scheme_model.specs.Substitution.{State, Clock, at_form, meaning, model}
use Rattle.scheme_model.specs.ScopedExpansion.{Frames, ScopedState, next_number, means_at, scoped}
use Rattle.scheme_model.specs.Renaming.{Renames, value_map, values_map, binding_map, chosen_map, built_map}
use Rattle.scheme_model.proofs.OpenBodies.{Entered}
use Rattle.model_laws.proofs.FrameEras.{Era, Before, Below, below_more}
use Rattle.scheme_model.proofs.RenamingLaws.{Reads, reads, Finds, finds, map_after}
use Rattle.scheme_model.proofs.RulesLaws.{role_of-map, dots_of-map}
use Rattle.scheme_model.proofs.MatchLaws.{first_match-map}
use Rattle.scheme_model.proofs.BuildLaws.{build-map}
use Rattle.scheme_model.proofs.ScopeLaws.{map_map}
use Rattle.model_laws.proofs.IdentKinds.{Kind, pointwise, mapped_same, faults_fused, trees_kind, tail_kind, rules_kind, instance_map, instance_kind}
use Rattle.scheme_model.proofs.Clocks.{leq_counted}
use Rattle.model_laws.proofs.FrameNames.{same_frame_image, strip_frame_image, erase_frame_image}
use Rattle.model_laws.proofs.FrameAsks.{BindersCounted}
use Rattle.model_laws.proofs.FrameStates.{names, view, made_later, FineState, Grows, grows_itself, Stands, names_mean, names_far, names_later, macros_later}
use Rattle.model_laws.proofs.FrameGrowth.{used_state, use_grows, use_fine, inserted_below, use_names}
use Rattle.model_laws.proofs.FrameLeaves.{TreesAll, TailAll, Holding, held, lift_trees, lift_tail, lifted_trees, lifted_tail, Held, held_made, made_held}
use Rattle.model_laws.proofs.FrameAgrees.{Agrees, agree, break, agrees_at, agrees_more, Keeps, keeps_itself, Seen}
use Rattle.model_laws.proofs.FrameHeads.{seen_transformer, TransformerFine}

-- ---- bindings and instances as kinds

mutual
  value_fused : {A B C : Type 0} (g : B → C) (f : A → B) (v : Value A) → value_map g (value_map f v) ≡ value_map (λ a. g (f a)) v
  value_fused g f (One t) = ap One (map_map g f t)
  value_fused g f (Many vs) = ap Many (values_fused g f vs)

  values_fused : {A B C : Type 0} (g : B → C) (f : A → B) (vs : Values A) → values_map g (values_map f vs) ≡ values_map (λ a. g (f a)) vs
  values_fused g f no_values = refl
  values_fused g f (value v vs) = let a = value_fused g f v in let b = values_fused g f vs in λ j. value (a j) (b j)

abbrev pub built_kind : Kind
built_kind = record { of = λ A. Built (Tree A); map = λ A B f b. built_map (map_tree f) b; fused = λ A B C g f b. ap (λ (t : Tree C). record { value = t; count = b.count }) (map_map g f b.value) }

abbrev identifiers : Names Ident
identifiers = record { same = same_ident; strip = symbol_of }

abbrev model_names : Names Name
model_names = record { same = same_name; strip = strip }

-- The rules hold PR, the form holds PF, and what comes of them R. K is what holds of states: of this one, and of what the use leaves.
module _ (w : Era) (known : Known) (s : ScopedState) (f : FineState w s) (in_body : Bool) (mine : List Number) (fs : Frames) (stands : Stands w s fs) (m : Transformer Frames Ident) (entered : Entered (Before w s.bodies) m.env) (binders : BindersCounted w s.locals m.env)
    (PR PF R : Ident → Type 0) (rules_below : (i : Ident) → PR i → Below w s.uses i) (form_below : (i : Ident) → PF i → Below w s.uses i) (keeps_form : (i : Ident) → PF i → R i) (inserts : (i : Ident) → PR i → R (Inserted i (next_number s s.uses)))
    (rules_held : Held rules_kind PR m.rules) (ts : Trees Ident) (tail : Tail Ident) (made : TreesAll PF ts) (made_end : TailAll PF tail)
    (K : ScopedState → Bool → List Number → Type 0) (k_here : K s in_body mine) (k_then : (y : Clock) → K (record (used_state w m.env s) { nodes = y }) in_body mine) where
  abbrev A : Type 0
  A = Holding PR

  abbrev B : Type 0
  B = Holding PF

  abbrev in_rules : A → Ident
  in_rules = held PR

  abbrev in_form : B → Ident
  in_form = held PF

  abbrev rules : Rules A
  rules = rules_held.made

  abbrev form : Trees B
  form = lift_trees PF ts made

  abbrev end : Tail B
  end = lift_tail PF tail made_end

  abbrev told : Names A
  told = record { same = λ p q. same_ident p.0 q.0; strip = λ p. symbol_of p.0 }

  -- after the use has begun
  abbrev then_ : ScopedState
  then_ = used_state w m.env s

  grows : Grows w s then_
  grows = use_grows w s f m.env

  fine_then : FineState w then_
  fine_then = use_fine w s f m.env entered binders

  abbrev rule_name : A → Name
  rule_name p = names then_ m.env p.0

  abbrev form_name : B → Name
  form_name p = names then_ fs p.0

  rule_same : (p : A) → rule_name p ≡ names s m.env p.0
  rule_same p = sym (names_far w s then_ f grows m.env entered p.0 (rules_below p.0 p.1))

  form_same : (p : B) → form_name p ≡ names s fs p.0
  form_same p = sym (names_later w s then_ f grows fs stands p.0 (form_below p.0 p.1))

  -- the model's rules and form
  rules_same : rules_map rule_name rules ≡ rules_map (names s m.env) m.rules
  rules_same =
      mapped_same rules_kind A Name rule_name (λ p. names s m.env p.0) rule_same rules
      ∙ sym (rules_kind.fused A Ident Name (names s m.env) in_rules rules)
      ∙ ap (rules_map (names s m.env)) rules_held.same

  form_trees : map_trees form_name form ≡ map_trees (names s fs) ts
  form_trees =
      mapped_same trees_kind B Name form_name (λ p. names s fs p.0) form_same form
      ∙ sym (trees_kind.fused B Ident Name (names s fs) in_form form)
      ∙ ap (map_trees (names s fs)) (lifted_trees PF ts made)

  form_tail : map_tail form_name end ≡ map_tail (names s fs) tail
  form_tail =
      mapped_same tail_kind B Name form_name (λ p. names s fs p.0) form_same end
      ∙ sym (tail_kind.fused B Ident Name (names s fs) in_form end)
      ∙ ap (map_tail (names s fs)) (lifted_tail PF tail made_end)

  -- ---- which rule matches

  abbrev means_same : A → B → Bool
  means_same p q = same_meaning (means_at s m.env p.0) (means_at s fs q.0)

  abbrev chosen_over : Option (Chosen A B)
  chosen_over = first_match (matcher told rules means_same) rules.rules form end

  abbrev scoped_means : Ident → Ident → Bool
  scoped_means l j = same_meaning (means_at s m.env l) (means_at s fs j)

  abbrev model_means : Name → Name → Bool
  model_means l j = same_meaning (meaning s.table s.entry l) (meaning s.table s.entry j)

  abbrev scoped_chosen : Option (Chosen Ident Ident)
  scoped_chosen = first_match (matcher identifiers m.rules scoped_means) m.rules.rules ts tail

  abbrev model_chosen : Option (Chosen Name Name)
  model_chosen = first_match (matcher model_names (rules_map (names s m.env) m.rules) model_means) (rules_map (names s m.env) m.rules).rules (map_trees (names s fs) ts) (map_tail (names s fs) tail)

  rules_told : Renames in_rules told identifiers
  rules_told = record { same = λ p q. refl; strip = λ p. refl }

  names_told : Renames rule_name told model_names
  names_told = record { same = λ p q. same_frame_image then_.places then_.definitions m.env p.0 q.0; strip = λ p. strip_frame_image then_.places then_.definitions m.env p.0 }

  scoped_found : Finds (chosen_map in_rules in_form) chosen_over scoped_chosen
  scoped_found =
      let r = rules_held.same in let t = lifted_trees PF ts made in let e = lifted_tail PF tail made_end in
      subst (Finds (chosen_map in_rules in_form) chosen_over) (λ j. first_match (matcher identifiers (r j) scoped_means) (r j).rules (t j) (e j))
      (first_match-map A B Ident Ident in_rules in_form (matcher told rules means_same) (matcher identifiers (rules_map in_rules rules) scoped_means)
      (record { role = role_of-map A Ident in_rules told identifiers rules_told rules; dots = dots_of-map A Ident in_rules told identifiers rules_told rules; means = λ p q. refl }) rules.rules form end)

  means_told : (p : A) (q : B) → model_means (rule_name p) (form_name q) ≡ means_same p q
  means_told p q =
      let a = ap (meaning s.table s.entry) (rule_same p) ∙ names_mean w s f m.env p.0 in
      let b = ap (meaning s.table s.entry) (form_same q) ∙ names_mean w s f fs q.0 in
      λ j. same_meaning (a j) (b j)

  model_found : Finds (chosen_map rule_name form_name) chosen_over model_chosen
  model_found =
      let r = rules_same in let t = form_trees in let e = form_tail in
      subst (Finds (chosen_map rule_name form_name) chosen_over) (λ j. first_match (matcher model_names (r j) model_means) (r j).rules (t j) (e j))
      (first_match-map A B Name Name rule_name form_name (matcher told rules means_same) (matcher model_names (rules_map rule_name rules) model_means)
      (record { role = role_of-map A Name rule_name told model_names names_told rules; dots = dots_of-map A Name rule_name told model_names names_told rules; means = means_told }) rules.rules form end)

  -- ---- the instance

  abbrev number : Number
  number = next_number s s.uses

  -- what was made once the use has begun
  abbrev Made_then : Type 0
  Made_then = Holding R

  abbrev kept : B → Made_then
  kept p = (p.0, keeps_form p.0 p.1)

  abbrev inserted : A → Made_then
  inserted p = (Inserted p.0 number, inserts p.0 p.1)

  inserted_name : (p : A) → InsertedName (rule_name p) number ≡ names then_ fs (Inserted p.0 number)
  inserted_name p = ap (λ (y : Name). InsertedName y number) (rule_same p) ∙ use_names w s f fs m.env stands p.0 (rules_below p.0 p.1)

  abbrev left : ℕ
  left = max_nodes - s.nodes s.form

  module _ (here : Here) (keyword : Target) where
    -- the instance and its use, in a state that keeps what was there once the use had begun
    abbrev Gives : ScopedState → Instance Ident → Instance Name → Type 0
    Gives t a b = Grows w then_ t × Held instance_kind R a × (b ≡ instance_map (names t fs) a)

    module _ (c : Chosen A B) where
      abbrev bindings : List (Binding A Made_then)
      bindings = map (binding_map (λ (p : A). p) kept) c.match.bindings

      bound_again : {C D : Type 0} (h : A → C) (g : Made_then → D) (g0 : B → D) → ((p : B) → g (kept p) ≡ g0 p) → (b : Binding A B) → binding_map h g (binding_map (λ (p : A). p) kept b) ≡ binding_map h g0 b
      bound_again {C} {D} h g g0 e b =
          let v = value_fused g kept b.value ∙ ap (λ (k : B → D). value_map k b.value) (λ j p. e p j) in
          λ j. record { variable = h b.variable; value = v j }

      scoped_built : Reads (held R) (built_kind.map Made_then Ident (held R)) (build told rules inserted c.rule.template bindings left) (build identifiers m.rules (λ i. Inserted i number) (map_tree in_rules c.rule.template) (map (binding_map in_rules in_form) c.match.bindings) left)
      scoped_built =
          let r = rules_held.same in
          let b = map_after (binding_map in_rules (held R)) (binding_map (λ (p : A). p) kept) (binding_map in_rules in_form) (bound_again in_rules (held R) in_form (λ p. refl)) c.match.bindings in
          subst (Reads (held R) (built_kind.map Made_then Ident (held R)) (build told rules inserted c.rule.template bindings left))
          (λ j. build identifiers (r j) (λ i. Inserted i number) (map_tree in_rules c.rule.template) (b j) left)
          (build-map A Made_then Ident Ident in_rules (held R) Made_then Ident (held R) told identifiers rules_told rules inserted (λ i. Inserted i number) (λ p. refl) c.rule.template bindings left)

      model_built : Reads (λ (p : Made_then). names then_ fs p.0) (built_kind.map Made_then Name (λ p. names then_ fs p.0)) (build told rules inserted c.rule.template bindings left) (build model_names (rules_map (names s m.env) m.rules) (λ i. InsertedName i number) (map_tree rule_name c.rule.template) (map (binding_map rule_name form_name) c.match.bindings) left)
      model_built =
          let r = rules_same in
          let b = map_after (binding_map rule_name (λ (p : Made_then). names then_ fs p.0)) (binding_map (λ (p : A). p) kept) (binding_map rule_name form_name) (bound_again rule_name (λ p. names then_ fs p.0) form_name (λ p. refl)) c.match.bindings in
          subst (Reads (λ (p : Made_then). names then_ fs p.0) (built_kind.map Made_then Name (λ p. names then_ fs p.0)) (build told rules inserted c.rule.template bindings left))
          (λ j. build model_names (r j) (λ i. InsertedName i number) (map_tree rule_name c.rule.template) (b j) left)
          (build-map A Made_then Name Name rule_name (λ p. names then_ fs p.0) Made_then Name (λ p. names then_ fs p.0) told model_names names_told rules inserted (λ i. InsertedName i number) inserted_name c.rule.template bindings left)

      -- the leaves that met a literal, over what holds R
      abbrev literals : List (Named Made_then)
      literals = map (named_map kept) c.match.met

      abbrev scoped_given : Built (Tree Ident) → Step ScopedState (Instance Ident)
      scoped_given b t = done (record { tree = b.value; met = record { keyword = keyword; literals = map (named_map in_form) c.match.met } }) ((scoped known).spend b.count t)

      abbrev model_given : Built (Tree Name) → Step State (Instance Name)
      model_given b t = done (record { tree = b.value; met = record { keyword = keyword; literals = map (named_map form_name) c.match.met } }) ((model known).spend b.count t)

      abbrev over : Result (Built (Tree Made_then)) (Fault Made_then) → Type 0
      over r0 = (r : Result (Built (Tree Ident)) (Fault Ident)) (r' : Result (Built (Tree Name)) (Fault Name)) → Reads (held R) (built_kind.map Made_then Ident (held R)) r0 r → Reads (λ (p : Made_then). names then_ fs p.0) (built_kind.map Made_then Name (λ p. names then_ fs p.0)) r0 r'
          → Agrees K Gives (given (λ i. i) here r then_ >>= scoped_given) (given erase here r' (view in_body mine then_) >>= model_given)

      build_cases : (r0 : Result (Built (Tree Made_then)) (Fault Made_then)) → over r0
      build_cases (Ok x) r r' (reads e) (reads d) =
          let a : Instance Ident = record { tree = map_tree (held R) x.value; met = record { keyword = keyword; literals = map (named_map in_form) c.match.met } } in
          let b : Instance Name = record { tree = map_tree (λ (p : Made_then). names then_ fs p.0) x.value; met = record { keyword = keyword; literals = map (named_map form_name) c.match.met } } in
          let ls = map_after (named_map (held R)) (named_map kept) (named_map in_form) (λ n. refl) c.match.met in
          let t = map_map (names then_ fs) (held R) x.value in
          let ms = map_after (named_map (names then_ fs)) (named_map in_form) (named_map form_name) (λ n. refl) c.match.met in
          agrees_at (ap (λ z. given (λ i. i) here z then_ >>= scoped_given) e) (ap (λ z. given erase here z (view in_body mine then_) >>= model_given) d)
          (agree a b (record then_ { nodes = at_form s.form (λ y. y + x.count) s.nodes }) in_body mine refl refl (k_then (at_form s.form (λ y. y + x.count) s.nodes)) (
            grows_itself w then_,
            record { made = record { tree = x.value; met = record { keyword = keyword; literals = literals } }; same = (λ j. record { tree = map_tree (held R) x.value; met = record { keyword = keyword; literals = ls j } }) },
            sym (λ j. record { tree = t j; met = record { keyword = keyword; literals = ms j } }),
          ))
      build_cases (Err z) r r' (reads e) (reads d) =
          agrees_at (ap (λ z. given (λ i. i) here z then_ >>= scoped_given) e) (ap (λ z. given erase here z (view in_body mine then_) >>= model_given) d)
          (break (record { fault = fault_map (λ i. i) (fault_map (held R) z); here = here }) then_ in_body mine refl
          (ap (λ (y : Fault Ident). (Err (record { fault = y; here = here }), view in_body mine then_)) (fault_over z)) (k_then s.nodes))
        where
          fault_over : (y : Fault Made_then) → fault_map erase (fault_map (λ (p : Made_then). names then_ fs p.0) y) ≡ fault_map (λ i. i) (fault_map (held R) y)
          fault_over y =
              faults_fused Made_then Name Ident erase (λ p. names then_ fs p.0) y
              ∙ ap (λ (h : Made_then → Ident). fault_map h y) (pointwise (λ p. erase (names then_ fs p.0)) (held R) (λ p. erase_frame_image then_.places then_.definitions fs p.0))
              ∙ sym (faults_fused Made_then Ident Ident (λ i. i) (held R) y)

      instance_law : Agrees K Gives (used (scoped known) here keyword m number (Some (chosen_map in_rules in_form c)) then_) (used (model known) here keyword (seen_transformer s.places s.definitions m) number (Some (chosen_map rule_name form_name c)) (view in_body mine then_))
      instance_law = build_cases (build told rules inserted c.rule.template bindings left) _ _ scoped_built model_built

    by_choice : (o : Option (Chosen A B)) (oc : Option (Chosen Ident Ident)) (om : Option (Chosen Name Name)) → Finds (chosen_map in_rules in_form) o oc → Finds (chosen_map rule_name form_name) o om
        → Agrees K Gives (used (scoped known) here keyword m number oc then_) (used (model known) here keyword (seen_transformer s.places s.definitions m) number om (view in_body mine then_))
    by_choice None oc om (finds e) (finds d) = agrees_at (ap (λ o. used (scoped known) here keyword m number o then_) e) (ap (λ o. used (model known) here keyword (seen_transformer s.places s.definitions m) number o (view in_body mine then_)) d) (break (record { fault = NoRule (named keyword.ident keyword.occ); here = here }) then_ in_body mine refl refl (k_then s.nodes))
    by_choice (Some c) oc om (finds e) (finds d) = agrees_at (ap (λ o. used (scoped known) here keyword m number o then_) e) (ap (λ o. used (model known) here keyword (seen_transformer s.places s.definitions m) number o (view in_body mine then_)) d) (instance_law c)

    begun : (model known).begin_use tt (view in_body mine s) ≡ view in_body mine then_
    begun = ap (λ ms. record (view in_body mine then_) { macros = ms }) (macros_later w s then_ f grows s.macros f.1.macros)

    pub held_use_law : Agrees K Gives (use_of (scoped known) here fs keyword m ts tail s) (use_of (model known) here tt keyword (seen_transformer s.places s.definitions m) (map_trees (names s fs) ts) (map_tail (names s fs) tail) (view in_body mine s))
    held_use_law = go (nat_lt (s.uses s.form) max_uses)
      where
        go : (t : Bool) → Agrees K Gives (cond t (used (scoped known) here keyword m number scoped_chosen then_) (fails here UseBudget s))
            (cond t (used (model known) here keyword (seen_transformer s.places s.definitions m) number model_chosen ((model known).begin_use tt (view in_body mine s))) (fails here UseBudget (view in_body mine s)))
        go true =
            (agrees_at refl (ap (used (model known) here keyword (seen_transformer s.places s.definitions m) number model_chosen) begun) (by_choice chosen_over scoped_chosen model_chosen scoped_found model_found))
        go false = break (record { fault = UseBudget; here = here }) s in_body mine refl refl k_here

-- where the rules and the form were made by then
module _ (w : Era) (known : Known) (s : ScopedState) (f : FineState w s) (in_body : Bool) (mine : List Number) (fs : Frames) (stands : Stands w s fs) (m : Transformer Frames Ident) (fine : TransformerFine w s m) (ts : Trees Ident) (tail : Tail Ident) (made : TreesAll (Below w s.uses) ts) (made_end : TailAll (Below w s.uses) tail) (here : Here) (keyword : Target) where
  abbrev After : ScopedState → Instance Ident → Instance Name → Type 0
  After t a b = Grows w (used_state w m.env s) t × Held instance_kind (Below w (used_state w m.env s).uses) a × (b ≡ instance_map (names t fs) a)

  pub use_law : Agrees (Keeps w s) (Seen w instance_kind fs) (use_of (scoped known) here fs keyword m ts tail s) (use_of (model known) here tt keyword (seen_transformer s.places s.definitions m) (map_trees (names s fs) ts) (map_tail (names s fs) tail) (view in_body mine s))
  use_law =
      agrees_more {K = Keeps w s} {L = Keeps w s} {R = After} {Q = Seen w instance_kind fs} (λ t i n k. k)
      (λ t a b q. (made_later instance_kind w (used_state w m.env s).uses t.uses q.0.uses a (held_made instance_kind w (used_state w m.env s).uses a q.1), q.2))
      (held_use_law w known s f in_body mine fs stands m fine.entered fine.binders (Below w s.uses) (Below w s.uses) (Below w (used_state w m.env s).uses) (λ i l. l) (λ i l. l)
      (λ i l. below_more w s.uses (used_state w m.env s).uses (leq_counted s.form s.uses) i l) (inserted_below w s f) (made_held rules_kind w s.uses m.rules fine.rules) ts tail made made_end
      (Keeps w s) (keeps_itself w s f in_body mine) (λ y. (use_fine w s f m.env fine.entered fine.binders, use_grows w s f m.env)) here keyword)
