-- The walk over a template, step by step.
use Rattle.std.proofs.Common.{◌≡◌, ℕ, suc, ◌+◌, ◌-◌, ◌<◌, ◌≤◌, List, Bool, true, false, Option, Some, None, refl, sym, ap, ◌∙◌, subst, arith}
use Rattle.std.specs.Prelude.{IsSome, Result, Ok, Err, IsErrAnd}
use Rattle.scheme_model.specs.declared.Occ.{Occ}
use Rattle.scheme_model.specs.Identifiers.{Number}
use Rattle.scheme_model.specs.Trees.{Tree, list, vector, Trees, no_trees, tree, Tail, proper, dotted}
use Rattle.scheme_model.specs.RulesShape.{is_dots, leading, nowhere}
use Rattle.scheme_model.specs.Matching.{Binding, ◌>>=◌, chosen, behind}
use Rattle.scheme_model.specs.Building.{Built, built, joined, alone, used_in, or_zero, places_of, first_place, later_places, at_places, repeated, list_built, is_escape, build_tree, build_parts, build_tail, build_escaped}
use Rattle.scheme_model.specs.Ident.{Ident as Identifier, same_ident}
use Rattle.scheme_model.proofs.BuildLaws.{escape_first}
use Rattle.syntax_tree.specs.declared.trees.Work.{Work}
use Rattle.syntax_tree.specs.declared.trees.table.Region.{Region}
use Rattle.rules_build.specs.declared.fault.BuildFault.{BuildFault}
use Rattle.rules_build.specs.declared.fault.BuildFault.TheVariants as fault
use Rattle.rules_build.specs.declared.plan.Plan.{Plan}
use Rattle.rules_build.specs.declared.values.Bound as code
use Rattle.rules_build.specs.Values.{AreBound}
use Rattle.rules_build.specs.Drafts.{spent, IsPlanOf, ArePlansOf}
use Rattle.rules_build.specs.Builds.{inserting, Fails, Plans, PlansAll}
use Rattle.rules_build.proofs.BuildLaws.{tree_used, nothing, after, after_nothing, after_more, joined_end}
use Rattle.rules_build.proofs.DraftLaws.{spent_on, spent_nothing, some_left, plans_none, plans_both}

abbrev Bindings : Type 0
Bindings = List (Binding Identifier Identifier)

-- ---- faults

pub fails_same : {X Y : Type 0} (s : Option X) (u : Option Y) (e : BuildFault) → (s ≡ None → u ≡ None) → Fails s e → Fails u e
fails_same s u fault.EllipsisLength f h = f h
fails_same s u fault.NodeBudget f h = h
fails_same s u fault.DepthBudget f h = h
fails_same s u fault.Full f h = h
fails_same s u fault.Memory f h = h

pub tree_handed_on : (work : Work) (region : Region) (k : Number) (old new : Option ℕ) (s : Option (Built (Tree Identifier))) (r : Result Plan BuildFault) (e : BuildFault) → IsErrAnd r (λ f. f ≡ e) → Fails s e → Plans work region k old new s r
tree_handed_on work region k old new s (Ok p) e h g = absurd h
tree_handed_on work region k old new s (Err f) e h g = subst (λ (x : BuildFault). Fails s x) (sym h) g

pub all_handed_on : (work : Work) (region : Region) (k : Number) (old new : Option ℕ) (ps qs : List Plan) (s : Option (Built (Trees Identifier))) (r : Result (Unit {0}) BuildFault) (e : BuildFault) → IsErrAnd r (λ f. f ≡ e) → Fails s e →
    PlansAll work region k old new ps qs s r
all_handed_on work region k old new ps qs s (Ok p) e h g = absurd h
all_handed_on work region k old new ps qs s (Err f) e h g = subst (λ (x : BuildFault). Fails s x) (sym h) g

none_then : {X Y : Type 0} (s : Option X) (f : X → Option Y) → s ≡ None → (s >>= f) ≡ None
none_then {X} {Y} s f e = ap (λ (x : Option X). x >>= f) e

-- ---- an escape

pub record Escape (ts : Trees Identifier) (dots : Identifier → Bool) : Type 0 where
  pub first : Tree Identifier
  pub inner : Tree Identifier
  pub parts : ts ≡ tree first (tree inner no_trees)
  pub front : is_dots dots first ≡ true

pub escape_there : (dots : Identifier → Bool) (ts : Trees Identifier) (tail : Tail Identifier) → is_escape dots ts tail ≡ true → Escape ts dots × (tail ≡ proper)
escape_there dots no_trees tail h = absurd cc
escape_there dots (tree t no_trees) tail h = absurd cc
escape_there dots (tree t (tree u no_trees)) proper h = (record { first = t; inner = u; parts = refl; front = sym (escape_first dots t u) ∙ h }, refl)
escape_there dots (tree t (tree u no_trees)) (dotted v) h = absurd cc
escape_there dots (tree t (tree u (tree v vs))) tail h = absurd cc

-- ---- parts in a row

module _ (work : Work) (region : Region) (k : Number) where
  -- more plans, after others
  pub both_plans : (old mid new : Option ℕ) (ps qs rs : List Plan) (a b : Built (Trees Identifier)) → mid ≡ spent old a.count → (IsSome mid → ArePlansOf work region k ps qs a) → new ≡ spent mid b.count → (IsSome new → ArePlansOf work region k qs rs b) →
      (new ≡ spent old (joined a b).count) × (IsSome new → ArePlansOf work region k ps rs (joined a b))
  both_plans old mid new ps qs rs a b e p f q = (
    f ∙ ap (λ (x : Option ℕ). spent x b.count) e ∙ spent_on old a.count b.count,
    λ s. plans_both work region k ps qs rs a b (p (some_left mid new b.count f s)) (q s),
  )

  module _ (dots : Identifier → Bool) (ts : Trees Identifier) (ms : Bindings) where
    -- the plans of the parts before a place
    pub record PartsUpTo (j : ℕ) (old new : Option ℕ) (ps qs : List Plan) : Type 0 where
      pub done : Built (Trees Identifier)
      pub rest : build_parts (inserting k) dots ts ms ≡ after done (build_parts (inserting k) dots (behind j ts) ms)
      pub room : new ≡ spent old done.count
      pub plans : IsSome new → ArePlansOf work region k ps qs done

    pub parts_start : (old : Option ℕ) (ps : List Plan) → PartsUpTo 0 old old ps ps
    parts_start old ps = record { done = nothing; rest = after_nothing (build_parts (inserting k) dots ts ms); room = spent_nothing old; plans = λ s. plans_none work region k ps }

    pub parts_dots : (j : ℕ) (t : Tree Identifier) (old new : Option ℕ) (ps qs : List Plan) → behind j ts ≡ tree t (behind (j + 1) ts) → is_dots dots t ≡ true → PartsUpTo j old new ps qs → PartsUpTo (j + 1) old new ps qs
    parts_dots j t old new ps qs e d u =
        let us = behind (j + 1) ts in
        let step : build_parts (inserting k) dots (behind j ts) ms ≡ build_parts (inserting k) dots us ms =
        ap (λ (x : Trees Identifier). build_parts (inserting k) dots x ms) e
        ∙ ap (λ (b : Bool). chosen b (λ x. build_parts (inserting k) dots us ms)
        (λ x. repeated (leading dots us) (λ cs. build_tree (inserting k) dots t cs) (used_in same_ident t ms) >>= λ a. build_parts (inserting k) dots us ms >>= λ b. Some (joined a b))) d in
        record { done = u.done; rest = u.rest ∙ ap (after u.done) step; room = u.room; plans = u.plans }

    part_step : (j : ℕ) (t : Tree Identifier) (o : Option (Built (Trees Identifier))) → behind j ts ≡ tree t (behind (j + 1) ts) → is_dots dots t ≡ false →
        repeated (leading dots (behind (j + 1) ts)) (build_tree (inserting k) dots t) (used_in same_ident t ms) ≡ o →
        build_parts (inserting k) dots (behind j ts) ms ≡ (o >>= λ a. after a (build_parts (inserting k) dots (behind (j + 1) ts) ms))
    part_step j t o e d f =
        let us = behind (j + 1) ts in
        ap (λ (x : Trees Identifier). build_parts (inserting k) dots x ms) e
        ∙ ap (λ (b : Bool). chosen b (λ x. build_parts (inserting k) dots us ms)
        (λ x. repeated (leading dots us) (λ cs. build_tree (inserting k) dots t cs) (used_in same_ident t ms) >>= λ a. build_parts (inserting k) dots us ms >>= λ b. Some (joined a b))) d
        ∙ ap (λ (x : Option (Built (Trees Identifier))). x >>= λ a. after a (build_parts (inserting k) dots us ms)) f

    pub parts_more : (j : ℕ) (t : Tree Identifier) (old mid new : Option ℕ) (ps qs rs : List Plan) (done : Unit {0}) → behind j ts ≡ tree t (behind (j + 1) ts) → is_dots dots t ≡ false → PartsUpTo j old mid ps qs →
        PlansAll work region k mid new qs rs (repeated (leading dots (behind (j + 1) ts)) (build_tree (inserting k) dots t) (used_in same_ident t ms)) (Ok done) → PartsUpTo (j + 1) old new ps rs
    parts_more j t old mid new ps qs rs done e d u h =
        let rest = build_parts (inserting k) dots (behind (j + 1) ts) ms in
        let more = both_plans old mid new ps qs rs u.done h.0 u.room u.plans h.2 h.3 in
        record { done = joined u.done h.0; rest = u.rest ∙ ap (after u.done) (part_step j t (Some h.0) e d h.1) ∙ after_more u.done h.0 rest; room = more.0; plans = more.1 }

    pub parts_fail : (j : ℕ) (t : Tree Identifier) (old new : Option ℕ) (ps qs : List Plan) (f : BuildFault) → behind j ts ≡ tree t (behind (j + 1) ts) → is_dots dots t ≡ false → PartsUpTo j old new ps qs →
        Fails (repeated (leading dots (behind (j + 1) ts)) (build_tree (inserting k) dots t) (used_in same_ident t ms)) f → Fails (build_parts (inserting k) dots ts ms) f
    parts_fail j t old new ps qs f e d u h =
        fails_same (repeated (leading dots (behind (j + 1) ts)) (build_tree (inserting k) dots t) (used_in same_ident t ms)) (build_parts (inserting k) dots ts ms) f (λ n. u.rest ∙ ap (after u.done) (part_step j t None e d n)) h

    pub parts_end : (j : ℕ) (old new : Option ℕ) (ps qs : List Plan) (done : Unit {0}) → behind j ts ≡ no_trees → PartsUpTo j old new ps qs → PlansAll work region k old new ps qs (build_parts (inserting k) dots ts ms) (Ok done)
    parts_end j old new ps qs done e u = (
      u.done,
      u.rest ∙ ap (λ (x : Trees Identifier). after u.done (build_parts (inserting k) dots x ms)) e ∙ ap Some (joined_end u.done),
      u.room,
      u.plans,
    )

  -- without an ellipsis a part is built once, of the bindings in force
  pub once : (dots : Identifier → Bool) (t : Tree Identifier) (ms : Bindings) (n : ℕ) → 0 ≡ n → repeated 0 (build_tree (inserting k) dots t) ms ≡ repeated n (build_tree (inserting k) dots t) (used_in same_ident t ms)
  once dots t ms n e =
      ap (λ (o : Option (Built (Tree Identifier))). o >>= λ b. Some (alone b)) (sym (tree_used (inserting k) dots t ms)) ∙ ap (λ (x : ℕ). repeated x (build_tree (inserting k) dots t) (used_in same_ident t ms)) e

  pub plans_same : (old new : Option ℕ) (ps qs : List Plan) (s u : Option (Built (Trees Identifier))) (r : Result (Unit {0}) BuildFault) → s ≡ u → PlansAll work region k old new ps qs s r → PlansAll work region k old new ps qs u r
  plans_same old new ps qs s u r e h = subst (λ (x : Option (Built (Trees Identifier))). PlansAll work region k old new ps qs x r) e h

  -- ---- the places of an ellipsis

  module _ (f : Bindings → Option (Built (Trees Identifier))) (n : ℕ) (ms : Bindings) where
    -- the plans at the places before one
    pub record PlacesUpTo (j : ℕ) (old new : Option ℕ) (ps qs : List Plan) (here : List code.Bound) : Type 0 where
      pub done : Built (Trees Identifier)
      pub later : Bindings
      pub rest : at_places f n ms ≡ after done (at_places f (n - j) later)
      pub are : AreBound work region here later
      pub room : new ≡ spent old done.count
      pub plans : IsSome new → ArePlansOf work region k ps qs done

    pub places_start : (old : Option ℕ) (ps : List Plan) (here : List code.Bound) → AreBound work region here ms → PlacesUpTo 0 old old ps ps here
    places_start old ps here are =
        let e : n ≡ n - 0 = omega arith in
        record { done = nothing; later = ms; rest = after_nothing (at_places f n ms) ∙ ap (λ (x : ℕ). after nothing (at_places f x ms)) e; are = are; room = spent_nothing old; plans = λ s. plans_none work region k ps }

    place_step : (j : ℕ) (later : Bindings) (o : Option (Built (Trees Identifier))) → j < n → f (first_place later) ≡ o → at_places f (n - j) later ≡ (o >>= λ a. after a (at_places f (n - (j + 1)) (later_places later)))
    place_step j later o l e =
        let s : n - j ≡ suc (n - (j + 1)) = omega arith in
        ap (λ (x : ℕ). at_places f x later) s ∙ ap (λ (x : Option (Built (Trees Identifier))). x >>= λ a. after a (at_places f (n - (j + 1)) (later_places later))) e

    pub places_more : (j : ℕ) (old mid new : Option ℕ) (ps qs rs : List Plan) (here next : List code.Bound) (done : Unit {0}) → j < n → (u : PlacesUpTo j old mid ps qs here) → AreBound work region next (later_places u.later) →
        PlansAll work region k mid new qs rs (f (first_place u.later)) (Ok done) → PlacesUpTo (j + 1) old new ps rs next
    places_more j old mid new ps qs rs here next done l u are h =
        let more = both_plans old mid new ps qs rs u.done h.0 u.room u.plans h.2 h.3 in
        record {
          done = joined u.done h.0;
          later = later_places u.later;
          rest = u.rest ∙ ap (after u.done) (place_step j u.later (Some h.0) l h.1) ∙ after_more u.done h.0 (at_places f (n - (j + 1)) (later_places u.later));
          are = are;
          room = more.0;
          plans = more.1;
        }

    pub places_fail : (j : ℕ) (old new : Option ℕ) (ps qs : List Plan) (here : List code.Bound) (e : BuildFault) → j < n → (u : PlacesUpTo j old new ps qs here) → Fails (f (first_place u.later)) e → Fails (at_places f n ms) e
    places_fail j old new ps qs here e l u h = fails_same (f (first_place u.later)) (at_places f n ms) e (λ x. u.rest ∙ ap (after u.done) (place_step j u.later None l x)) h

    pub places_end : (j : ℕ) (old new : Option ℕ) (ps qs : List Plan) (here : List code.Bound) (done : Unit {0}) → n ≤ j → PlacesUpTo j old new ps qs here → PlansAll work region k old new ps qs (at_places f n ms) (Ok done)
    places_end j old new ps qs here done l u =
        let e : n - j ≡ 0 = omega arith in
        (u.done, u.rest ∙ ap (λ (x : ℕ). after u.done (at_places f x u.later)) e ∙ ap Some (joined_end u.done), u.room, u.plans)

  -- an ellipsis that is left
  pub repeated_places : (times : ℕ) (g : Bindings → Option (Built (Tree Identifier))) (ms : Bindings) (places : Option (Option ℕ)) → (times ≡ 0 → ⊥) → places_of None ms ≡ places →
      repeated times g ms ≡ (places >>= λ p. at_places (repeated (times - 1) g) (or_zero p) ms)
  repeated_places times g ms places l e =
      let s : times ≡ suc (times - 1) = omega arith in
      ap (λ (x : ℕ). repeated x g ms) s ∙ ap (λ (x : Option (Option ℕ)). x >>= λ p. at_places (repeated (times - 1) g) (or_zero p) ms) e

  -- ---- a tree by its parts

  pub kept_one : (old new : Option ℕ) (ps qs : List Plan) (s : Option (Built (Tree Identifier))) (p : Plan) (done : Unit {0}) → Plans work region k old new s (Ok p) → ((b : Built (Tree Identifier)) → (IsSome new → IsPlanOf work region k p b) → IsSome new → ArePlansOf work region k ps qs (alone b)) →
      PlansAll work region k old new ps qs (s >>= λ b. Some (alone b)) (Ok done)
  kept_one old new ps qs s p done h g = (alone h.0, ap (λ (o : Option (Built (Tree Identifier))). o >>= λ b. Some (alone b)) h.1, h.2, g h.0 h.3)

  pub vector_fails : (dots : Identifier → Bool) (ts : Trees Identifier) (o : Option Occ) (ms : Bindings) (e : BuildFault) → Fails (build_parts (inserting k) dots ts ms) e → Fails (build_tree (inserting k) dots (vector ts o) ms) e
  vector_fails dots ts o ms e h =
      fails_same (build_parts (inserting k) dots ts ms) (build_tree (inserting k) dots (vector ts o) ms) e (λ n. none_then (build_parts (inserting k) dots ts ms) (λ ps. Some (built (vector ps.value None) (ps.count + 1))) n) h

  pub vector_planned : (dots : Identifier → Bool) (ts : Trees Identifier) (o : Option Occ) (ms : Bindings) (old mid new : Option ℕ) (ps qs : List Plan) (p : Plan) (done : Unit {0}) → PlansAll work region k old mid ps qs (build_parts (inserting k) dots ts ms) (Ok done) → new ≡ spent mid 1 →
      ((b : Built (Trees Identifier)) → ArePlansOf work region k ps qs b → IsPlanOf work region k p (built (vector b.value None) (b.count + 1))) → Plans work region k old new (build_tree (inserting k) dots (vector ts o) ms) (Ok p)
  vector_planned dots ts o ms old mid new ps qs p done h e g = (
    built (vector h.0.value None) (h.0.count + 1),
    ap (λ (x : Option (Built (Trees Identifier))). x >>= λ b. Some (built (vector b.value None) (b.count + 1))) h.1,
    e ∙ ap (λ (x : Option ℕ). spent x 1) h.2 ∙ spent_on old h.0.count 1,
    λ s. g h.0 (h.3 (some_left mid new 1 e s)),
  )

  module _ (dots : Identifier → Bool) (ts : Trees Identifier) (tail : Tail Identifier) (o : Option Occ) (ms : Bindings) (plain : is_escape dots ts tail ≡ false) where
    list_is : build_tree (inserting k) dots (list ts tail o) ms ≡ (build_parts (inserting k) dots ts ms >>= λ ps. build_tail (inserting k) dots tail ms >>= λ t. Some (list_built ps t))
    list_is =
        ap (λ (b : Bool). chosen b (λ u. build_escaped (inserting k) ts ms) (λ u. build_parts (inserting k) dots ts ms >>= λ ps. build_tail (inserting k) dots tail ms >>= λ t. Some (list_built ps t))) plain

    pub list_fails : (e : BuildFault) → Fails (build_parts (inserting k) dots ts ms) e → Fails (build_tree (inserting k) dots (list ts tail o) ms) e
    list_fails e h =
        fails_same (build_parts (inserting k) dots ts ms) (build_tree (inserting k) dots (list ts tail o) ms) e
        (λ n. list_is ∙ none_then (build_parts (inserting k) dots ts ms) (λ ps. build_tail (inserting k) dots tail ms >>= λ t. Some (list_built ps t)) n) h

    pub list_planned : (old mid new : Option ℕ) (ps qs : List Plan) (p : Plan) (done : Unit {0}) → tail ≡ proper → PlansAll work region k old mid ps qs (build_parts (inserting k) dots ts ms) (Ok done) → new ≡ spent mid 1 →
        ((b : Built (Trees Identifier)) → ArePlansOf work region k ps qs b → IsPlanOf work region k p (list_built b None)) → Plans work region k old new (build_tree (inserting k) dots (list ts tail o) ms) (Ok p)
    list_planned old mid new ps qs p done last h e g = (
      list_built h.0 None,
      list_is ∙ (λ j. h.1 j >>= λ b. build_tail (inserting k) dots (last j) ms >>= λ t. Some (list_built b t)),
      e ∙ ap (λ (x : Option ℕ). spent x 1) h.2 ∙ spent_on old h.0.count 1,
      λ s. g h.0 (h.3 (some_left mid new 1 e s)),
    )

    pub tail_fails : (t : Tree Identifier) (a : Built (Trees Identifier)) (e : BuildFault) → tail ≡ dotted t → build_parts (inserting k) dots ts ms ≡ Some a → Fails (build_tree (inserting k) dots t ms) e → Fails (build_tree (inserting k) dots (list ts tail o) ms) e
    tail_fails t a e last h g =
        fails_same (build_tree (inserting k) dots t ms) (build_tree (inserting k) dots (list ts tail o) ms) e
        (λ n. list_is ∙ (λ j. h j >>= λ b. build_tail (inserting k) dots (last j) ms >>= λ t. Some (list_built b t)) ∙ (λ j. (n j >>= λ b. Some (Some b)) >>= λ t. Some (list_built a t))) g

    pub tail_planned : (t : Tree Identifier) (a : Built (Trees Identifier)) (b : Built (Tree Identifier)) (old new : Option ℕ) (p : Plan) → tail ≡ dotted t → build_parts (inserting k) dots ts ms ≡ Some a → build_tree (inserting k) dots t ms ≡ Some b →
        Plans work region k old new (Some (list_built a (Some b))) (Ok p) → Plans work region k old new (build_tree (inserting k) dots (list ts tail o) ms) (Ok p)
    tail_planned t a b old new p last h g q =
        let whole : build_tree (inserting k) dots (list ts tail o) ms ≡ Some (list_built a (Some b)) =
        list_is ∙ (λ j. h j >>= λ b. build_tail (inserting k) dots (last j) ms >>= λ t. Some (list_built b t)) ∙ (λ j. (g j >>= λ b. Some (Some b)) >>= λ t. Some (list_built a t)) in
        subst (λ (x : Option (Built (Tree Identifier))). Plans work region k old new x (Ok p)) (sym whole) q

  pub escape_built : (dots : Identifier → Bool) (ts : Trees Identifier) (tail : Tail Identifier) (o : Option Occ) (ms : Bindings) (t u : Tree Identifier) → is_escape dots ts tail ≡ true → ts ≡ tree t (tree u no_trees) →
      build_tree (inserting k) nowhere u ms ≡ build_tree (inserting k) dots (list ts tail o) ms
  escape_built dots ts tail o ms t u h e =
      sym (ap (λ (b : Bool). chosen b (λ x. build_escaped (inserting k) ts ms) (λ x. build_parts (inserting k) dots ts ms >>= λ ps. build_tail (inserting k) dots tail ms >>= λ t. Some (list_built ps t))) h
      ∙ ap (λ (x : Trees Identifier). build_escaped (inserting k) x ms) e)
