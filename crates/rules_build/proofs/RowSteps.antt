-- The plans of the values of a variable, one after another.
use Rattle.std.proofs.Common.{◌≡◌, ℕ, zero, suc, ◌+◌, ◌<◌, ◌≤◌, List, [], ◌∷◌, length, drop, get_or, Bool, true, Option, Some, None, refl, sym, ap, ◌∙◌, subst, arith}
use Rattle.std.specs.Prelude.{IsSome, Ok, if◌then◌else◌}
use Rattle.scheme_model.specs.declared.Occ.{Occ}
use Rattle.scheme_model.specs.Identifiers.{Number}
use Rattle.scheme_model.specs.Trees.{Tree, name, Trees}
use Rattle.scheme_model.specs.Matching.{Value, Values, no_values, value, Binding, ◌>>=◌}
use Rattle.scheme_model.specs.Building.{Built, joined, alone, value_of, value_count, at_places, repeated, build_tree}
use Rattle.scheme_model.specs.Ident.{Ident as Identifier, same_ident}
use Rattle.syntax_tree.specs.declared.trees.Work.{Work}
use Rattle.syntax_tree.specs.declared.trees.table.Region.{Region}
use Rattle.syntax_tree.specs.declared.rules.Binding as code_binding
use Rattle.rules_build.specs.declared.plan.Plan.{Plan}
use Rattle.rules_build.specs.declared.values.Value as code_value
use Rattle.rules_build.specs.Values.{IsBoundTo, AreValuesOf, IsWorth, IsFound}
use Rattle.rules_build.specs.Drafts.{spent, IsPlanOf, ArePlansOf}
use Rattle.rules_build.specs.Builds.{inserting, one_row, Plans, PlansAll}
use Rattle.rules_build.proofs.BuildLaws.{nothing, after, after_nothing, after_more, joined_end}
use Rattle.rules_build.proofs.DraftLaws.{spent_nothing, plans_none}
use Rattle.rules_build.proofs.ValueLaws.{first_of_values, no_values_left, worth_found}
use Rattle.rules_build.proofs.WalkLaws.{both_plans, kept_one}

abbrev Bindings : Type 0
Bindings = List (Binding Identifier Identifier)

drop_more : {A : Type 0} (k : ℕ) (xs : List A) (d : A) → k < length xs → drop k xs ≡ get_or xs k d ∷ drop (k + 1) xs
drop_more {A} k [] d l = absurd (omega arith)
drop_more {A} zero (x ∷ xs) d l = refl
drop_more {A} (suc k) (x ∷ xs) d l =
    let e : suc k + 1 ≡ suc (k + 1) = omega arith in
    drop_more k xs d (omega arith) ∙ ap (λ (j : ℕ). get_or xs k d ∷ drop j (x ∷ xs)) (sym e)

drop_past : {A : Type 0} (k : ℕ) (xs : List A) → length xs ≤ k → drop k xs ≡ []
drop_past {A} zero [] l = refl
drop_past {A} (suc k) [] l = refl
drop_past {A} zero (x ∷ xs) l = absurd (omega arith)
drop_past {A} (suc k) (x ∷ xs) l = drop_past k xs (omega arith)

module _ (work : Work) (region : Region) (k : Number) (dots : Identifier → Bool) (i : Identifier) (o : Option Occ) (j : Identifier) where
  abbrev f : Bindings → Option (Built (Tree Identifier))
  f = build_tree (inserting k) dots (name i o)

  abbrev rows : Values Identifier → Option (Built (Trees Identifier))
  rows vs = at_places (repeated 0 f) (value_count vs) (one_row j vs)

  -- the plans of the values before a place
  pub record ValuesUpTo (vs : Values Identifier) (left : List code_binding.Binding) (old new : Option ℕ) (ps qs : List Plan) : Type 0 where
    pub done : Built (Trees Identifier)
    pub later : Values Identifier
    pub rest : at_places (repeated 0 (build_tree (inserting k) dots (name i o))) (value_count vs) (one_row j vs)
        ≡ after done (at_places (repeated 0 (build_tree (inserting k) dots (name i o))) (value_count later) (one_row j later))
    pub are : AreValuesOf work region left later
    pub room : new ≡ spent old done.count
    pub plans : IsSome new → ArePlansOf work region k ps qs done

  pub values_start : (vs : Values Identifier) (left : List code_binding.Binding) (old : Option ℕ) (ps : List Plan) → AreValuesOf work region left vs → ValuesUpTo vs left old old ps ps
  values_start vs left old ps are = record { done = nothing; later = vs; rest = after_nothing (rows vs); are = are; room = spent_nothing old; plans = λ s. plans_none work region k ps }

  row_step : (later : Values Identifier) (x : Value Identifier) (xs : Values Identifier) (s : Option (Built (Trees Identifier))) → later ≡ value x xs → repeated 0 f (record { variable = j; value = x } ∷ []) ≡ s → rows later ≡ (s >>= λ a. after a (rows xs))
  row_step later x xs s e h = ap rows e ∙ ap (λ (z : Option (Built (Trees Identifier))). z >>= λ a. after a (rows xs)) h

  pub values_more : same_ident j i ≡ true → (vs : Values Identifier) (n : ℕ) (list : List code_binding.Binding) (d : code_binding.Binding) (old mid new : Option ℕ) (ps qs rs : List Plan) (p : Plan) (w : code_value.Value) → n < length list →
      ValuesUpTo vs (drop n list) old mid ps qs → ((v : ℕ) (x : Value Identifier) → IsBoundTo work region (get_or list n d) v x → IsWorth work region w x) →
      ((ms : Bindings) → IsFound work region (Some w) (value_of same_ident ms i) → Plans work region k mid new (build_tree (inserting k) dots (name i o) ms) (Ok p)) →
      ((b : Built (Tree Identifier)) → (IsSome new → IsPlanOf work region k p b) → IsSome new → ArePlansOf work region k qs rs (alone b)) → ValuesUpTo vs (drop (n + 1) list) old new ps rs
  values_more same vs n list d old mid new ps qs rs p w l u worth plan keep =
      let q = first_of_values work region (get_or list n d) (drop (n + 1) list) u.later (subst (λ (xs : List code_binding.Binding). AreValuesOf work region xs u.later) (drop_more n list d l) u.are) in
      let here = record { variable = j; value = q.1 } ∷ [] in
      let found : value_of same_ident here i ≡ Some q.1 = ap (λ (b : Bool). if b then Some q.1 else None) same in
      let h = kept_one work region k mid new qs rs (f here) p tt (plan here (worth_found work region w (value_of same_ident here i) q.1 found (worth q.0 q.1 q.4))) keep in
      let more = both_plans work region k old mid new ps qs rs u.done h.0 u.room u.plans h.2 h.3 in
      record {
        done = joined u.done h.0;
        later = q.2;
        rest = u.rest ∙ ap (after u.done) (row_step u.later q.1 q.2 (Some h.0) q.3 h.1) ∙ after_more u.done h.0 (rows q.2);
        are = q.5;
        room = more.0;
        plans = more.1;
      }

  pub values_end : (vs : Values Identifier) (n : ℕ) (list : List code_binding.Binding) (old new : Option ℕ) (ps qs : List Plan) → length list ≤ n → ValuesUpTo vs (drop n list) old new ps qs →
      PlansAll work region k old new ps qs (repeated 1 (build_tree (inserting k) dots (name i o)) (one_row j vs)) (Ok tt)
  values_end vs n list old new ps qs l u =
      let none : u.later ≡ no_values = no_values_left work region u.later (subst (λ (xs : List code_binding.Binding). AreValuesOf work region xs u.later) (drop_past n list l) u.are) in
      (u.done, u.rest ∙ ap (λ (x : Values Identifier). after u.done (rows x)) none ∙ ap Some (joined_end u.done), u.room, u.plans)
