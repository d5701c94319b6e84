-- The uses of a binder among pairs in order: what stands before, at and after the binder.
use Rattle.std.proofs.Common.{◌≡◌, ◌⊎◌, inl, inr, ℕ, zero, suc, ◌<◌, ◌≤◌, List, [], ◌∷◌, ◌++◌, length, take, get_or, filter, Bool, true, false, not, refl, sym, ap, ◌∙◌, subst, arith}
use Rattle.std.specs.Prelude.{if◌then◌else◌}
use Rattle.std.specs.List.{flat_map, AllByRecursion}
use Rattle.std.specs.List.Sorted.{IsStrictlySortedBy, IsPartitionedBy}
use Rattle.std.specs.Ordering.{ordering_then, ordering_reverse, is_lt, is_eq}
use Rattle.std.specs.declared.cmp.Ordering.{Ordering}
use Rattle.std.specs.declared.cmp.Ordering.TheVariants.{Less, Equal, Greater}
use Rattle.std.proofs.lemmas.Bool.{cases_order}
use Rattle.scheme_model.specs.declared.Occ.{Occ}
use Rattle.scheme_model.specs.Entries.{same_occ}
use Rattle.scheme_model.specs.ProgramArrows.{Arrow, uses_at}
use Rattle.program_leaves.specs.declared.pairs.Pair.{Pair}
use Rattle.program_leaves.specs.Members.{IsIn}
use Rattle.program_leaves.specs.Pairs.{as_arrow, pair_cmp, AreArrows, AreOccs}
use Rattle.program_leaves.specs.Placed.{occ_cmp}
use Rattle.arrow_index.specs.Binders.{targets_with}
use Rattle.program_leaves.proofs.MemberLaws.{in_from, contains_from, in_map, from_map, in_flat_map, from_flat_map}
use Rattle.program_leaves.proofs.KeyLaws.{one_occ, occs_equal}
use Rattle.arrow_index.proofs.BinderLaws.{in_filter, from_filter, if_there, if_from}
use Rattle.program_leaves.proofs.Orders.{occ_total}
use Rattle.arrow_index.proofs.ClassLaws.{itself}

-- ---- orders

pub first_less : (a b : Ordering) → ordering_then a b ≡ Less → (a ≡ Less) ⊎ (a ≡ Equal)
first_less Less b h = inl refl
first_less Equal b h = inr refl
first_less Greater b h = absurd cc

second_less : (a b : Ordering) → ordering_then a b ≡ Less → a ≡ Equal → b ≡ Less
second_less Less b h e = absurd cc
second_less Equal b h e = h
second_less Greater b h e = absurd cc

equal_from : (a : Ordering) → is_eq a ≡ true → a ≡ Equal
equal_from Less h = absurd cc
equal_from Equal h = refl
equal_from Greater h = absurd cc

less_from : (a : Ordering) → is_lt a ≡ true → a ≡ Less
less_from Less h = refl
less_from Equal h = absurd cc
less_from Greater h = absurd cc

same_equal : (o p : Occ) → same_occ o p ≡ true → occ_cmp o p ≡ Equal
same_equal o p h = equal_from (occ_cmp o p) (occs_equal o p ∙ h)

-- neither before nor after is the same
neither : (a b : Ordering) → a ≡ ordering_reverse b → is_lt a ≡ false → not (is_lt b) ≡ true → is_eq a ≡ true
neither a Less e h k = absurd cc
neither a Equal e h k = ap is_eq e
neither a Greater e h k = let l : is_lt a ≡ true = ap is_lt e in absurd cc

pub at_binder : (o p : Occ) → is_lt (occ_cmp o p) ≡ false → not (is_lt (occ_cmp p o)) ≡ true → same_occ o p ≡ true
at_binder o p h k = sym (occs_equal o p) ∙ neither (occ_cmp o p) (occ_cmp p o) (occ_total.antisymm o p) h k

pub before_not_same : (o p : Occ) → is_lt (occ_cmp o p) ≡ true → same_occ o p ≡ false
before_not_same o p h = sym (occs_equal o p) ∙ ap is_eq (less_from (occ_cmp o p) h)

after_not_same : (o p : Occ) → not (is_lt (occ_cmp p o)) ≡ false → same_occ o p ≡ false
after_not_same o p h = sym (occs_equal o p) ∙ ap is_eq (occ_total.antisymm o p ∙ ap ordering_reverse (less_from (occ_cmp p o) (is_true (is_lt (occ_cmp p o)) h)))
  where
    is_true : (b : Bool) → not b ≡ false → b ≡ true
    is_true true k = refl
    is_true false k = absurd cc

-- ---- what is in order, by an occurrence first

below_or_same : (i j : ℕ) → i ≤ j → (i < j) ⊎ (i ≡ j)
below_or_same i j le = elim (cases_order i j) [ inl e ↦ inr e | inr other ↦ elim other [ inl l ↦ inl l | inr g ↦ absurd (omega (arith, le, g)) ] ]

module _ {X : Type 0} (cmp : X → X → Ordering) where
  -- a member that comes later isn't before
  later : (x : X) (xs : List X) (j : ℕ) (d : X) → AllByRecursion (λ (y : X). cmp x y ≡ Less) xs → j < length xs → cmp x (get_or xs j d) ≡ Less
  later x [] j d h lt = absurd (omega (arith, lt))
  later x (y ∷ ys) zero d h lt = h.0
  later x (y ∷ ys) (suc j) d h lt = later x ys j d h.1 (omega (arith, lt))

  pub in_turn : (xs : List X) (i j : ℕ) (d : X) → IsStrictlySortedBy cmp xs → i < j → j < length xs → cmp (get_or xs i d) (get_or xs j d) ≡ Less
  unfolding IsStrictlySortedBy
  in_turn [] i j d h lt within = absurd (omega (arith, within))
  in_turn (x ∷ xs) i zero d h lt within = absurd (omega (arith, lt))
  in_turn (x ∷ xs) zero (suc j) d h lt within = later x xs j d h.0 (omega (arith, within))
  in_turn (x ∷ xs) (suc i) (suc j) d h lt within = in_turn xs i j d h.1 (omega (arith, lt)) (omega (arith, within))

  module _ (key : X → Occ) (key_first : (x y : X) → cmp x y ≡ Less → (occ_cmp (key x) (key y) ≡ Less) ⊎ (occ_cmp (key x) (key y) ≡ Equal)) where
    pub keys_in_turn : (xs : List X) (i j : ℕ) (d : X) → IsStrictlySortedBy cmp xs → i ≤ j → j < length xs → (occ_cmp (key (get_or xs i d)) (key (get_or xs j d)) ≡ Less) ⊎ (occ_cmp (key (get_or xs i d)) (key (get_or xs j d)) ≡ Equal)
    keys_in_turn xs i j d h le lt = elim (below_or_same i j le) [
      | inl l ↦ key_first (get_or xs i d) (get_or xs j d) (in_turn xs i j d h l lt)
      | inr e ↦ inr (ap (λ (n : ℕ). occ_cmp (key (get_or xs n d)) (key (get_or xs j d))) e ∙ same_equal (key (get_or xs j d)) (key (get_or xs j d)) (itself (key (get_or xs j d))))
    ]

    pub keys_before : (xs : List X) (b : Occ) → IsStrictlySortedBy cmp xs → IsPartitionedBy (λ (x : X). is_lt (occ_cmp (key x) b)) xs
    keys_before xs b h i j d le lt e = by_less (key (get_or xs i d)) (key (get_or xs j d)) (keys_in_turn xs i j d h le lt) e
      where
        by_less : (x y : Occ) → (occ_cmp x y ≡ Less) ⊎ (occ_cmp x y ≡ Equal) → is_lt (occ_cmp y b) ≡ true → is_lt (occ_cmp x b) ≡ true
        by_less x y (inl k) f = ap is_lt (occ_total.trans x y b k (less_from (occ_cmp y b) f))
        by_less x y (inr k) f = ap is_lt (occ_total.congr x y b k) ∙ f

-- ---- pairs in order

pair_first : (p q : Pair) → pair_cmp p q ≡ Less → (occ_cmp p.binder q.binder ≡ Less) ⊎ (occ_cmp p.binder q.binder ≡ Equal)
pair_first p q h = first_less (occ_cmp p.binder q.binder) (occ_cmp p.target q.target) h

pub before_parts : (ps : List Pair) (b : Occ) → IsStrictlySortedBy pair_cmp ps → IsPartitionedBy (λ (p : Pair). is_lt (occ_cmp p.binder b)) ps
before_parts ps b h = keys_before pair_cmp (λ (p : Pair). p.binder) pair_first ps b h

pub after_parts : (ps : List Pair) (b : Occ) → IsStrictlySortedBy pair_cmp ps → IsPartitionedBy (λ (p : Pair). not (is_lt (occ_cmp b p.binder))) ps
after_parts ps b h i j d le lt e = by_test (get_or ps i d).binder (get_or ps j d).binder (keys_in_turn pair_cmp (λ (p : Pair). p.binder) pair_first ps i j d h le lt) e (occ_cmp b (get_or ps i d).binder) refl
  where
    by_test : (x y : Occ) → (occ_cmp x y ≡ Less) ⊎ (occ_cmp x y ≡ Equal) → not (is_lt (occ_cmp b y)) ≡ true → (q : Ordering) → occ_cmp b x ≡ q → not (is_lt q) ≡ true
    by_test x y k f Equal g = refl
    by_test x y k f Greater g = refl
    by_test x y (inl k) f Less g = let z = occ_total.trans b x y g k in let w : not (is_lt (occ_cmp b y)) ≡ false = ap (λ (r : Ordering). not (is_lt r)) z in absurd cc
    by_test x y (inr k) f Less g =
        let turn : occ_cmp b y ≡ occ_cmp b x = occ_total.antisymm b y ∙ ap ordering_reverse (sym (occ_total.congr x y b k)) ∙ sym (occ_total.antisymm b x) in
        let w : not (is_lt (occ_cmp b y)) ≡ false = ap (λ (r : Ordering). not (is_lt r)) (turn ∙ g) in
        absurd cc

-- ---- what stands at the binder

no_target : (b : Occ) (p : Pair) → same_occ p.binder b ≡ false → targets_with b p ≡ []
no_target b p h = ap (λ (q : Bool). if q then p.target ∷ [] else []) h

pub one_target : (b : Occ) (p : Pair) → same_occ p.binder b ≡ true → targets_with b p ≡ p.target ∷ []
one_target b p h = ap (λ (q : Bool). if q then p.target ∷ [] else []) h

-- the first pairs, which all come before
pub none_before : (b : Occ) (ps : List Pair) (n : ℕ) → ((k : ℕ) (d : Pair) → k < n → k < length ps → is_lt (occ_cmp (get_or ps k d).binder b) ≡ true) → flat_map (targets_with b) (take n ps) ≡ []
none_before b [] zero h = refl
none_before b [] (suc n) h = refl
none_before b (p ∷ ps) zero h = refl
none_before b (p ∷ ps) (suc n) h =
    let first = no_target b p (before_not_same p.binder b (h zero p (omega arith) (omega arith))) in
    let rest = none_before b ps n (λ k d lt within. h (suc k) d (omega (arith, lt)) (omega (arith, within))) in
    λ j. first j ++ rest j

-- the last pairs, which all come after
pub none_after : (b : Occ) (ps : List Pair) (n : ℕ) → ((k : ℕ) (d : Pair) → n ≤ k → k < length ps → not (is_lt (occ_cmp b (get_or ps k d).binder)) ≡ false) → flat_map (targets_with b) ps ≡ flat_map (targets_with b) (take n ps)
none_after b [] zero h = refl
none_after b [] (suc n) h = refl
none_after b (p ∷ ps) zero h =
    let first = no_target b p (after_not_same p.binder b (h zero p (omega arith) (omega arith))) in
    let rest = none_after b ps zero (λ k d le within. h (suc k) d (omega arith) (omega (arith, within))) in
    λ j. first j ++ rest j
none_after b (p ∷ ps) (suc n) h = ap (λ (q : List Occ). targets_with b p ++ q) (none_after b ps n (λ k d le within. h (suc k) d (omega (arith, le)) (omega (arith, within))))

-- ---- they are in order, and exactly the uses

module _ (b : Occ) where
  all_later : (p : Pair) (ps : List Pair) → same_occ p.binder b ≡ true → AllByRecursion (λ (q : Pair). pair_cmp p q ≡ Less) ps → AllByRecursion (λ (t : Occ). occ_cmp p.target t ≡ Less) (flat_map (targets_with b) ps)
  all_later p [] e h = tt
  all_later p (q ∷ ps) e h = by_test (all_later p ps e h.1) (same_occ q.binder b) refl
    where
      by_test : AllByRecursion (λ (t : Occ). occ_cmp p.target t ≡ Less) (flat_map (targets_with b) ps) → (c : Bool) → same_occ q.binder b ≡ c → AllByRecursion (λ (t : Occ). occ_cmp p.target t ≡ Less) ((if c then q.target ∷ [] else []) ++ flat_map (targets_with b) ps)
      by_test rest false f = rest
      by_test rest true f =
          let same : p.binder ≡ q.binder = one_occ p.binder b e ∙ sym (one_occ q.binder b f) in
          let equal : occ_cmp p.binder q.binder ≡ Equal = ap (λ (x : Occ). occ_cmp x q.binder) same ∙ same_equal q.binder q.binder (ap (λ (x : Occ). same_occ q.binder x) (one_occ q.binder b f) ∙ f) in
          (second_less (occ_cmp p.binder q.binder) (occ_cmp p.target q.target) h.0 equal, rest)

  in_order : (ps : List Pair) → IsStrictlySortedBy pair_cmp ps → IsStrictlySortedBy occ_cmp (flat_map (targets_with b) ps)
  unfolding IsStrictlySortedBy
  in_order [] h = tt
  in_order (p ∷ ps) h = by_test (in_order ps h.1) (same_occ p.binder b) refl
    where
      by_test : IsStrictlySortedBy occ_cmp (flat_map (targets_with b) ps) → (c : Bool) → same_occ p.binder b ≡ c → IsStrictlySortedBy occ_cmp ((if c then p.target ∷ [] else []) ++ flat_map (targets_with b) ps)
      by_test rest false f = rest
      by_test rest true f = (all_later p ps f h.0, rest)

  uses_there : (ps : List Pair) (arrows : List Arrow) (o : Occ) → AreArrows ps arrows → IsIn o (flat_map (targets_with b) ps) → IsIn o (uses_at arrows b)
  uses_there ps arrows o h k =
      let a = from_flat_map (targets_with b) o ps k in
      let e = if_from (same_occ a.0.binder b) o a.0.target a.2 in
      let arrow : IsIn (as_arrow a.0) arrows = in_from (as_arrow a.0) arrows ((h.same a.0).0 (contains_from a.0 ps a.1)) in
      subst (λ (y : Occ). IsIn y (uses_at arrows b)) e.1 (in_map (λ (x : Arrow). x.target) (as_arrow a.0) (filter (λ (x : Arrow). same_occ x.binder b) arrows) (in_filter (λ (x : Arrow). same_occ x.binder b) (as_arrow a.0) arrows arrow e.0))

  uses_back : (ps : List Pair) (arrows : List Arrow) (o : Occ) → AreArrows ps arrows → IsIn o (uses_at arrows b) → IsIn o (flat_map (targets_with b) ps)
  uses_back ps arrows o h k =
      let m = from_map (λ (x : Arrow). x.target) o (filter (λ (x : Arrow). same_occ x.binder b) arrows) k in
      let f = from_filter (λ (x : Arrow). same_occ x.binder b) m.0 arrows m.1 in
      let pair : Pair = record { binder = m.0.binder; target = m.0.target } in
      let held : IsIn pair ps = in_from pair ps ((h.same pair).1 (contains_from m.0 arrows f.0)) in
      in_flat_map (targets_with b) pair o ps held (subst (λ (y : Occ). IsIn y (if same_occ m.0.binder b then m.0.target ∷ [] else [])) m.2 (if_there (same_occ m.0.binder b) m.0.target f.1))

  pub uses_law : (ps : List Pair) (arrows : List Arrow) (found : List Occ) → AreArrows ps arrows → found ≡ flat_map (targets_with b) ps → AreOccs found (uses_at arrows b)
  uses_law ps arrows found h e = record {
    sorted = subst (IsStrictlySortedBy occ_cmp) (sym e) (in_order ps h.sorted);
    same = λ o. (
      λ k. contains_from o (uses_at arrows b) (uses_there ps arrows o h (subst (IsIn o) e (in_from o found k))),
      λ k. contains_from o found (subst (IsIn o) (sym e) (uses_back ps arrows o h (in_from o (uses_at arrows b) k))),
    );
  }
