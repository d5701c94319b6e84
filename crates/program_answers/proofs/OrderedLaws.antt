-- Lists in order, each item once: what `ordered_by` gives is decided by the members alone.
use Rattle.std.proofs.Common.{◌≡◌, ◌⊎◌, inl, inr, ◌↔◌, List, [], ◌∷◌, map, Bool, true, false, refl, sym, ap, ◌∙◌, subst, Contains}
use Rattle.std.specs.Prelude.{if◌then◌else◌}
use Rattle.std.specs.Cmp.{IsTotalOrder, tied_itself}
use Rattle.std.specs.List.{AllByRecursion}
use Rattle.std.specs.List.Sorted.{IsStrictlySortedBy}
use Rattle.std.specs.Ordering.{ordering_reverse, is_lt}
use Rattle.std.specs.declared.cmp.Ordering.{Ordering}
use Rattle.std.specs.declared.cmp.Ordering.TheVariants.{Less, Equal, Greater}
use Rattle.program_leaves.specs.Members.{IsIn}
use Rattle.program_leaves.proofs.MemberLaws.{in_from, contains_from, in_map, from_map}
use Rattle.scheme_model.specs.Answers.{put_by, ordered_by}

-- a test that is a total order of which only equal items are equal
pub record IsOrder {A : Type 0} (cmp : A → A → Ordering) (before : A → A → Bool) : Type 0 where
  pub total : IsTotalOrder cmp
  pub one : (a b : A) → cmp a b ≡ Equal → a ≡ b
  pub is : (a b : A) → before a b ≡ is_lt (cmp a b)

less_from : (c : Ordering) → is_lt c ≡ true → c ≡ Less
less_from Less h = refl
less_from Equal h = absurd cc
less_from Greater h = absurd cc

equal_from : (c : Ordering) → is_lt c ≡ false → is_lt (ordering_reverse c) ≡ false → c ≡ Equal
equal_from Less h k = absurd cc
equal_from Equal h k = refl
equal_from Greater h k = absurd cc

-- each stands before all behind it
abbrev pub IsRising : {A : Type 0} → (A → A → Bool) → List A → Type 0
IsRising before [] = Unit {0}
IsRising {A = A} before (x ∷ xs) = ((y : A) → IsIn y xs → before x y ≡ true) × IsRising before xs

module _ {A : Type 0} (cmp : A → A → Ordering) (before : A → A → Bool) (o : IsOrder cmp before) where
  not_itself : (a : A) → before a a ≡ false
  not_itself a = o.is a a ∙ ap is_lt (tied_itself o.total a)

  onwards : (a b c : A) → before a b ≡ true → before b c ≡ true → before a c ≡ true
  onwards a b c h k =
      let f = less_from (cmp a b) (sym (o.is a b) ∙ h) in
      let g = less_from (cmp b c) (sym (o.is b c) ∙ k) in
      o.is a c ∙ ap is_lt (o.total.trans a b c f g)

  same : (a b : A) → before a b ≡ false → before b a ≡ false → a ≡ b
  same a b h k = o.one a b (equal_from (cmp a b) (sym (o.is a b) ∙ h) (ap is_lt (sym (o.total.antisymm b a)) ∙ sym (o.is b a) ∙ k))

  pub from_put : (z x : A) (ys : List A) → IsIn z (put_by before x ys) → (x ≡ z) ⊎ IsIn z ys
  from_put z x [] (inl e) = inl e
  from_put z x [] (inr h) = absurd h
  from_put z x (y ∷ ys) h = by_test (from_put z x ys) (before x y) (before y x) h
    where
      behind : (x ≡ z) ⊎ IsIn z ys → (x ≡ z) ⊎ ((y ≡ z) ⊎ IsIn z ys)
      behind (inl e) = inl e
      behind (inr k) = inr (inr k)

      by_test : (IsIn z (put_by before x ys) → (x ≡ z) ⊎ IsIn z ys) → (a b : Bool) → IsIn z (if a then x ∷ y ∷ ys else if b then y ∷ put_by before x ys else y ∷ ys) → (x ≡ z) ⊎ ((y ≡ z) ⊎ IsIn z ys)
      by_test more true b k = k
      by_test more false true (inl e) = inr (inl e)
      by_test more false true (inr k) = behind (more k)
      by_test more false false k = inr k

  pub in_put : (z x : A) (ys : List A) → (x ≡ z) ⊎ IsIn z ys → IsIn z (put_by before x ys)
  in_put z x [] h = h
  in_put z x (y ∷ ys) h = by_test (in_put z x ys) (before x y) refl (before y x) refl h
    where
      by_test : ((x ≡ z) ⊎ IsIn z ys → IsIn z (put_by before x ys)) → (a : Bool) → before x y ≡ a → (b : Bool) → before y x ≡ b → (x ≡ z) ⊎ ((y ≡ z) ⊎ IsIn z ys) → IsIn z (if a then x ∷ y ∷ ys else if b then y ∷ put_by before x ys else y ∷ ys)
      by_test more true e b f k = k
      by_test more false e true f (inl k) = inr (more (inl k))
      by_test more false e true f (inr (inl k)) = inl k
      by_test more false e true f (inr (inr k)) = inr (more (inr k))
      by_test more false e false f (inl k) = inl (sym (same x y e f) ∙ k)
      by_test more false e false f (inr k) = k

  rising_put : (x : A) (ys : List A) → IsRising before ys → IsRising before (put_by before x ys)
  rising_put x [] h = (λ y k. absurd k, tt)
  rising_put x (y ∷ ys) h = by_test (rising_put x ys h.1) (before x y) refl (before y x) refl
    where
      first : before x y ≡ true → (z : A) → (y ≡ z) ⊎ IsIn z ys → before x z ≡ true
      first e z (inl k) = subst (λ (w : A). before x w ≡ true) k e
      first e z (inr k) = onwards x y z e (h.0 z k)

      next : before y x ≡ true → (z : A) → (x ≡ z) ⊎ IsIn z ys → before y z ≡ true
      next f z (inl k) = subst (λ (w : A). before y w ≡ true) k f
      next f z (inr k) = h.0 z k

      by_test : IsRising before (put_by before x ys) → (a : Bool) → before x y ≡ a → (b : Bool) → before y x ≡ b → IsRising before (if a then x ∷ y ∷ ys else if b then y ∷ put_by before x ys else y ∷ ys)
      by_test more true e b f = (first e, h)
      by_test more false e true f = (λ z k. next f z (from_put z x ys k), more)
      by_test more false e false f = h

  pub rising_ordered : (xs : List A) → IsRising before (ordered_by before xs)
  rising_ordered [] = tt
  rising_ordered (x ∷ xs) = rising_put x (ordered_by before xs) (rising_ordered xs)

  pub in_ordered : (z : A) (xs : List A) → IsIn z xs → IsIn z (ordered_by before xs)
  in_ordered z [] h = absurd h
  in_ordered z (x ∷ xs) (inl e) = in_put z x (ordered_by before xs) (inl e)
  in_ordered z (x ∷ xs) (inr h) = in_put z x (ordered_by before xs) (inr (in_ordered z xs h))

  pub from_ordered : (z : A) (xs : List A) → IsIn z (ordered_by before xs) → IsIn z xs
  from_ordered z [] h = absurd h
  from_ordered z (x ∷ xs) h = by_case (from_ordered z xs) (from_put z x (ordered_by before xs) h)
    where
      by_case : (IsIn z (ordered_by before xs) → IsIn z xs) → (x ≡ z) ⊎ IsIn z (ordered_by before xs) → (x ≡ z) ⊎ IsIn z xs
      by_case more (inl e) = inl e
      by_case more (inr k) = inr (more k)

  -- ---- rising lists with the same members are one

  pub one_list : (xs ys : List A) → IsRising before xs → IsRising before ys → ((z : A) → IsIn z xs → IsIn z ys) → ((z : A) → IsIn z ys → IsIn z xs) → xs ≡ ys
  one_list [] [] h k f g = refl
  one_list [] (y ∷ ys) h k f g = absurd (g y (inl refl))
  one_list (x ∷ xs) [] h k f g = absurd (f x (inl refl))
  one_list (x ∷ xs) (y ∷ ys) h k f g =
      let e = first (f x (inl refl)) (g y (inl refl)) in
      let rest = one_list xs ys h.1 k.1 (λ z i. there e z i (f z (inr i))) (λ z i. back e z i (g z (inr i))) in
      λ j. e j ∷ rest j
    where
      first : (y ≡ x) ⊎ IsIn x ys → (x ≡ y) ⊎ IsIn y xs → x ≡ y
      first (inl e) q = sym e
      first (inr i) (inl e) = e
      first (inr i) (inr j) =
          let round = onwards x y x (h.0 y j) (k.0 x i) in
          let never = not_itself x in
          absurd cc

      there : x ≡ y → (z : A) → IsIn z xs → (y ≡ z) ⊎ IsIn z ys → IsIn z ys
      there e z i (inr q) = q
      there e z i (inl q) =
          let here : before z z ≡ true = subst (λ (w : A). before w z ≡ true) (e ∙ q) (h.0 z i) in
          let never = not_itself z in
          absurd cc

      back : x ≡ y → (z : A) → IsIn z ys → (x ≡ z) ⊎ IsIn z xs → IsIn z xs
      back e z i (inr q) = q
      back e z i (inl q) =
          let here : before z z ≡ true = subst (λ (w : A). before w z ≡ true) (sym e ∙ q) (k.0 z i) in
          let never = not_itself z in
          absurd cc

  pub same_ordered : (xs ys : List A) → ((z : A) → IsIn z xs ↔ IsIn z ys) → ordered_by before xs ≡ ordered_by before ys
  same_ordered xs ys s =
      one_list (ordered_by before xs) (ordered_by before ys) (rising_ordered xs) (rising_ordered ys) (λ z h. in_ordered z ys ((s z).0 (from_ordered z xs h))) (λ z h. in_ordered z xs ((s z).1 (from_ordered z ys h)))

  -- ---- what is sorted strictly rises

  module _ {B : Type 0} (seen : B → A) where
    all_behind : (x : B) (xs : List B) → AllByRecursion (λ (y : B). cmp (seen x) (seen y) ≡ Less) xs → (z : A) → IsIn z (map seen xs) → before (seen x) z ≡ true
    all_behind x [] h z k = absurd k
    all_behind x (y ∷ ys) h z (inl e) = subst (λ (w : A). before (seen x) w ≡ true) e (o.is (seen x) (seen y) ∙ ap is_lt h.0)
    all_behind x (y ∷ ys) h z (inr k) = all_behind x ys h.1 z k

    pub rising_sorted : (xs : List B) → IsStrictlySortedBy (λ (a b : B). cmp (seen a) (seen b)) xs → IsRising before (map seen xs)
    unfolding IsStrictlySortedBy
    rising_sorted [] h = tt
    rising_sorted (x ∷ xs) h = (all_behind x xs h.0, rising_sorted xs h.1)

    -- what is sorted strictly with the members of others is these in order
    pub in_order : (sorted all : List B) → IsStrictlySortedBy (λ (a b : B). cmp (seen a) (seen b)) sorted × ((q : B) → Contains sorted q ↔ Contains all q) → map seen sorted ≡ ordered_by before (map seen all)
    in_order sorted all h =
        one_list (map seen sorted) (ordered_by before (map seen all)) (rising_sorted sorted h.0) (rising_ordered (map seen all)) (λ z k. in_ordered z (map seen all) (there z k)) (λ z k. back z (from_ordered z (map seen all) k))
      where
        there : (z : A) → IsIn z (map seen sorted) → IsIn z (map seen all)
        there z k =
            let r = from_map seen z sorted k in
            subst (λ (w : A). IsIn w (map seen all)) r.2 (in_map seen r.0 all (in_from r.0 all ((h.1 r.0).0 (contains_from r.0 sorted r.1))))

        back : (z : A) → IsIn z (map seen all) → IsIn z (map seen sorted)
        back z k =
            let r = from_map seen z all k in
            subst (λ (w : A). IsIn w (map seen sorted)) r.2 (in_map seen r.0 sorted (in_from r.0 sorted ((h.1 r.0).1 (contains_from r.0 all r.1))))
