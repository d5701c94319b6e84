-- Whether an occurrence is among some in order, by a binary search.
use Rattle.std.proofs.Common.{◌≡◌, ◌⊎◌, inl, inr, ℕ, zero, suc, ◌<◌, ◌≤◌, List, [], ◌∷◌, length, get_or, Bool, true, false, Result, Ok, Err, refl, sym, ap, ◌∙◌, subst, arith}
use Rattle.std.specs.List.{AllByRecursion}
use Rattle.std.specs.List.Sorted.{IsStrictlySortedBy, IsNonDecreasingBy, IsBinarySearchResult, IsSearchInRange}
use Rattle.std.specs.Ordering.{is_eq, ordering_index}
use Rattle.std.specs.Result.{is_ok}
use Rattle.std.specs.declared.cmp.Ordering.{Ordering}
use Rattle.std.specs.declared.cmp.Ordering.TheVariants.{Less, Equal, Greater}
use Rattle.std.proofs.lemmas.Bool.{cases_order}
use Rattle.scheme_model.specs.declared.Occ.{Occ}
use Rattle.scheme_model.specs.Entries.{same_occ}
use Rattle.scheme_model.specs.Spelling.{is_member}
use Rattle.program_leaves.specs.Members.{IsIn}
use Rattle.program_leaves.specs.Placed.{occ_cmp}
use Rattle.arrow_index.proofs.ClassLaws.{itself, member_in, in_member}
use Rattle.program_leaves.proofs.KeyLaws.{one_occ, occs_equal}
use Rattle.program_leaves.proofs.Orders.{occ_total}

later : (x : Occ) (xs : List Occ) (j : ℕ) (d : Occ) → AllByRecursion (λ (y : Occ). occ_cmp x y ≡ Less) xs → j < length xs → occ_cmp x (get_or xs j d) ≡ Less
later x [] j d h lt = absurd (omega (arith, lt))
later x (y ∷ ys) zero d h lt = h.0
later x (y ∷ ys) (suc j) d h lt = later x ys j d h.1 (omega (arith, lt))

in_turn : (xs : List Occ) (i j : ℕ) (d : Occ) → IsStrictlySortedBy occ_cmp xs → i < j → j < length xs → occ_cmp (get_or xs i d) (get_or xs j d) ≡ Less
unfolding IsStrictlySortedBy
in_turn [] i j d h lt within = absurd (omega (arith, within))
in_turn (x ∷ xs) i zero d h lt within = absurd (omega (arith, lt))
in_turn (x ∷ xs) zero (suc j) d h lt within = later x xs j d h.0 (omega (arith, within))
in_turn (x ∷ xs) (suc i) (suc j) d h lt within = in_turn xs i j d h.1 (omega (arith, lt)) (omega (arith, within))

-- what comes before another compares no higher
no_higher : (x y o : Occ) → occ_cmp x y ≡ Less → ordering_index (occ_cmp x o) ≤ ordering_index (occ_cmp y o)
no_higher x y o h = by_order (occ_cmp y o) refl
  where
    none_above : (q : Ordering) → ordering_index q ≤ 2
    none_above Less = omega arith
    none_above Equal = omega arith
    none_above Greater = omega arith

    by_order : (q : Ordering) → occ_cmp y o ≡ q → ordering_index (occ_cmp x o) ≤ ordering_index q
    by_order Less e = let at : ordering_index (occ_cmp x o) ≡ 0 = ap ordering_index (occ_total.trans x y o h e) in omega (arith, at)
    by_order Equal e =
        let same : y ≡ o = one_occ y o (sym (occs_equal y o) ∙ ap is_eq e) in
        let at : ordering_index (occ_cmp x o) ≡ 0 = ap ordering_index (ap (occ_cmp x) (sym same) ∙ h) in
        omega (arith, at)
    by_order Greater e = none_above (occ_cmp x o)

below_or_same : (i j : ℕ) → i ≤ j → (i < j) ⊎ (i ≡ j)
below_or_same i j le = elim (cases_order i j) [ inl e ↦ inr e | inr other ↦ elim other [ inl l ↦ inl l | inr g ↦ absurd (omega (arith, le, g)) ] ]

rising : (xs : List Occ) (o : Occ) → IsStrictlySortedBy occ_cmp xs → IsNonDecreasingBy (λ (y : Occ). ordering_index (occ_cmp y o)) xs
rising xs o h i j d le lt = by_place (below_or_same i j le)
  where
    by_place : (i < j) ⊎ (i ≡ j) → ordering_index (occ_cmp (get_or xs i d) o) ≤ ordering_index (occ_cmp (get_or xs j d) o)
    by_place (inl l) = no_higher (get_or xs i d) (get_or xs j d) o (in_turn xs i j d h l lt)
    by_place (inr k) = let at : ordering_index (occ_cmp (get_or xs i d) o) ≡ ordering_index (occ_cmp (get_or xs j d) o) = ap (λ (n : ℕ). ordering_index (occ_cmp (get_or xs n d) o)) k in omega (arith, at)

-- ---- members by their places

at_place : (xs : List Occ) (k : ℕ) (d : Occ) → k < length xs → IsIn (get_or xs k d) xs
at_place [] k d lt = absurd (omega (arith, lt))
at_place (x ∷ xs) zero d lt = inl refl
at_place (x ∷ xs) (suc k) d lt = inr (at_place xs k d (omega (arith, lt)))

place_of : (xs : List Occ) (o : Occ) → IsIn o xs → (k : ℕ) × (k < length xs) × (get_or xs k o ≡ o)
place_of [] o h = absurd h
place_of (x ∷ xs) o (inl e) = (0, omega arith, e)
place_of (x ∷ xs) o (inr h) = let r = place_of xs o h in (suc r.0, omega (arith, r.1), r.2)

-- a place where all is equal
there : (xs : List Occ) (o : Occ) (i : ℕ) → i < length xs → ((d : Occ) → occ_cmp (get_or xs i d) o ≡ Equal) → is_member xs o ≡ true
there xs o i lt at =
    let same : get_or xs i o ≡ o = one_occ (get_or xs i o) o (sym (occs_equal (get_or xs i o) o) ∙ ap is_eq (at o)) in
    in_member o xs (subst (λ (y : Occ). IsIn y xs) same (at_place xs i o lt))

-- equal to none
not_there : (xs : List Occ) (o : Occ) → ((k : ℕ) → k < length xs → is_eq (occ_cmp (get_or xs k o) o) ≡ false) → is_member xs o ≡ false
not_there xs o none = by_test (is_member xs o) refl
  where
    by_test : (b : Bool) → is_member xs o ≡ b → b ≡ false
    by_test false e = refl
    by_test true e =
        let r = place_of xs o (member_in o xs e) in
        let equal : is_eq (occ_cmp (get_or xs r.0 o) o) ≡ true = occs_equal (get_or xs r.0 o) o ∙ ap (λ (y : Occ). same_occ y o) r.2 ∙ itself o in
        let unequal = none r.0 r.1 in
        absurd cc

below_or_from : (k i : ℕ) → (k < i) ⊎ (i ≤ k)
below_or_from k i = elim (cases_order k i) [ inl e ↦ inr (omega (arith, e)) | inr other ↦ elim other [ inl l ↦ inl l | inr g ↦ inr (omega (arith, g)) ] ]

pub search_law : (xs : List Occ) (o : Occ) (r : Result ℕ ℕ) → IsStrictlySortedBy occ_cmp xs → IsSearchInRange r (length xs) → IsBinarySearchResult (λ (y : Occ). occ_cmp y o) xs r → is_ok r ≡ is_member xs o
search_law xs o (Ok i) h lt at = sym (there xs o i lt at)
search_law xs o (Err i) h le at = sym (not_there xs o none)
  where
    none : (k : ℕ) → k < length xs → is_eq (occ_cmp (get_or xs k o) o) ≡ false
    none k within = by_place (below_or_from k i)
      where
        by_place : (k < i) ⊎ (i ≤ k) → is_eq (occ_cmp (get_or xs k o) o) ≡ false
        by_place (inl l) = ap is_eq ((at (rising xs o h)).0 k o (omega arith) l)
        by_place (inr g) = ap is_eq ((at (rising xs o h)).1 k o g within)
