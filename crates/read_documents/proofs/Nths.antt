-- The entries of a finite map by their places.
use Rattle.std.proofs.Common.{◌≡◌, ◌≤◌, ℕ, zero, suc, T, arith, slice_get, get_or, nat_lt, List, [], ◌∷◌, length, take, Option, Some, None, cond, Bool, true, false, ◌&&◌, refl, sym, ap, ◌∙◌, Ordering, Less, Equal, Greater}
use Rattle.std.specs.Option.{option_map}
use Rattle.std.proofs.lemmas.Option.{slice_get-map, slice_get_read}
use Rattle.std.proofs.lemmas.Bool.Decides.{nat_tests}
use Rattle.std.specs.Ordering.{nat_cmp, is_eq, is_lt, ordering_reverse}
use Rattle.std.specs.Cmp.{IsTotalOrder, tied_itself}
use Rattle.std.specs.Cmp.Lexicographic.{slice_cmp, nat_list_cmp_total}
use Rattle.std.specs.FinMap.{FinMap, entries, entries_sorted, keys, get, get-entries, insert, entries-insert, find, put, is_sorted}
use Rattle.std.specs.FinMap.Entries.{below_all, by_order}

first : (a b : Bool) → T (a && b) → T a
first true b p = tt
first false b p = p

second : (a b : Bool) → T (a && b) → T b
second true b p = p
second false b p = absurd p

less : (o : Ordering) → T (is_lt o) → o ≡ Less
less Less p = refl
less Equal p = absurd p
less Greater p = absurd p

module _ {K X : Type 0} (R : K → K → Ordering) (o : IsTotalOrder R) where
  -- a list above a key has no entry that isn't
  below_nth : (k : K) (es : List (K × X)) (n : ℕ) (e : K × X) → T (below_all R k es) → slice_get es n ≡ Some e → R k e.0 ≡ Less
  below_nth k [] n e h is = cc
  below_nth k (f ∷ es) zero e h is = let same : f ≡ e = cc in ap (λ x. R k x.0) (sym same) ∙ less _ (first _ _ h)
  below_nth k (f ∷ es) (suc n) e h is = below_nth k es n e (second _ _ h) is

  -- the entry at a place is found by its key
  find_nth : (es : List (K × X)) (n : ℕ) (e : K × X) → T (is_sorted R es) → slice_get es n ≡ Some e → find R e.0 es ≡ Some e.1
  find_nth [] n e h is = cc
  find_nth (f ∷ es) zero e h is =
      let same : f ≡ e = cc in
      ap (λ r. cond (is_eq r) (Some f.1) (find R e.0 es)) (ap (λ x. R e.0 x.0) same ∙ tied_itself o e.0) ∙ ap (λ x. Some x.1) same
  find_nth (f ∷ es) (suc n) e h is =
      let above : R f.0 e.0 ≡ Less = below_nth f.0 es n e (first _ _ h) is in
      ap (λ r. cond (is_eq r) (Some f.1) (find R e.0 es)) (o.antisymm e.0 f.0 ∙ ap ordering_reverse above) ∙ find_nth es n e (second _ _ h) is

  -- to put the entry at a place to those before it
  put_nth : (es : List (K × X)) (n : ℕ) (e : K × X) → T (is_sorted R es) → slice_get es n ≡ Some e → put R e.0 e.1 (take n es) ≡ take (suc n) es
  put_nth [] n e h is = cc
  put_nth (f ∷ es) zero e h is = let same : f ≡ e = cc in ap (λ x. x ∷ []) (sym same)
  put_nth (f ∷ es) (suc n) e h is =
      let above : R f.0 e.0 ≡ Less = below_nth f.0 es n e (first _ _ h) is in
      ap (λ r. by_order r ((e.0, e.1) ∷ f ∷ take n es) ((f.0, e.1) ∷ take n es) (f ∷ put R e.0 e.1 (take n es))) (o.antisymm e.0 f.0 ∙ ap ordering_reverse above)
      ∙ ap (λ xs. f ∷ xs) (put_nth es n e (second _ _ h) is)

-- the entry at a place, by its key and what the map has there
of_key : {K X : Type 0} (o : Option (K × X)) (k : K) → option_map (λ e. e.0) o ≡ Some k → (x : X) × (o ≡ Some (k, x))
of_key None k is = cc
of_key (Some e) k is = let same : e.0 ≡ k = cc in (e.1, ap (λ q. Some (q, e.1)) same)

module _ {X : Type 0} (m : FinMap (slice_cmp nat_cmp) X) (n : ℕ) where
  some_entry : (k : List ℕ) → slice_get (keys m) n ≡ Some k → (x : X) × (slice_get (entries m) n ≡ Some (k, x))
  some_entry k is = of_key (slice_get (entries m) n) k (sym (slice_get-map (λ e. e.0) (entries m) n) ∙ is)

  -- what the map has at a key that stands in it
  pub get_nth : (k : List ℕ) (x : X) → slice_get (entries m) n ≡ Some (k, x) → get m k ≡ Some x
  get_nth k x is = get-entries m k ∙ find_nth (slice_cmp nat_cmp) nat_list_cmp_total (entries m) n (k, x) (entries_sorted m) is

  pub nth_entry : (k : List ℕ) (x : X) → slice_get (keys m) n ≡ Some k → get m k ≡ Some x → slice_get (entries m) n ≡ Some (k, x)
  nth_entry k x is has =
      let e = some_entry k is in
      let same : Some e.0 ≡ Some x = sym (get_nth k e.0 e.1) ∙ has in
      e.1 ∙ ap (λ v. Some (k, v)) (let eq : e.0 ≡ x = cc in eq)

  pub nth_there : (k : List ℕ) → slice_get (keys m) n ≡ Some k → get m k ≡ None → ⊥
  nth_there k is gone = let e = some_entry k is in let has : get m k ≡ Some e.0 = get_nth k e.0 e.1 in cc

  pub nth_none : slice_get (keys m) n ≡ None → slice_get (entries m) n ≡ None
  nth_none is = elim (slice_get (entries m) n) as (λ q. option_map (λ (e : List ℕ × X). e.0) q ≡ None → q ≡ None) [ None ↦ λ _. refl | Some e ↦ λ h. cc ] (sym (slice_get-map (λ e. e.0) (entries m) n) ∙ is)

-- a map that has the first entries of another, and then one more
pub one_more : {X : Type 0} (m copy : FinMap (slice_cmp nat_cmp) X) (n : ℕ) (k : List ℕ) (x : X) → entries copy ≡ take n (entries m) → slice_get (entries m) n ≡ Some (k, x) → entries (insert copy k x) ≡ take (suc n) (entries m)
one_more m copy n k x front is =
    entries-insert nat_list_cmp_total copy k x ∙ ap (put (slice_cmp nat_cmp) k x) front
    ∙ put_nth (slice_cmp nat_cmp) nat_list_cmp_total (entries m) n (k, x) (entries_sorted m) is

take_past : {X : Type 0} (xs : List X) (n : ℕ) → slice_get xs n ≡ None → take n xs ≡ xs
take_past [] zero is = refl
take_past [] (suc n) is = refl
take_past (x ∷ xs) zero is = cc
take_past (x ∷ xs) (suc n) is = ap (λ ys. x ∷ ys) (take_past xs n is)

take_past_suc : {X : Type 0} (xs : List X) (n : ℕ) → slice_get xs n ≡ None → take (suc n) xs ≡ xs
take_past_suc [] n is = refl
take_past_suc (x ∷ xs) zero is = cc
take_past_suc (x ∷ xs) (suc n) is = ap (λ ys. x ∷ ys) (take_past_suc xs n is)

pub none_more : {X : Type 0} (xs ys : List X) (n : ℕ) → ys ≡ take n xs → slice_get xs n ≡ None → ys ≡ take (suc n) xs
none_more xs ys n front is = front ∙ take_past xs n is ∙ sym (take_past_suc xs n is)

pub take_all : {X : Type 0} (xs : List X) (n : ℕ) → length xs ≤ n → take n xs ≡ xs
take_all [] zero h = refl
take_all [] (suc n) h = refl
take_all (x ∷ xs) zero h = absurd (omega arith)
take_all (x ∷ xs) (suc n) h = let less : length xs ≤ n = omega arith in ap (λ ys. x ∷ ys) (take_all xs n less)

-- what `get` of a slice answers, as the entry at a place
pub get_none : {X : Type 0} (xs : List X) (i : ℕ) → nat_lt i (length xs) ≡ false → slice_get xs i ≡ None
get_none [] i h = refl
get_none (x ∷ xs) zero h = absurd (grind (arith, nat_tests))
get_none (x ∷ xs) (suc i) h = get_none xs i (grind (arith, nat_tests))

pub get_some : {X : Type 0} (xs : List X) (i : ℕ) (x : X) → nat_lt i (length xs) ≡ true → x ≡ get_or xs i x → slice_get xs i ≡ Some x
get_some xs i x h e = slice_get_read xs (length xs) i x refl (grind (arith, nat_tests)) e
