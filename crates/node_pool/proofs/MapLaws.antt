-- Slots as maps: what one change makes of them.
use Rattle.std.proofs.Common.{◌≡◌, ◌≢◌, ◌⊎◌, ℕ, zero, suc, ◌+◌, ◌^◌, ◌<◌, ◌≤◌, Bool, true, false, cond, List, [], ◌∷◌, ◌++◌, length, get_or, set, Option, Some, None, is_some, IsSome, count_by, refl, sym, ap, subst, ◌∙◌, inl, inr, arith, length-set}
use Rattle.std.specs.Option.{option_map}
use Rattle.std.specs.Ordering.{nat_cmp, eq_by_cmp}
use Rattle.std.specs.Cmp.{unsigned_tied, nat_cmp_total}
use Rattle.std.specs.FinMap as map
use Rattle.std.specs.FinMap.{get-insert, get-remove, get-from_entries, len-insert, same_map, nat_cmp-IsAntisymmetric}
use Rattle.std.proofs.lemmas.Bool.{cases_eq}
use Rattle.std.proofs.lemmas.Bool.Decides.{nat_tests}
use Rattle.std.proofs.lemmas.List.{get_or-set_same, get_or-set_other, get_or_past, get_or_push, length_push}
use Rattle.std.proofs.lemmas.List.Sums.{sum_by-cons, sum_by-set, sum_by_push}
use Rattle.node_pool.specs.SlotLists.{at, IsFilled}
use Rattle.node_pool.specs.Chains.{entries_from, map_of}

-- ---- numbers as keys

pub tied : (n : ℕ) → eq_by_cmp nat_cmp n n ≡ true
tied n = unsigned_tied n n ∙ grind (arith, nat_tests)

pub apart : (m n : ℕ) → m ≢ n → eq_by_cmp nat_cmp m n ≡ false
apart m n h = unsigned_tied m n ∙ grind (arith, nat_tests)

-- ---- slots of which one changes

module _ {A : Type 0} where
  pub record Changes (xs ys : List (Option A)) (n : ℕ) (v : Option A) : Type 0 where
    pub here : at ys n ≡ v
    pub others : (q : ℕ) → q ≢ n → at ys q ≡ at xs q

  pub set_changes : (xs : List (Option A)) (n : ℕ) (v : Option A) → n < length xs → Changes xs (set xs n v) n v
  set_changes xs n v within = record {
    here = get_or-set_same xs n v None within;
    others = λ q ne. get_or-set_other xs n q v None ne;
  }

  push_others : (xs : List (Option A)) (v : Option A) (q : ℕ) → q ≢ length xs → at (xs ++ v ∷ []) q ≡ at xs q
  push_others [] v zero ne = absurd (ne refl)
  push_others [] v (suc q) ne = refl
  push_others (x ∷ xs) v zero ne = refl
  push_others (x ∷ xs) v (suc q) ne = push_others xs v q (λ e. ne (ap suc e))

  pub push_changes : (xs : List (Option A)) (v : Option A) → Changes xs (xs ++ v ∷ []) (length xs) v
  push_changes xs v = record { here = get_or_push xs v None (length xs) refl; others = push_others xs v }

  -- a slot with a value is one of the list
  pub is_within : (xs : List (Option A)) (n : ℕ) (x : A) → at xs n ≡ Some x → n < length xs
  is_within [] n x h = absurd cc
  is_within (y ∷ xs) zero x h = omega arith
  is_within (y ∷ xs) (suc n) x h = let lt = is_within xs n x h in omega arith

  pub holds : (o : Option A) → IsSome o → (x : A) × (o ≡ Some x)
  holds None h = absurd cc
  holds (Some x) h = (x, refl)

  -- ---- how many hold a value

  pub count_more : (xs : List (Option A)) (n : ℕ) (x : A) → n < length xs → at xs n ≡ None → count_by is_some (set xs n (Some x)) ≡ count_by is_some xs + 1
  count_more xs n x within none =
      let e = sum_by-set (λ o. cond (is_some o) 1 0) xs n (Some x) None within in
      let z : ◌≡◌ {A = ℕ} (cond (is_some (get_or xs n None)) 1 0) 0 = ap (λ (o : Option A). cond (is_some o) 1 0) none in
      omega (arith, e, z)

  pub count_less : (xs : List (Option A)) (n : ℕ) (x : A) → at xs n ≡ Some x → count_by is_some (set xs n None) + 1 ≡ count_by is_some xs
  count_less xs n x some =
      let e = sum_by-set (λ o. cond (is_some o) 1 0) xs n None None (is_within xs n x some) in
      let z : ◌≡◌ {A = ℕ} (cond (is_some (get_or xs n None)) 1 0) 1 = ap (λ (o : Option A). cond (is_some o) 1 0) some in
      omega (arith, e, z)

  pub count_within : (xs : List (Option A)) → count_by is_some xs ≤ length xs
  count_within [] = omega arith
  count_within (None ∷ xs) = omega (arith, count_within xs, sum_by-cons (λ o. cond (is_some o) 1 0) None xs)
  count_within (Some x ∷ xs) = omega (arith, count_within xs, sum_by-cons (λ o. cond (is_some o) 1 0) (Some x) xs)

  pub count_pushed : (xs : List (Option A)) (x : A) → count_by is_some (xs ++ Some x ∷ []) ≡ count_by is_some xs + 1
  count_pushed xs x = sum_by_push (λ o. cond (is_some o) 1 0) xs (Some x)

  -- ---- a slot that was filled

  pub record Fills (xs ys : List (Option A)) (n : ℕ) (x : A) : Type 0 where
    pub free : at xs n ≡ None
    pub changes : Changes xs ys n (Some x)
    pub counts : count_by is_some ys ≡ count_by is_some xs + 1
    pub within : n < length ys
    pub few : length xs ≤ 2 ^ 31 → count_by is_some xs < 2 ^ 31 → length ys ≤ 2 ^ 31

  pub fills : (xs ys : List (Option A)) (n : ℕ) (x : A) → IsFilled xs ys n x → Fills xs ys n x
  fills xs ys n x (inl h) = subst (λ (l : List (Option A)). Fills xs l n x) (sym h.2) (record {
    free = h.1;
    changes = set_changes xs n (Some x) h.0;
    counts = count_more xs n x h.0 h.1;
    within = omega (arith, h.0, length-set xs n (Some x));
    few = λ a b. omega (arith, a, length-set xs n (Some x));
  })
  fills xs ys n x (inr h) =
      subst (λ (m : ℕ). Fills xs ys m x) (sym h.0) (subst (λ (l : List (Option A)). Fills xs l (length xs) x) (sym h.2) (record {
        free = get_or_past xs (length xs) None (omega arith);
        changes = push_changes xs (Some x);
        counts = count_pushed xs x;
        within = omega (arith, length_push xs (Some x));
        few = λ a b. omega (arith, a, b, h.1, length_push xs (Some x));
      }))

-- ---- the map

module _ {A B : Type 0} (f : A → B) where
  none_before : (i j : ℕ) (xs : List (Option A)) → i < j → map.find nat_cmp i (entries_from f j xs) ≡ None
  none_before i j [] lt = refl
  none_before i j (None ∷ xs) lt = none_before i (suc j) xs (omega (arith, lt))
  none_before i j (Some x ∷ xs) lt =
      ap (λ (b : Bool). cond b (Some (f x)) (map.find nat_cmp i (entries_from f (suc j) xs))) (apart i j (λ e. absurd (omega (arith, e, lt))))
      ∙ none_before i (suc j) xs (omega (arith, lt))

  find_at : (i n : ℕ) (xs : List (Option A)) → map.find nat_cmp (n + i) (entries_from f i xs) ≡ option_map f (at xs n)
  find_at i n [] = refl
  find_at i zero (None ∷ xs) =
      let same : zero + i ≡ i = omega arith in
      ap (λ (m : ℕ). map.find nat_cmp m (entries_from f (suc i) xs)) same ∙ none_before i (suc i) xs (omega arith)
  find_at i zero (Some x ∷ xs) =
      let same : zero + i ≡ i = omega arith in
      let here : eq_by_cmp nat_cmp (zero + i) i ≡ true = ap (λ (m : ℕ). eq_by_cmp nat_cmp m i) same ∙ tied i in
      ap (λ (b : Bool). cond b (Some (f x)) (map.find nat_cmp (zero + i) (entries_from f (suc i) xs))) here
  find_at i (suc n) (None ∷ xs) =
      let later : suc n + i ≡ n + suc i = omega arith in
      ap (λ (m : ℕ). map.find nat_cmp m (entries_from f (suc i) xs)) later ∙ find_at (suc i) n xs
  find_at i (suc n) (Some x ∷ xs) =
      let skip : eq_by_cmp nat_cmp (suc n + i) i ≡ false = apart (suc n + i) i (λ e. absurd (omega (arith, e))) in
      let later : suc n + i ≡ n + suc i = omega arith in
      ap (λ (b : Bool). cond b (Some (f x)) (map.find nat_cmp (suc n + i) (entries_from f (suc i) xs))) skip
      ∙ ap (λ (m : ℕ). map.find nat_cmp m (entries_from f (suc i) xs)) later ∙ find_at (suc i) n xs

  pub get_map : (xs : List (Option A)) (n : ℕ) → map.get (map_of f xs) n ≡ option_map f (at xs n)
  get_map xs n =
      let from : n + 0 ≡ n = omega arith in
      get-from_entries nat_cmp_total (entries_from f 0 xs) n ∙ ap (λ (m : ℕ). map.find nat_cmp m (entries_from f 0 xs)) (sym from) ∙ find_at 0 n xs

  -- something is at a number where its slot holds a value
  pub some_mapped : (xs : List (Option A)) (n : ℕ) → is_some (map.get (map_of f xs) n) ≡ is_some (at xs n)
  some_mapped xs n = ap (λ (o : Option B). is_some o) (get_map xs n) ∙ by_value (at xs n)
    where
      by_value : (o : Option A) → is_some (option_map f o) ≡ is_some o
      by_value None = refl
      by_value (Some x) = refl

  count_from : (i : ℕ) (xs : List (Option A)) → map.len (map.from_entries {R = nat_cmp} (entries_from f i xs)) ≡ count_by is_some xs
  count_from i [] = map.len-empty nat_cmp B
  count_from i (None ∷ xs) = omega (arith, count_from (suc i) xs, sum_by-cons (λ o. cond (is_some o) 1 0) None xs)
  count_from i (Some x ∷ xs) =
      let rest = map.from_entries {R = nat_cmp} (entries_from f (suc i) xs) in
      let new : map.get rest i ≡ None = get-from_entries nat_cmp_total (entries_from f (suc i) xs) i ∙ none_before i (suc i) xs (omega arith) in
      let more : map.len (map.insert rest i (f x)) ≡ map.len rest + 1 = len-insert nat_cmp_total rest i (f x) ∙ ap (λ (o : Option B). cond (is_some o) (map.len rest) (map.len rest + 1)) new in
      omega (arith, more, count_from (suc i) xs, sum_by-cons (λ o. cond (is_some o) 1 0) (Some x) xs)

  -- as many live as slots hold one
  pub len_map : (xs : List (Option A)) → map.len (map_of f xs) ≡ count_by is_some xs
  len_map xs = count_from 0 xs

  module _ (xs ys : List (Option A)) (n : ℕ) where
    others_got : (v : Option A) → Changes xs ys n v → (q : ℕ) → q ≢ n → map.get (map_of f ys) q ≡ map.get (map_of f xs) q
    others_got v h q ne = get_map ys q ∙ ap (option_map f) (h.others q ne) ∙ sym (get_map xs q)

    here_got : (v : Option A) → Changes xs ys n v → (q : ℕ) → q ≡ n → map.get (map_of f ys) q ≡ option_map f v
    here_got v h q e = get_map ys q ∙ ap (λ (m : ℕ). option_map f (at ys m)) e ∙ ap (option_map f) h.here

    pub inserted : (x : A) → Changes xs ys n (Some x) → map_of f ys ≡ map.insert (map_of f xs) n (f x)
    inserted x h = same_map nat_cmp_total nat_cmp-IsAntisymmetric (map_of f ys) (map.insert (map_of f xs) n (f x)) (λ q. got q (cases_eq q n))
      where
        got : (q : ℕ) → (q ≡ n) ⊎ (q ≢ n) → map.get (map_of f ys) q ≡ map.get (map.insert (map_of f xs) n (f x)) q
        got q (inl e) =
            here_got (Some x) h q e
            ∙ sym (get-insert nat_cmp_total (map_of f xs) n (f x) q ∙ ap (λ (b : Bool). cond b (Some (f x)) (map.get (map_of f xs) q)) (ap (λ (m : ℕ). eq_by_cmp nat_cmp m n) e ∙ tied n))
        got q (inr ne) =
            others_got (Some x) h q ne
            ∙ sym (get-insert nat_cmp_total (map_of f xs) n (f x) q ∙ ap (λ (b : Bool). cond b (Some (f x)) (map.get (map_of f xs) q)) (apart q n ne))

    pub removed : Changes xs ys n None → map_of f ys ≡ map.remove (map_of f xs) n
    removed h = same_map nat_cmp_total nat_cmp-IsAntisymmetric (map_of f ys) (map.remove (map_of f xs) n) (λ q. got q (cases_eq q n))
      where
        got : (q : ℕ) → (q ≡ n) ⊎ (q ≢ n) → map.get (map_of f ys) q ≡ map.get (map.remove (map_of f xs) n) q
        got q (inl e) =
            here_got None h q e
            ∙ sym (get-remove nat_cmp_total (map_of f xs) n q ∙ ap (λ (b : Bool). cond b None (map.get (map_of f xs) q)) (ap (λ (m : ℕ). eq_by_cmp nat_cmp m n) e ∙ tied n))
        got q (inr ne) =
            others_got None h q ne
            ∙ sym (get-remove nat_cmp_total (map_of f xs) n q ∙ ap (λ (b : Bool). cond b None (map.get (map_of f xs) q)) (apart q n ne))
