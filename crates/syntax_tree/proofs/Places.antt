-- Lists by their places.
use Rattle.std.proofs.Common.{◌≡◌, ℕ, zero, suc, ◌<◌, Bool, true, false, List, [], ◌∷◌, ◌++◌, map, length, get_or, slice_get, Some, None, refl, sym, ap, ◌∙◌, subst, inl, inr, arith}
use Rattle.std.specs.Prelude.{◌⊎◌}
use Rattle.std.specs.List.{IsDistinct, position}
use Rattle.std.proofs.lemmas.Bool.{cases_lt}
use Rattle.std.proofs.lemmas.List.Quantifiers.{position-Some}
use Rattle.std.proofs.lemmas.Map.Keys.{apart_from_distinct}
use Rattle.std.proofs.lemmas.Option.{slice_get-get_or, slice_get_within, same_Some}
use Rattle.syntax_tree.specs.Names.{AreToldApart}

pub none_some : {A : Type 0} {P : Type 0} (x : A) → None ≡ Some x → P
none_some x h = absurd cc

module _ {A : Type 0} where
  -- what stands in front stays
  pub get_front : (xs ys : List A) (i : ℕ) (x : A) → slice_get xs i ≡ Some x → slice_get (xs ++ ys) i ≡ Some x
  get_front [] ys i x h = none_some x h
  get_front (y ∷ xs) ys zero x h = h
  get_front (y ∷ xs) ys (suc i) x h = get_front xs ys i x h

  pub get_same : (xs ys : List A) (i : ℕ) → i < length xs → slice_get (xs ++ ys) i ≡ slice_get xs i
  get_same [] ys i h = absurd (omega arith)
  get_same (y ∷ xs) ys zero h = refl
  get_same (y ∷ xs) ys (suc i) h = get_same xs ys i (omega arith)

  -- the thing after a list
  pub get_next : (xs ys : List A) (y : A) → slice_get (xs ++ y ∷ ys) (length xs) ≡ Some y
  get_next [] ys y = refl
  get_next (x ∷ xs) ys y = get_next xs ys y

  pub push_cases : (xs : List A) (x : A) (i : ℕ) (y : A) → slice_get (xs ++ x ∷ []) i ≡ Some y → (slice_get xs i ≡ Some y) ⊎ ((i ≡ length xs) × (y ≡ x))
  push_cases [] x zero y h = inr (refl, sym (same_Some x y h))
  push_cases [] x (suc i) y h = none_some y h
  push_cases (z ∷ xs) x zero y h = inl h
  push_cases (z ∷ xs) x (suc i) y h =
      elim (push_cases xs x i y h) [
        | inl p ↦ inl p
        | inr p ↦ inr (ap suc p.0, p.1)
      ]

  -- something stands at each place within a list
  pub get_within : (xs : List A) (i : ℕ) → i < length xs → (x : A) × (slice_get xs i ≡ Some x)
  get_within [] i h = absurd (omega arith)
  get_within (x ∷ xs) zero h = (x, refl)
  get_within (x ∷ xs) (suc i) h = get_within xs i (omega arith)

-- where an equality tells things apart, keys without repeats are told apart by what they show
module _ {K A : Type 0} (e : K → K → Bool) (show : K → A) (finds : (x y : K) → show x ≡ show y → e x y ≡ true) where
  false_true : {P : Type 0} (b : Bool) → b ≡ false → b ≡ true → P
  false_true b p q = absurd cc

  apart_rising : (ks : List K) (i j : ℕ) (x y : K) → IsDistinct e ks → i < j → slice_get ks i ≡ Some x → slice_get ks j ≡ Some y → show x ≡ show y → ⊥
  apart_rising ks i j x y d lt p q same =
      let within : j < length ks = slice_get_within ks j y q in
      let at_i : get_or ks i x ≡ x = same_Some (get_or ks i x) x (sym (slice_get-get_or ks i x (omega arith)) ∙ p) in
      let at_j : get_or ks j x ≡ y = same_Some (get_or ks j x) y (sym (slice_get-get_or ks j x within) ∙ q) in
      false_true (e (get_or ks i x) (get_or ks j x)) (apart_from_distinct e ks i j x d lt within) (finds (get_or ks i x) (get_or ks j x) (ap show at_i ∙ same ∙ sym (ap show at_j)))

  pub told_apart_by : (ks : List K) → IsDistinct e ks → (i j : ℕ) (x y : K) → slice_get ks i ≡ Some x → slice_get ks j ≡ Some y → show x ≡ show y → i ≡ j
  told_apart_by ks d i j x y p q same =
      elim (cases_lt i j) [
        | inl lt ↦ absurd (apart_rising ks i j x y d lt p q same)
        | inr le ↦ elim (cases_lt j i) [
          | inl lt ↦ absurd (apart_rising ks j i y x d lt q p (sym same))
          | inr le' ↦ omega arith
        ]
      ]

module _ {A : Type 0} where
  -- lists whose things differ place by place are told apart
  pub told_apart_from : (xs : List A) → ((i j : ℕ) (x : A) → slice_get xs i ≡ Some x → slice_get xs j ≡ Some x → i ≡ j) → AreToldApart xs
  told_apart_from xs h i j lt same =
      let p = get_within xs i lt in
      h i j p.0 p.1 (sym same ∙ p.1)

pub map_get : {K A : Type 0} (show : K → A) (ks : List K) (i : ℕ) (a : A) → slice_get (map show ks) i ≡ Some a → (k : K) × (slice_get ks i ≡ Some k) × (show k ≡ a)
map_get show [] i a h = none_some a h
map_get show (k ∷ ks) zero a h = (k, refl, same_Some (show k) a h)
map_get show (k ∷ ks) (suc i) a h = map_get show ks i a h

-- the place that a search finds
pub found : {K : Type 0} (test : K → Bool) (ks : List K) (i : ℕ) → Some i ≡ position test ks → (k : K) × (slice_get ks i ≡ Some k) × (test k ≡ true)
found test [] i h = none_some i (sym h)
found test (k ∷ ks) i h =
    let f = position-Some test (k ∷ ks) i k (sym h) in
    (get_or (k ∷ ks) i k, slice_get-get_or (k ∷ ks) i k f.0, f.1)

pub map_told_apart : {K A : Type 0} (e : K → K → Bool) (show : K → A) → ((x y : K) → show x ≡ show y → e x y ≡ true) → (ks : List K) → IsDistinct e ks → AreToldApart (map show ks)
map_told_apart e show finds ks d =
    told_apart_from (map show ks) (λ i j x p q.
    let a = map_get show ks i x p in
    let b = map_get show ks j x q in
    told_apart_by e show finds ks d i j a.0 b.0 a.1 b.1 (a.2 ∙ sym b.2))

pub keys_told_apart : {K : Type 0} (e : K → K → Bool) → ((x : K) → e x x ≡ true) → (ks : List K) → IsDistinct e ks → AreToldApart ks
keys_told_apart {K} e itself ks d =
    told_apart_from ks (λ i j x p q. told_apart_by e (λ (k : K). k) (λ x y same. subst (λ z. e x z ≡ true) same (itself x)) ks d i j x x p q refl)
