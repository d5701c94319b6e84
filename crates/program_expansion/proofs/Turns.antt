-- Places that stand once each: what comes later isn't what came before.
use Rattle.std.proofs.Common.{◌≡◌, ℕ, zero, suc, ◌+◌, ◌<◌, ◌≤◌, ◌==◌, List, [], ◌∷◌, ◌++◌, slice_get, Bool, true, false, Some, None, refl, sym, ap, arith, eq-eqb}
use Rattle.std.specs.Prelude.{◌||◌}
use Rattle.std.proofs.lemmas.Option.{same_Some}
use Rattle.scheme_model.specs.Program.{is_in}

none_some : {P : Type 0} (n : ℕ) → None ≡ Some n → P
none_some n h = absurd cc

or_later : (p q : Bool) → q ≡ true → (p || q) ≡ true
or_later true q h = refl
or_later false q h = h

-- a list in two parts about a place
split_at : (xs : List ℕ) (n b : ℕ) → slice_get xs n ≡ Some b → (front : List ℕ) × (rest : List ℕ) × (xs ≡ front ++ b ∷ rest) × ((k a : ℕ) → k < n → slice_get xs k ≡ Some a → is_in a front ≡ true)
split_at [] n b at = none_some b at
split_at (x ∷ xs) zero b at = ([], xs, ap (λ (y : ℕ). y ∷ xs) (same_Some x b at), λ k a low h. absurd (omega (arith, low)))
split_at (x ∷ xs) (suc n) b at = let r = split_at xs n b at in (x ∷ r.0, r.1, ap (λ (ys : List ℕ). x ∷ ys) r.2, within r.0 r.3)
  where
    within : (front : List ℕ) → ((k a : ℕ) → k < n → slice_get xs k ≡ Some a → is_in a front ≡ true) → (k a : ℕ) → k < suc n → slice_get (x ∷ xs) k ≡ Some a → is_in a (x ∷ front) ≡ true
    within front rest zero a low h = ap (λ p. p || is_in a front) (eq-eqb a x (sym (same_Some x a h)))
    within front rest (suc k) a low h = or_later (a == x) (is_in a front) (rest k a (omega (arith, low)) h)

pub in_at : (xs : List ℕ) (n a : ℕ) → slice_get xs n ≡ Some a → is_in a xs ≡ true
in_at [] n a at = none_some a at
in_at (x ∷ xs) zero a at = ap (λ p. p || is_in a xs) (eq-eqb a x (sym (same_Some x a at)))
in_at (x ∷ xs) (suc n) a at = or_later (a == x) (is_in a xs) (in_at xs n a at)

-- places below a number, each once
module _ (xs : List ℕ) (once : (n : ℕ) (before rest : List ℕ) → xs ≡ before ++ n ∷ rest → is_in n before ≡ false) where
  pub apart_later : {P : Type 0} (k n a b : ℕ) → k < n → slice_get xs k ≡ Some a → slice_get xs n ≡ Some b → b ≡ a → P
  apart_later k n a b low there here same =
      let s = split_at xs n b here in
      let not : is_in b s.0 ≡ false = once b s.0 s.1 s.2 in
      let is : is_in a s.0 ≡ true = s.3 k a low there in
      absurd (cc (not, is, same))

-- what holds of the places from one on still does so of those behind it, where it is kept for all places but that one
pub later_hold : (xs : List ℕ) → ((n : ℕ) (before rest : List ℕ) → xs ≡ before ++ n ∷ rest → is_in n before ≡ false) → (P Q : ℕ → Type 0) (i a : ℕ) → slice_get xs i ≡ Some a → ((v : ℕ) → (v ≡ a → ⊥) → P v → Q v) →
    ((k v : ℕ) → i ≤ k → slice_get xs k ≡ Some v → P v) → (k v : ℕ) → i + 1 ≤ k → slice_get xs k ≡ Some v → Q v
later_hold xs once P Q i a at others hold k v le here = others v (λ same. apart_later xs once i k a v (omega arith) at here same) (hold k v (omega arith) here)
