-- The items of a list with their places.
use Rattle.std.proofs.Common.{◌≡◌, ℕ, zero, suc, ◌+◌, ◌<◌, List, [], ◌∷◌, length, get_or, slice_get, Some, None, refl, sym, ap, ◌∙◌, arith}
use Rattle.std.specs.List.{enumerate_from}
use Rattle.std.proofs.lemmas.Option.{slice_get_read, same_Some}

module _ {X : Type 0} where
  same_length : (a : ℕ) (xs : List X) → length (enumerate_from a xs) ≡ length xs
  same_length a [] = refl
  same_length a (x ∷ xs) = let e = same_length (a + 1) xs in omega (arith, e)

  no_item : {P : Type 0} (p : ℕ × X) → None ≡ Some p → P
  no_item p h = absurd cc

  placed : (a : ℕ) (xs : List X) (n : ℕ) (p : ℕ × X) → slice_get (enumerate_from a xs) n ≡ Some p → (p.0 ≡ a + n) × (slice_get xs n ≡ Some p.1)
  placed a [] n p h = no_item p h
  placed a (x ∷ xs) zero p h = let e = same_Some (a, x) p h in (let q : p.0 ≡ a = sym (ap (λ (r : ℕ × X). r.0) e) in omega (arith, q), ap (λ (r : ℕ × X). Some r.1) e)
  placed a (x ∷ xs) (suc n) p h = let r = placed (a + 1) xs n p h in (let q = r.0 in omega (arith, q), r.1)

  -- an item that a loop over a list with its places has next
  pub next_placed : (xs : List X) (n : ℕ) (p : ℕ × X) → (n < length (enumerate_from 0 xs)) × (p ≡ get_or (enumerate_from 0 xs) n p) → (p.0 ≡ n) × (slice_get xs n ≡ Some p.1) × (n < length xs)
  next_placed xs n p h =
      let r = placed 0 xs n p (slice_get_read (enumerate_from 0 xs) (length (enumerate_from 0 xs)) n p refl h.0 h.1) in
      let at = r.0 in let below = h.0 in let long = same_length 0 xs in
      (omega (arith, at), r.1, omega (arith, below, long))

  pub all_placed : (xs : List X) (n : ℕ) → n ≡ length (enumerate_from 0 xs) → n ≡ length xs
  all_placed xs n h = h ∙ same_length 0 xs
