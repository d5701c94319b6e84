-- Marks in a row: one more that is none, and one that is set.
use Rattle.std.proofs.Common.{◌≡◌, ℕ, zero, suc, ◌<◌, Bool, true, false, List, [], ◌∷◌, ◌++◌, length, set, slice_get, refl, arith}
use Rattle.std.specs.Prelude.{unwrap_or}

abbrev at : List Bool → ℕ → Bool
at xs n = unwrap_or (slice_get xs n) false

pub one_more : (xs : List Bool) (n : ℕ) → at (xs ++ false ∷ []) n ≡ at xs n
one_more [] zero = refl
one_more [] (suc n) = refl
one_more (x ∷ xs) zero = refl
one_more (x ∷ xs) (suc n) = one_more xs n

pub set_kept : (xs : List Bool) (k n : ℕ) → at (set xs k true) n ≡ false → at xs n ≡ false
set_kept [] k n h = h
set_kept (x ∷ xs) zero zero h = let never : ⊥ = cc in absurd never
set_kept (x ∷ xs) zero (suc n) h = h
set_kept (x ∷ xs) (suc k) zero h = h
set_kept (x ∷ xs) (suc k) (suc n) h = set_kept xs k n h

pub set_here : (xs : List Bool) (k : ℕ) → k < length xs → at (set xs k true) k ≡ true
set_here [] k h = absurd (omega arith)
set_here (x ∷ xs) zero h = refl
set_here (x ∷ xs) (suc k) h = set_here xs k (omega arith)
