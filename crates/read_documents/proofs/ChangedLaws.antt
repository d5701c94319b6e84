-- Lists in which items change at their places.
use Rattle.std.proofs.Common.{◌≡◌, ℕ, zero, suc, ◌⊎◌, inl, inr, List, [], ◌∷◌, slice_get, slice_set, Some, refl, sym, ap, ◌∙◌, subst, arith}
use Rattle.std.proofs.lemmas.List.{length-set}
use Rattle.std.proofs.lemmas.Option.{same_Some}
use Rattle.read_documents.specs.Changed.{Changes}

-- what stands at a place after a write
pub set_cases : {A : Type 0} (xs : List A) (p : ℕ) (y : A) (n : ℕ) (z : A) → slice_get (slice_set xs p y) n ≡ Some z → ((n ≡ p) × (z ≡ y)) ⊎ ((n ≡ p → ⊥) × (slice_get xs n ≡ Some z))
set_cases [] p y n z h = absurd cc
set_cases (x ∷ xs) zero y zero z h = inl (refl, sym (same_Some y z h))
set_cases (x ∷ xs) zero y (suc n) z h = inr (λ e. absurd (omega arith), h)
set_cases (x ∷ xs) (suc p) y zero z h = inr (λ e. absurd (omega arith), h)
set_cases {A} (x ∷ xs) (suc p) y (suc n) z h = behind (set_cases xs p y n z h)
  where
    behind : ((n ≡ p) × (z ≡ y)) ⊎ ((n ≡ p → ⊥) × (slice_get xs n ≡ Some z)) → ((suc n ≡ suc p) × (z ≡ y)) ⊎ ((suc n ≡ suc p → ⊥) × (slice_get xs n ≡ Some z))
    behind (inl k) = inl (ap suc k.0, k.1)
    behind (inr k) = inr (λ e. k.0 (omega arith), k.1)

pub changes_itself : {A : Type 0} (R : ℕ → A → A → Type 0) → ((n : ℕ) (x : A) → R n x x) → (xs : List A) → Changes R xs xs
changes_itself R same xs = record { size = refl; each = λ n y at. (y, (at, same n y)) }

pub changes_as : {A : Type 0} (R S : ℕ → A → A → Type 0) → ((n : ℕ) (x y : A) → R n x y → S n x y) → (xs ys : List A) → Changes R xs ys → Changes S xs ys
changes_as R S f xs ys h = record { size = h.size; each = λ n y at. let r = h.each n y at in (r.0, (r.1.0, f n r.0 y r.1.1)) }

pub changes_on : {A : Type 0} (R : ℕ → A → A → Type 0) → ((n : ℕ) (x y z : A) → R n x y → R n y z → R n x z) → (xs ys zs : List A) → Changes R xs ys → Changes R ys zs → Changes R xs zs
changes_on R on xs ys zs h k = record {
  size = k.size ∙ h.size;
  each = λ n z at. let r = k.each n z at in let q = h.each n r.0 r.1.0 in (q.0, (q.1.0, on n q.0 r.0 z q.1.1 r.1.1));
}

-- one item more changes
pub changes_set : {A : Type 0} (R S : ℕ → A → A → Type 0) (xs ys : List A) (p : ℕ) (y z : A) → Changes R xs ys → slice_get ys p ≡ Some y → ((n : ℕ) (a b : A) → (n ≡ p → ⊥) → R n a b → S n a b) → ((a : A) → R p a y → S p a z) →
    Changes S xs (slice_set ys p z)
changes_set {A} R S xs ys p y z h there others here = record { size = length-set ys p z ∙ h.size; each = λ n w at. go n w (set_cases ys p z n w at) }
  where
    go : (n : ℕ) (w : A) → ((n ≡ p) × (w ≡ z)) ⊎ ((n ≡ p → ⊥) × (slice_get ys n ≡ Some w)) → (a : A) × ((slice_get xs n ≡ Some a) × S n a w)
    go n w (inl k) =
        let r = h.each p y there in
        (r.0, (ap (slice_get xs) k.0 ∙ r.1.0, subst (λ (m : ℕ). S m r.0 w) (sym k.0) (subst (λ (v : A). S p r.0 v) (sym k.1) (here r.0 r.1.1))))
    go n w (inr k) = let r = h.each n w k.1 in (r.0, (r.1.0, others n r.0 w k.0 r.1.1))
