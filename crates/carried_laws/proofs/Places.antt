-- What stands at a place of a list.
use Rattle.std.proofs.Common.{◌≡◌, ◌⊎◌, inl, inr, ℕ, zero, suc, ◌+◌, ◌-◌, ◌<◌, List, [], ◌∷◌, ◌++◌, map, length, drop, refl, sym, ◌∙◌, subst, arith}
use Rattle.std.specs.Prelude.{reverse}
use Rattle.std.proofs.lemmas.List.{reverse-append, length-reverse}
use Rattle.carried_forms.specs.Carried.{IsIn}
use Rattle.carried_laws.specs.Homes.{At}

pub parted : {X : Type 0} (x : X) (xs ys : List X) → IsIn x (xs ++ ys) → IsIn x xs ⊎ IsIn x ys
parted x [] ys h = inr h
parted x (z ∷ xs) ys (inl e) = inl (inl e)
parted x (z ∷ xs) ys (inr h) = go (parted x xs ys h)
  where
    go : IsIn x xs ⊎ IsIn x ys → ((x ≡ z) ⊎ IsIn x xs) ⊎ IsIn x ys
    go (inl k) = inl (inr k)
    go (inr k) = inr k

pub mapped_at : {X Y : Type 0} (f : X → Y) (xs : List X) (n : ℕ) (y : Y) → At (map f xs) n y → (x : X) × At xs n x × (f x ≡ y)
mapped_at f [] n y h = absurd h
mapped_at f (x ∷ xs) zero y h = (x, refl, h)
mapped_at f (x ∷ xs) (suc n) y h = mapped_at f xs n y h

pub same_at : {X : Type 0} (xs : List X) (n : ℕ) (x y : X) → At xs n x → At xs n y → x ≡ y
same_at [] n x y h k = absurd h
same_at (z ∷ xs) zero x y h k = sym h ∙ k
same_at (z ∷ xs) (suc n) x y h k = same_at xs n x y h k

pub below : {X : Type 0} (xs : List X) (n : ℕ) (x : X) → At xs n x → n < length xs
below [] n x h = absurd h
below (z ∷ xs) zero x h = omega arith
below (z ∷ xs) (suc n) x h = let l = below xs n x h in omega (arith, l)

pub dropped_at : {X : Type 0} (k : ℕ) (xs : List X) (n : ℕ) (x : X) → At (drop k xs) n x → At xs (k + n) x
dropped_at zero xs n x h = subst (λ m. At xs m x) (let e : n ≡ 0 + n = omega arith in e) h
dropped_at (suc k) [] n x h = absurd h
dropped_at (suc k) (y ∷ xs) n x h = subst (λ m. At (y ∷ xs) m x) (let e : suc (k + n) ≡ suc k + n = omega arith in e) (dropped_at k xs n x h)

joined_at : {X : Type 0} (xs ys : List X) (n : ℕ) (x : X) → At (xs ++ ys) n x → At xs n x ⊎ ((m : ℕ) × (n ≡ length xs + m) × At ys m x)
joined_at [] ys n x h = inr (n, (let e : n ≡ 0 + n = omega arith in e), h)
joined_at (z ∷ xs) ys zero x h = inl h
joined_at (z ∷ xs) ys (suc n) x h = go (joined_at xs ys n x h)
  where
    go : At xs n x ⊎ ((m : ℕ) × (n ≡ length xs + m) × At ys m x) → At xs n x ⊎ ((m : ℕ) × (suc n ≡ length (z ∷ xs) + m) × At ys m x)
    go (inl k) = inl k
    go (inr k) = inr (k.0, (let e = k.1 in omega (arith, e)), k.2)

one_at : {X : Type 0} (y : X) (m : ℕ) (x : X) → At (y ∷ []) m x → (m ≡ 0) × (y ≡ x)
one_at y zero x h = (refl, h)
one_at y (suc m) x h = absurd h

pub reversed_at : {X : Type 0} (xs : List X) (n : ℕ) (x : X) → At (reverse xs) n x → At xs (length xs - suc n) x
reversed_at [] n x h = absurd h
reversed_at {X} (y ∷ xs) n x h = go (joined_at (reverse xs) (y ∷ []) n x (subst (λ (l : List X). At l n x) (reverse-append (y ∷ []) xs) h)) (λ k. reversed_at xs n x k)
  where
    go : At (reverse xs) n x ⊎ ((m : ℕ) × (n ≡ length (reverse xs) + m) × At (y ∷ []) m x) → (At (reverse xs) n x → At xs (length xs - suc n) x) → At (y ∷ xs) (length (y ∷ xs) - suc n) x
    go (inl k) law =
        let l = below (reverse xs) n x k in let r = length-reverse xs in
        let e : suc (length xs - suc n) ≡ length (y ∷ xs) - suc n = omega (arith, l, r) in
        subst (λ m. At (y ∷ xs) m x) e (law k)
    go (inr k) law =
        let o = one_at y k.0 x k.2 in let r = length-reverse xs in let a = k.1 in let c = o.0 in
        let e : 0 ≡ length (y ∷ xs) - suc n = omega (arith, a, c, r) in
        subst (λ m. At (y ∷ xs) m x) e o.1
