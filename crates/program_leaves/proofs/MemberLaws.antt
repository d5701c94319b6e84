-- Members of lists, by recursion.
use Rattle.std.proofs.Common.{◌≡◌, ◌⊎◌, inl, inr, ◌↔◌, ℕ, List, [], ◌∷◌, ◌++◌, map, reverse, refl, sym, ap, subst, arith}
use Rattle.std.specs.List.{Contains, flat_map}
use Rattle.std.proofs.lemmas.List.{reverse-append}
use Rattle.std.proofs.lemmas.List.Elements.{Contains-append_right, Contains-append_cases}
use Rattle.program_leaves.specs.Members.{IsIn}

pub in_left : {X : Type 0} (x : X) (xs ys : List X) → IsIn x xs → IsIn x (xs ++ ys)
in_left x [] ys h = absurd h
in_left x (z ∷ xs) ys (inl e) = inl e
in_left x (z ∷ xs) ys (inr h) = inr (in_left x xs ys h)

pub in_right : {X : Type 0} (x : X) (xs ys : List X) → IsIn x ys → IsIn x (xs ++ ys)
in_right x [] ys h = h
in_right x (z ∷ xs) ys h = inr (in_right x xs ys h)

pub in_either : {X : Type 0} (x : X) (xs ys : List X) → IsIn x (xs ++ ys) → IsIn x xs ⊎ IsIn x ys
in_either x [] ys h = inr h
in_either x (z ∷ xs) ys (inl e) = inl (inl e)
in_either x (z ∷ xs) ys (inr h) = behind (in_either x xs ys h)
  where
    behind : IsIn x xs ⊎ IsIn x ys → ((z ≡ x) ⊎ IsIn x xs) ⊎ IsIn x ys
    behind (inl k) = inl (inr k)
    behind (inr k) = inr k

-- ---- the same in std's words

pub contains_from : {X : Type 0} (x : X) (xs : List X) → IsIn x xs → Contains xs x
contains_from x [] h = absurd h
contains_from x (y ∷ ys) (inl e) = (0, omega arith, e)
contains_from x (y ∷ ys) (inr h) = Contains-append_right (y ∷ []) ys x (contains_from x ys h)

pub in_from : {X : Type 0} (x : X) (xs : List X) → Contains xs x → IsIn x xs
in_from x [] h = absurd (omega (arith, h.1))
in_from x (y ∷ ys) h = by_case (in_from x ys) (Contains-append_cases (y ∷ []) ys x h)
  where
    only : (k : ℕ) → Contains (y ∷ []) x → y ≡ x
    only k g = grind (arith, g)

    by_case : (Contains ys x → IsIn x ys) → Contains (y ∷ []) x ⊎ Contains ys x → (y ≡ x) ⊎ IsIn x ys
    by_case f (inl g) = inl (only 0 g)
    by_case f (inr g) = inr (f g)

-- ---- reversed, mapped, joined

pub in_reverse : {X : Type 0} (x : X) (xs : List X) → IsIn x xs → IsIn x (reverse xs)
in_reverse x [] h = absurd h
in_reverse x (y ∷ ys) (inl e) = subst (IsIn x) (sym (reverse-append (y ∷ []) ys)) (in_right x (reverse ys) (y ∷ []) (inl e))
in_reverse x (y ∷ ys) (inr h) = subst (IsIn x) (sym (reverse-append (y ∷ []) ys)) (in_left x (reverse ys) (y ∷ []) (in_reverse x ys h))

pub in_map : {X Y : Type 0} (f : X → Y) (x : X) (xs : List X) → IsIn x xs → IsIn (f x) (map f xs)
in_map f x [] h = absurd h
in_map f x (y ∷ ys) (inl e) = inl (ap f e)
in_map f x (y ∷ ys) (inr h) = inr (in_map f x ys h)

pub from_map : {X Y : Type 0} (f : X → Y) (y : Y) (xs : List X) → IsIn y (map f xs) → (x : X) × IsIn x xs × (f x ≡ y)
from_map f y [] h = absurd h
from_map f y (x ∷ xs) (inl e) = (x, inl refl, e)
from_map f y (x ∷ xs) (inr h) = let r = from_map f y xs h in (r.0, inr r.1, r.2)

-- the members of an ordered list, where each item tells another one
pub same_listed : {X Y : Type 0} (f : X → Y) (one : (a b : X) → f a ≡ f b → a ≡ b) (sorted xs : List X) (all : List Y) → ((y : Y) → IsIn y (map f xs) ↔ IsIn y all) → ((q : X) → Contains sorted q ↔ Contains xs q) → (q : X) → Contains sorted q ↔ Contains all (f q)
same_listed f one sorted xs all are same q =
    let back : IsIn (f q) (map f xs) → IsIn q xs = λ h. let r = from_map f (f q) xs h in subst (λ x. IsIn x xs) (one r.0 q r.2) r.1 in (
      λ g. contains_from (f q) all ((are (f q)).0 (in_map f q xs (in_from q xs ((same q).0 g)))),
      λ g. (same q).1 (contains_from q xs (back ((are (f q)).1 (in_from (f q) all g)))),
    )

pub in_flat_map : {X Y : Type 0} (f : X → List Y) (x : X) (y : Y) (xs : List X) → IsIn x xs → IsIn y (f x) → IsIn y (flat_map f xs)
in_flat_map f x y [] h k = absurd h
in_flat_map f x y (z ∷ zs) (inl e) k = in_left y (f z) (flat_map f zs) (subst (λ w. IsIn y (f w)) (sym e) k)
in_flat_map f x y (z ∷ zs) (inr h) k = in_right y (f z) (flat_map f zs) (in_flat_map f x y zs h k)

pub from_flat_map : {X Y : Type 0} (f : X → List Y) (y : Y) (xs : List X) → IsIn y (flat_map f xs) → (x : X) × IsIn x xs × IsIn y (f x)
from_flat_map f y [] h = absurd h
from_flat_map {X = X} f y (x ∷ xs) h = by_case (from_flat_map f y xs) (in_either y (f x) (flat_map f xs) h)
  where
    by_case : (IsIn y (flat_map f xs) → (z : X) × IsIn z xs × IsIn y (f z)) → IsIn y (f x) ⊎ IsIn y (flat_map f xs) → (z : X) × IsIn z (x ∷ xs) × IsIn y (f z)
    by_case g (inl k) = (x, inl refl, k)
    by_case g (inr k) = let r = g k in (r.0, inr r.1, r.2)

-- members of the one list give what members of the other give
pub among : {X Y : Type 0} (f : X → List Y) (xs ys : List X) → ((x : X) → IsIn x xs → IsIn x ys) → (y : Y) → IsIn y (flat_map f xs) → IsIn y (flat_map f ys)
among f xs ys g y h = let r = from_flat_map f y xs h in in_flat_map f r.0 y ys (g r.0 r.1) r.2
