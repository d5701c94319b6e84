-- What holds of each of a list holds of all that it contains.
use Rattle.std.proofs.Common.{◌≡◌, zero, suc, ◌<◌, List, [], ◌∷◌, ◌++◌, map, length, Contains, refl, ap, subst, arith}
use Rattle.form_laws.specs.Begins.{Each}
use Rattle.note_laws.proofs.TestedNotes.{later_contained}

module _ {X : Type 0} (P : X → Type 0) where
  pub each_contained : (xs : List X) → Each P xs → (x : X) → Contains xs x → P x
  each_contained [] h x c = let l : c.0 < 0 = c.1 in absurd (omega (arith, l))
  each_contained (y ∷ ys) h x (zero, l, p) = subst P p h.0
  each_contained (y ∷ ys) h x (suc k, l, p) = let j : suc k < suc (length ys) = l in each_contained ys h.1 x (k, omega (arith, j), p)

  pub contained_each : (xs : List X) → ((x : X) → Contains xs x → P x) → Each P xs
  contained_each [] h = tt
  contained_each (y ∷ ys) h = (h y (zero, omega arith, refl), contained_each ys (λ x c. h x (later_contained y ys x c)))

  pub each_both : (xs ys : List X) → Each P xs → Each P ys → Each P (xs ++ ys)
  each_both [] ys h k = k
  each_both (x ∷ xs) ys h k = (h.0, each_both xs ys h.1 k)

  pub each_behind : (xs ys : List X) → Each P (xs ++ ys) → Each P ys
  each_behind [] ys h = h
  each_behind (x ∷ xs) ys h = each_behind xs ys h.1

-- what is contained in what a list is mapped to
module _ {X Y : Type 0} (f : X → Y) where
  pub contained_map : (xs : List X) (x : X) → Contains xs x → Contains (map f xs) (f x)
  contained_map [] x c = let l : c.0 < 0 = c.1 in absurd (omega (arith, l))
  contained_map (y ∷ ys) x (zero, l, p) = (zero, omega arith, ap f p)
  contained_map (y ∷ ys) x (suc k, l, p) = let j : suc k < suc (length ys) = l in later_contained (f y) (map f ys) (f x) (contained_map ys x (k, omega (arith, j), p))

  pub map_contained : (xs : List X) (y : Y) → Contains (map f xs) y → (x : X) × Contains xs x × (f x ≡ y)
  map_contained [] y c = let l : c.0 < 0 = c.1 in absurd (omega (arith, l))
  map_contained (x ∷ xs) y (zero, l, p) = (x, (zero, omega arith, refl), p)
  map_contained (x ∷ xs) y (suc k, l, p) =
      let j : suc k < suc (length (map f xs)) = l in
      let h = map_contained xs y (k, omega (arith, j), p) in
      (h.0, later_contained x xs h.0 h.1, h.2)
