-- Lists that are changed thing by thing.
use Rattle.std.proofs.Common.{◌≡◌, ℕ, zero, suc, ◌+◌, ◌<◌, ◌≤◌, List, [], ◌∷◌, ◌++◌, map, take, drop, length, get_or, set, slice_get, Some, refl, sym, ap, ◌∙◌, subst, inl, inr, arith, length-set, append-nil}
use Rattle.std.proofs.lemmas.Bool.{cases_eq}
use Rattle.std.proofs.lemmas.List.{take_all, drop_all}
use Rattle.std.proofs.lemmas.Option.{slice_get_within, slice_get-get_or, same_Some}
use Rattle.core_tree.specs.Names.{AllMatch}
use Rattle.form_cache.proofs.Places.{at_same, at_other}

module _ {X : Type 0} (R : X → X → Type 0) where
  -- things below a number are related to those that were there, and from it on they are those
  pub record IsFront (xs ys : List X) (n : ℕ) : Type 0 where
    pub length_is : length ys ≡ length xs
    pub below : (k : ℕ) (x y : X) → k < n → slice_get xs k ≡ Some x → slice_get ys k ≡ Some y → R x y
    pub above : (k : ℕ) → n ≤ k → slice_get ys k ≡ slice_get xs k

  pub front_none : (xs : List X) → IsFront xs xs 0
  front_none xs = record { length_is = refl; below = λ k x y lt at_x at_y. absurd (omega (arith, lt)); above = λ k le. refl }

  pub front_more : (xs ys : List X) (n : ℕ) (x y : X) → IsFront xs ys n → n < length ys → x ≡ get_or ys n x → R x y → IsFront xs (set ys n y) (n + 1)
  front_more xs ys n x y front lt read related = record {
    length_is = length-set ys n y ∙ front.length_is;
    below = λ k a b le at_a at_b.
        elim (cases_eq k n) [
          | inl e ↦
              let here : slice_get xs n ≡ Some x = sym (front.above n (omega arith)) ∙ slice_get-get_or ys n x lt ∙ ap (λ (z : X). Some z) (sym read) in
              let first : x ≡ a = same_Some x a (sym here ∙ ap (slice_get xs) (sym e) ∙ at_a) in
              let second : y ≡ b = same_Some y b (sym (at_same ys n y lt) ∙ ap (slice_get (set ys n y)) (sym e) ∙ at_b) in
              subst (λ (z : X). R z b) first (subst (λ (z : X). R x z) second related)
          | inr ne ↦ front.below k a b (omega (arith, le, ne)) at_a (sym (at_other ys n k y ne) ∙ at_b)
        ];
    above = λ k le. at_other ys n k y (λ e. absurd (omega (arith, e, le))) ∙ front.above k (omega (arith, le));
  }

  pairs : (xs ys : List X) → length ys ≡ length xs → ((k : ℕ) (x y : X) → slice_get xs k ≡ Some x → slice_get ys k ≡ Some y → R x y) → AllMatch R xs ys
  pairs [] [] len h = tt
  pairs [] (y ∷ ys) len h = absurd (omega (arith, len))
  pairs (x ∷ xs) [] len h = absurd (omega (arith, len))
  pairs (x ∷ xs) (y ∷ ys) len h = (h zero x y refl refl, pairs xs ys (omega (arith, len)) (λ k a b at_a at_b. h (suc k) a b at_a at_b))

  pub front_all : (xs ys : List X) (n : ℕ) → IsFront xs ys n → length ys ≤ n → AllMatch R xs ys
  front_all xs ys n front le =
      pairs xs ys front.length_is (λ k x y at_x at_y. front.below k x y (omega (arith, slice_get_within ys k y at_y, le)) at_x at_y)

-- a list that is changed thing by thing is changed
pub map_over_all : {X : Type 0} (f : X → X) (xs ys : List X) (n : ℕ) → length xs ≤ n → ys ≡ map f (take n xs) ++ drop n xs → ys ≡ map f xs
map_over_all f xs ys n le h = h ∙ ap (λ l. map f l ++ drop n xs) (take_all n xs le) ∙ ap (λ l. map f xs ++ l) (drop_all n xs le) ∙ append-nil (map f xs)
