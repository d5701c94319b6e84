-- Lists by their places, and what is found in them.
use Rattle.std.proofs.Common.{◌≡◌, ℕ, zero, suc, ◌+◌, ◌<◌, Bool, true, false, cond, not, List, [], ◌∷◌, map, length, set, slice_get, Some, refl, sym, ap, ◌∙◌, inl, inr, arith}
use Rattle.std.specs.Prelude.{◌⊎◌}
use Rattle.std.specs.List.{position_or_len}
use Rattle.std.specs.Option.{option_map}
use Rattle.std.proofs.lemmas.Option.{slice_get_within, same_Some}
use Rattle.syntax_tree.specs.Names.{AreToldApart}
use Rattle.syntax_tree.proofs.Places.{none_some}
use Rattle.scope_env.specs.Environment.{changed_at}

module _ {A : Type 0} where
  pub length-changed_at : (f : A → A) (xs : List A) (n : ℕ) → length (changed_at f xs n) ≡ length xs
  length-changed_at f [] n = refl
  length-changed_at f (x ∷ xs) zero = refl
  length-changed_at f (x ∷ xs) (suc n) = ap suc (length-changed_at f xs n)

  -- what stands at the place that is changed, and at the others
  pub changed_here : (f : A → A) (xs : List A) (n : ℕ) → slice_get (changed_at f xs n) n ≡ option_map f (slice_get xs n)
  changed_here f [] n = refl
  changed_here f (x ∷ xs) zero = refl
  changed_here f (x ∷ xs) (suc n) = changed_here f xs n

  pub changed_there : (f : A → A) (xs : List A) (n m : ℕ) → (m ≡ n → ⊥) → slice_get (changed_at f xs n) m ≡ slice_get xs m
  changed_there f [] n m other = refl
  changed_there f (x ∷ xs) zero zero other = absurd (other refl)
  changed_there f (x ∷ xs) zero (suc m) other = refl
  changed_there f (x ∷ xs) (suc n) zero other = refl
  changed_there f (x ∷ xs) (suc n) (suc m) other = changed_there f xs n m (λ e. other (ap suc e))

  -- what stands in the list then, by what stood there
  pub changed_from : (f : A → A) (xs : List A) (n m : ℕ) (y : A) → slice_get (changed_at f xs n) m ≡ Some y → (x : A) × (slice_get xs m ≡ Some x) × ((y ≡ x) ⊎ ((m ≡ n) × (y ≡ f x)))
  changed_from f [] n m y at = none_some y at
  changed_from f (x ∷ xs) zero zero y at = (x, refl, inr (refl, sym (same_Some (f x) y at)))
  changed_from f (x ∷ xs) zero (suc m) y at = (y, at, inl refl)
  changed_from f (x ∷ xs) (suc n) zero y at = (x, refl, inl (sym (same_Some x y at)))
  changed_from f (x ∷ xs) (suc n) (suc m) y at =
      let rest = changed_from f xs n m y at in
      (rest.0, rest.1, elim rest.2 [ inl e ↦ inl e | inr h ↦ inr (ap suc h.0, h.1) ])

  pub changed_to : (f : A → A) (xs : List A) (n m : ℕ) (x : A) → slice_get xs m ≡ Some x → (y : A) × (slice_get (changed_at f xs n) m ≡ Some y) × ((y ≡ x) ⊎ ((m ≡ n) × (y ≡ f x)))
  changed_to f [] n m x at = none_some x at
  changed_to f (z ∷ xs) zero zero x at = (f z, refl, inr (refl, ap f (same_Some z x at)))
  changed_to f (z ∷ xs) zero (suc m) x at = (x, at, inl refl)
  changed_to f (z ∷ xs) (suc n) zero x at = (z, refl, inl (same_Some z x at))
  changed_to f (z ∷ xs) (suc n) (suc m) x at =
      let rest = changed_to f xs n m x at in
      (rest.0, rest.1, elim rest.2 [ inl e ↦ inl e | inr h ↦ inr (ap suc h.0, h.1) ])

-- to write an item is to change what it shows
pub map_set : {K A : Type 0} (show : K → A) (f : A → A) (ks : List K) (n : ℕ) (old new : K) → slice_get ks n ≡ Some old → show new ≡ f (show old) → map show (set ks n new) ≡ changed_at f (map show ks) n
map_set show f [] n old new at is = none_some old at
map_set show f (k ∷ ks) zero old new at is = ap (λ a. a ∷ map show ks) (is ∙ ap (λ x. f (show x)) (sym (same_Some k old at)))
map_set show f (k ∷ ks) (suc n) old new at is = ap (λ rest. show k ∷ rest) (map_set show f ks n old new at is)

-- the place of a thing in a list in which nothing else is it
module _ {A : Type 0} (same : A → A → Bool) (x : A) where
  placed : (xs : List A) (n : ℕ) → ((m : ℕ) (y : A) → m < n → slice_get xs m ≡ Some y → same x y ≡ false) → (y : A) → slice_get xs n ≡ Some y → same x y ≡ true → position_or_len (same x) xs ≡ n
  placed [] n before y at is = none_some y at
  placed (z ∷ xs) zero before y at is =
      ap (λ b. cond (not b) (1 + position_or_len (same x) xs) 0) (ap (same x) (same_Some z y at) ∙ is)
  placed (z ∷ xs) (suc n) before y at is =
      let rest = placed xs n (λ m w lt. before (suc m) w (omega arith)) y at is in
      ap (λ b. cond (not b) (1 + position_or_len (same x) xs) 0) (before zero z (omega arith) refl) ∙ omega arith

  unlike : (b : Bool) → (b ≡ true → ⊥) → b ≡ false
  unlike true h = absurd (h refl)
  unlike false h = refl

  pub place_is : ((y : A) → same x y ≡ true → x ≡ y) → same x x ≡ true → (xs : List A) → AreToldApart xs → (n : ℕ) → slice_get xs n ≡ Some x → position_or_len (same x) xs ≡ n
  place_is told itself xs apart n at =
      placed xs n (λ m y lt here. unlike (same x y) (λ is.
      let within = slice_get_within xs n x at in
      let equal : n ≡ m = apart n m within (at ∙ ap Some (told y is) ∙ sym here) in omega arith)) x at itself
