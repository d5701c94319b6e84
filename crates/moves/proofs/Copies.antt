-- Tables that are made again, thing by thing.
use Rattle.std.proofs.Common.{◌≡◌, ◌⊎◌, ℕ, zero, suc, ◌+◌, ◌<◌, ◌≤◌, Bool, true, false, cond, List, [], ◌∷◌, ◌++◌, take, length, get_or, slice_get, Some, refl, sym, ap, ◌∙◌, inl, inr, arith}
use Rattle.std.specs.Prelude.{◌||◌}
use Rattle.std.specs.List.{list_any}
use Rattle.std.specs.Str.{bytes_eq}
use Rattle.std.proofs.lemmas.List.{length-take-le, get_or-take, take_more}
use Rattle.std.proofs.lemmas.Option.{slice_get_within, slice_get-get_or, get_or_from_slice_get}
use Rattle.scheme_model.specs.Ident.{Ident as Identifier, same_ident}
use Rattle.syntax_tree.specs.Names.{AreToldApart, with_new, with_symbol, with_ident}
use Rattle.syntax_tree.proofs.InternLaws.{bytes_told, ident_told}

module _ {A : Type 0} where
  -- what stands in front of a list stands in the list
  pub get_taken : (xs : List A) (k m : ℕ) → k ≤ length xs → m < k → slice_get (take k xs) m ≡ slice_get xs m
  get_taken [] k m le lt = absurd (omega (arith, le, lt))
  get_taken (x ∷ xs) k m le lt =
      let at : slice_get (take k (x ∷ xs)) m ≡ Some (get_or (take k (x ∷ xs)) m x) = slice_get-get_or (take k (x ∷ xs)) m x (omega (arith, lt, length-take-le k (x ∷ xs) le)) in
      at ∙ ap (λ (y : A). Some y) (get_or-take k (x ∷ xs) m x lt) ∙ sym (slice_get-get_or (x ∷ xs) m x (omega (arith, lt, le)))

  module _ (same : A → A → Bool) (tells : (x y : A) → same x y ≡ true → x ≡ y) where
    or_cases : (a b : Bool) → (a || b) ≡ true → (a ≡ true) ⊎ (b ≡ true)
    or_cases true b h = inl refl
    or_cases false b h = inr h

    place : (xs : List A) (x : A) → list_any (same x) xs ≡ true → (n : ℕ) × (slice_get xs n ≡ Some x)
    place [] x h = absurd cc
    place (y ∷ xs) x h =
        elim (or_cases (same x y) (list_any (same x) xs) h) [
          | inl e ↦ (zero, ap (λ (z : A). Some z) (sym (tells x y e)))
          | inr e ↦ let p = place xs x e in (suc p.0, p.1)
        ]

    -- the next thing of a list of things that differ is new
    pub next_new : (xs : List A) (k : ℕ) (x : A) → AreToldApart xs → slice_get xs k ≡ Some x → with_new same (take k xs) x ≡ take (k + 1) xs
    next_new xs k x apart at = by_test (list_any (same x) (take k xs)) refl
      where
        within : k < length xs
        within = slice_get_within xs k x at

        more : take (k + 1) xs ≡ take k xs ++ x ∷ []
        more = take_more xs k x within ∙ ap (λ (y : A). take k xs ++ y ∷ []) (get_or_from_slice_get xs k x x at)

        by_test : (b : Bool) → list_any (same x) (take k xs) ≡ b → with_new same (take k xs) x ≡ take (k + 1) xs
        by_test false e = ap (λ (b : Bool). cond b (take k xs) (take k xs ++ x ∷ [])) e ∙ sym more
        by_test true e =
            let p = place (take k xs) x e in
            let lt : p.0 < k = omega (arith, slice_get_within (take k xs) p.0 x p.1, length-take-le k xs (omega (arith, within))) in
            let same_place : p.0 ≡ k = apart p.0 k (omega (arith, lt, within)) (sym (get_taken xs k p.0 (omega (arith, within)) lt) ∙ p.1 ∙ sym at) in
            absurd (omega (arith, lt, same_place))

pub next_symbol : (xs : List (List ℕ)) (k : ℕ) (x : List ℕ) → AreToldApart xs → slice_get xs k ≡ Some x → with_symbol (take k xs) x ≡ take (k + 1) xs
next_symbol xs k x apart at = next_new bytes_eq bytes_told xs k x apart at

pub next_ident : (xs : List Identifier) (k : ℕ) (x : Identifier) → AreToldApart xs → slice_get xs k ≡ Some x → with_ident (take k xs) x ≡ take (k + 1) xs
next_ident xs k x apart at = next_new same_ident ident_told xs k x apart at
