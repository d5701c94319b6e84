-- Lists that grow, by what their items stand for.
use Rattle.std.proofs.Common.{◌≡◌, ℕ, ◌+◌, ◌<◌, ◌≤◌, List, [], ◌∷◌, ◌++◌, map, length, take, get_or, sym, ap, ◌∙◌, append_assoc}
use Rattle.std.specs.List.{flat_map}
use Rattle.std.proofs.lemmas.List.{append-nil, map-append, take_more, take_all}
use Rattle.std.proofs.lemmas.Grind.{flat_map-append}

module _ {L S : Type 0} (seen : L → S) where
  pub grows_by_one : (old new : List L) (l : L) → new ≡ old ++ l ∷ [] → map seen new ≡ map seen old ++ seen l ∷ []
  grows_by_one old new l e = ap (map seen) e ∙ map-append seen old (l ∷ [])

  pub grows_by_none : (old : List L) (whole : List S) → whole ≡ [] → map seen old ≡ map seen old ++ whole
  grows_by_none old whole e = sym (append-nil (map seen old)) ∙ ap (λ (q : List S). map seen old ++ q) (sym e)

  pub grows_as : (old new : List L) (xs whole : List S) → map seen new ≡ map seen old ++ xs → whole ≡ xs → map seen new ≡ map seen old ++ whole
  grows_as old new xs whole h e = h ∙ ap (λ (q : List S). map seen old ++ q) (sym e)

  pub grows_twice : (old mid new : List L) (xs ys whole : List S) → map seen mid ≡ map seen old ++ xs → map seen new ≡ map seen mid ++ ys → whole ≡ xs ++ ys → map seen new ≡ map seen old ++ whole
  grows_twice old mid new xs ys whole h k e =
      k ∙ ap (λ (q : List S). q ++ ys) h ∙ append_assoc (map seen old) xs ys ∙ ap (λ (q : List S). map seen old ++ q) (sym e)

module _ {X Y : Type 0} (f : X → List Y) where
  pub flat_more : (xs : List X) (i : ℕ) (x : X) → i < length xs → x ≡ get_or xs i x → flat_map f (take (i + 1) xs) ≡ flat_map f (take i xs) ++ f x
  flat_more xs i x lt is =
      ap (flat_map f) (take_more xs i x lt) ∙ flat_map-append f (take i xs) (get_or xs i x ∷ []) ∙ ap (λ (q : List Y). flat_map f (take i xs) ++ q) (append-nil (f (get_or xs i x)) ∙ ap f (sym is))

  pub flat_all : (xs : List X) (n : ℕ) → length xs ≤ n → flat_map f (take n xs) ≡ flat_map f xs
  flat_all xs n le = ap (flat_map f) (take_all n xs le)

  -- of items that are copied
  pub flat_next : (xs : List X) (i : ℕ) (d : X) → i < length xs → flat_map f (take (i + 1) xs) ≡ flat_map f (take i xs) ++ f (get_or xs i d)
  flat_next xs i d lt = ap (flat_map f) (take_more xs i d lt) ∙ flat_map-append f (take i xs) (get_or xs i d ∷ []) ∙ ap (λ (q : List Y). flat_map f (take i xs) ++ q) (append-nil (f (get_or xs i d)))
