-- The identifiers of data, of forms and of units, part by part, and the first one that passes.
use Rattle.std.proofs.Common.{◌≡◌, ℕ, zero, suc, ◌+◌, ◌==◌, List, [], ◌∷◌, ◌++◌, drop, slice_get, Bool, true, false, cond, Option, Some, None, refl, sym, ap, ◌∙◌, add-one}
use Rattle.scheme_model.specs.declared.Occ.{Occ}
use Rattle.scheme_model.specs.Program.{UnitResult}
use Rattle.program_answers.specs.Named.{names_in_heads}
use Rattle.read_documents.specs.Places.{AreHeads}
use Rattle.read_documents.specs.Readings.{Read}
use Rattle.scheme_model.specs.Sites.{first_where, names_in_document, or_else}
use Rattle.read_documents.specs.declared.heads.Head.{Head}

-- ---- the first that passes

module _ {A : Type 0} (f : A → Bool) where
  first_append : (xs ys : List A) → first_where f (xs ++ ys) ≡ or_else (first_where f xs) (first_where f ys)
  first_append [] ys = refl
  first_append (x ∷ xs) ys = go (f x) (first_append xs ys)
    where
      go : (b : Bool) → first_where f (xs ++ ys) ≡ or_else (first_where f xs) (first_where f ys) → cond b (Some x) (first_where f (xs ++ ys)) ≡ or_else (cond b (Some x) (first_where f xs)) (first_where f ys)
      go true e = refl
      go false e = e

  -- from a place on
  pub first_from : (xs : List A) (n : ℕ) (x : A) → slice_get xs n ≡ Some x → first_where f (drop n xs) ≡ cond (f x) (Some x) (first_where f (drop (suc n) xs))
  first_from [] n x at = cc
  first_from (y ∷ xs) zero x at = let same : y ≡ x = cc in ap (λ (z : A). cond (f z) (Some z) (first_where f xs)) same
  first_from (y ∷ xs) (suc n) x at = first_from xs n x at

module _ (document : ℕ) (f : Occ → Bool) where
  heads_from : (hs : List Head) (n : ℕ) (h : Head) → slice_get hs n ≡ Some h →
      first_where f (names_in_heads document (drop n hs)) ≡ or_else (first_where f (cond (h.document == document) h.names.items [])) (first_where f (names_in_heads document (drop (suc n) hs)))
  heads_from [] n h at = cc
  heads_from (g ∷ hs) zero h at =
      let same : g ≡ h = cc in
      first_append f (cond (g.document == document) g.names.items []) (names_in_heads document hs)
      ∙ ap (λ (x : Head). or_else (first_where f (cond (x.document == document) x.names.items [])) (first_where f (names_in_heads document hs))) same
  heads_from (g ∷ hs) (suc n) h at = heads_from hs n h at

  -- the unit at a place has the first, or those behind it have
  pub head_found : (hs : List Head) (n : ℕ) (h : Head) (o : Occ) (all : Option Occ) → slice_get hs n ≡ Some h → all ≡ first_where f (names_in_heads document (drop n hs)) →
      Some o ≡ first_where f (cond (h.document == document) h.names.items []) → Some o ≡ all
  head_found hs n h o all at before is = sym (before ∙ heads_from hs n h at ∙ ap (λ (x : Option Occ). or_else x (first_where f (names_in_heads document (drop (suc n) hs)))) (sym is))

  pub head_passed : (hs : List Head) (n : ℕ) (h : Head) (all : Option Occ) → slice_get hs n ≡ Some h → all ≡ first_where f (names_in_heads document (drop n hs)) →
      None ≡ first_where f (cond (h.document == document) h.names.items []) → all ≡ first_where f (names_in_heads document (drop (n + 1) hs))
  head_passed hs n h all at before is =
      before ∙ heads_from hs n h at ∙ ap (λ (x : Option Occ). or_else x (first_where f (names_in_heads document (drop (suc n) hs)))) (sym is)
      ∙ ap (λ k. first_where f (names_in_heads document (drop k hs))) (sym (add-one n))

-- the identifiers that the heads keep are those of the units
pub heads_names : (rs : List Read) (document k : ℕ) (hs : List Head) (us : List UnitResult) → AreHeads rs k hs us → names_in_heads document hs ≡ names_in_document document us
heads_names rs document k [] [] is = refl
heads_names rs document k [] (r ∷ us) is = absurd is
heads_names rs document k (h ∷ hs) [] is = absurd is
heads_names rs document k (h ∷ hs) (r ∷ us) is = λ i. cond (is.0.document i == document) (is.0.names i) [] ++ heads_names rs document (suc k) hs us is.1 i

-- one that begins at the offset, and else one that touches it
pub begun_first : (found : Occ) (a b : Option Occ) → Some found ≡ a → Some found ≡ or_else a b
begun_first found a b is = is ∙ go a is
  where
    go : (o : Option Occ) → Some found ≡ o → o ≡ or_else o b
    go None e = cc
    go (Some x) e = refl

pub touched_then : (a b other : Option Occ) → None ≡ a → other ≡ b → other ≡ or_else a b
touched_then a b other is same = same ∙ ap (λ (o : Option Occ). or_else o b) is
