-- How many forms are the same from the ends of two lists, xs they are counted one by one.
use Rattle.std.proofs.Common.{◌≡◌, ℕ, zero, suc, ◌+◌, ◌-◌, ◌<◌, ◌≤◌, min, List, [], ◌∷◌, map, Bool, true, false, cond, length, get_or, drop, refl, sym, ap, ◌∙◌, arith}
use Rattle.std.specs.Prelude.{reverse}
use Rattle.std.specs.Str.{bytes_eq}
use Rattle.std.proofs.lemmas.List.{drop_more, get_or-reverse, length-reverse}
use Rattle.std.proofs.Math.Seq.{drop-nil}
use Rattle.scheme_model.specs.Trees.{Tree}
use Rattle.unit_sources.specs.declared.units.UnitForm.{UnitForm}
use Rattle.carried_forms.specs.Alike.{same_tree}
use Rattle.form_pairs.specs.Fronts.{front_of}
use Rattle.carried_forms.specs.Paired.{FormText, common_front}
use Rattle.form_pairs.specs.Units.{form_as}

-- ---- one step

no_front : (xs : List UnitForm) → front_of xs [] ≡ 0
no_front [] = refl
no_front (a ∷ xs) = refl

stopped : (xs ys : List UnitForm) (n : ℕ) → min (length xs) (length ys) ≤ n → front_of (drop n xs) (drop n ys) ≡ 0
stopped [] ys n h = ap (λ (xs : List UnitForm). front_of xs (drop n ys)) (drop-nil n)
stopped (a ∷ xs) [] n h = ap (front_of (drop n (a ∷ xs))) (drop-nil n) ∙ no_front (drop n (a ∷ xs))
stopped (a ∷ xs) (b ∷ ys) zero h = absurd (omega (arith, h))
stopped (a ∷ xs) (b ∷ ys) (suc n) h = stopped xs ys n (omega (arith, h))

-- one is at its end
pub ended : (xs ys : List UnitForm) (most n : ℕ) → most ≡ min (length xs) (length ys) → n ≡ most → front_of xs ys ≡ n + front_of (drop n xs) (drop n ys) → most ≡ front_of xs ys
ended xs ys most n is here so_far = let none = stopped xs ys n (omega (arith, is, here)) in omega (arith, here, so_far, none)

pub ended_from_end : (xs ys : List UnitForm) (most n : ℕ) → most ≡ min (length xs) (length ys) → n ≡ most → front_of (reverse xs) (reverse ys) ≡ n + front_of (drop n (reverse xs)) (drop n (reverse ys)) →
    most ≡ front_of (reverse xs) (reverse ys)
ended_from_end xs ys most n is here so_far = ended (reverse xs) (reverse ys) most n (is ∙ sym (λ j. min (length-reverse xs j) (length-reverse ys j))) here so_far

-- the next two forms, and what is counted behind them
at_step : (xs ys : List UnitForm) (n : ℕ) (a b : UnitForm) (r : Bool) → drop n xs ≡ a ∷ drop (n + 1) xs → drop n ys ≡ b ∷ drop (n + 1) ys → r ≡ same_tree bytes_eq (form_as a) (form_as b) →
    front_of (drop n xs) (drop n ys) ≡ cond r (suc (front_of (drop (n + 1) xs) (drop (n + 1) ys))) 0
at_step xs ys n a b r there too same = (λ j. front_of (there j) (too j)) ∙ ap (λ (c : Bool). cond c (suc (front_of (drop (n + 1) xs) (drop (n + 1) ys))) 0) (sym same)

-- the nth form from the end
from_end : (xs : List UnitForm) (n : ℕ) (a : UnitForm) → n < length xs → a ≡ get_or xs (length xs - 1 - n) a → drop n (reverse xs) ≡ a ∷ drop (n + 1) (reverse xs)
from_end xs n a lt at =
    drop_more (reverse xs) n a (omega (arith, lt, length-reverse xs)) ∙ ap (λ (x : UnitForm). x ∷ drop (n + 1) (reverse xs)) (get_or-reverse xs n a lt ∙ sym at)

module _ (xs ys : List UnitForm) (n : ℕ) (a b : UnitForm) (r : Bool) (first : n < length xs) (second : n < length ys) (there : a ≡ get_or xs (length xs - 1 - n) a) (too : b ≡ get_or ys (length ys - 1 - n) b)
    (same : r ≡ same_tree bytes_eq (form_as a) (form_as b)) (so_far : front_of (reverse xs) (reverse ys) ≡ n + front_of (drop n (reverse xs)) (drop n (reverse ys))) where
  step : front_of (drop n (reverse xs)) (drop n (reverse ys)) ≡ cond r (suc (front_of (drop (n + 1) (reverse xs)) (drop (n + 1) (reverse ys)))) 0
  step = at_step (reverse xs) (reverse ys) n a b r (from_end xs n a first there) (from_end ys n b second too) same

  pub same_from_end : r ≡ true → front_of (reverse xs) (reverse ys) ≡ (n + 1) + front_of (drop (n + 1) (reverse xs)) (drop (n + 1) (reverse ys))
  same_from_end is =
      let more = step ∙ ap (λ (c : Bool). cond c (suc (front_of (drop (n + 1) (reverse xs)) (drop (n + 1) (reverse ys)))) 0) is in omega (arith, so_far, more)

  pub other_from_end : r ≡ false → n ≡ front_of (reverse xs) (reverse ys)
  other_from_end is =
      let none = step ∙ ap (λ (c : Bool). cond c (suc (front_of (drop (n + 1) (reverse xs)) (drop (n + 1) (reverse ys)))) 0) is in omega (arith, so_far, none)

-- ---- the fronts of forms xs they are paired

abbrev trees_front : List (Tree (List ℕ)) → List (Tree (List ℕ)) → ℕ
trees_front [] us = 0
trees_front (t ∷ ts) [] = 0
trees_front (t ∷ ts) (u ∷ us) = cond (same_tree bytes_eq t u) (suc (trees_front ts us)) 0

abbrev pub tree_in : FormText → Tree (List ℕ)
tree_in f = f.tree

by_trees : (fs gs : List FormText) → common_front fs gs ≡ trees_front (map tree_in fs) (map tree_in gs)
by_trees [] gs = refl
by_trees (f ∷ fs) [] = refl
by_trees (f ∷ fs) (g ∷ gs) = ap (λ (n : ℕ). cond (same_tree bytes_eq f.tree g.tree) (suc n) 0) (by_trees fs gs)

by_forms : (fs gs : List UnitForm) → front_of fs gs ≡ trees_front (map form_as fs) (map form_as gs)
by_forms [] gs = refl
by_forms (f ∷ fs) [] = refl
by_forms (f ∷ fs) (g ∷ gs) = ap (λ (n : ℕ). cond (same_tree bytes_eq (form_as f) (form_as g)) (suc n) 0) (by_forms fs gs)

-- forms with the trees of others are xs many from the front on
pub same_front : (fs gs : List FormText) (xs ys : List UnitForm) → map tree_in fs ≡ map form_as xs → map tree_in gs ≡ map form_as ys → common_front fs gs ≡ front_of xs ys
same_front fs gs xs ys first second = by_trees fs gs ∙ (λ j. trees_front (first j) (second j)) ∙ sym (by_forms xs ys)
