-- The places of holes are those of the definition.
use Rattle.std.proofs.Common.{◌≡◌, ℕ, ◌+◌, List, ◌++◌, Some, None, Option, refl, sym, ap, ◌∙◌, arith}
use Rattle.scheme_model.specs.Trees.{Tree, name, atom, list, vector, Trees, no_trees, tree, Tail, proper, dotted}
use Rattle.scheme_model.specs.Cores.{hole_weight, weight, weights, tail_weight}
use Rattle.scheme_model.specs.Holes.{places_in, places_among, places_behind, hole_places}
use Rattle.scheme_model.specs.Ident.{Ident as Identifier}
use Rattle.core_forms.specs.Marks.{nodes_in, nodes_among, nodes_behind, passed_in, places_from}
use Rattle.core_forms.proofs.Holes.{places_both, passed_both}

mutual
  weight_is : (h : Tree (Option Identifier)) → weight hole_weight h ≡ passed_in (nodes_in h)
  weight_is (name None o) = refl
  weight_is (name (Some i) o) = refl
  weight_is (atom a o) = refl
  weight_is (list ts tail o) = omega (arith, weights_are ts, tail_weight_is tail, passed_both (nodes_among ts) (nodes_behind tail))
  weight_is (vector ts o) = omega (arith, weights_are ts)

  weights_are : (hs : Trees (Option Identifier)) → weights hole_weight hs ≡ passed_in (nodes_among hs)
  weights_are no_trees = refl
  weights_are (tree h hs) = omega (arith, weight_is h, weights_are hs, passed_both (nodes_in h) (nodes_among hs))

  tail_weight_is : (tail : Tail (Option Identifier)) → tail_weight hole_weight tail ≡ passed_in (nodes_behind tail)
  tail_weight_is proper = refl
  tail_weight_is (dotted h) = weight_is h

mutual
  places_are : (n : ℕ) (h : Tree (Option Identifier)) → places_in hole_weight n h ≡ places_from n (nodes_in h)
  places_are n (name None o) = refl
  places_are n (name (Some i) o) = refl
  places_are n (atom a o) = refl
  places_are n (list ts tail o) =
      ap (λ (ms : List ℕ). ms ++ places_behind hole_weight (n + 1 + weights hole_weight ts) tail) (places_among_are (n + 1) ts)
      ∙ ap (λ (ms : List ℕ). places_from (n + 1) (nodes_among ts) ++ ms) (places_behind_are (n + 1 + weights hole_weight ts) tail)
      ∙ ap (λ (m : ℕ). places_from (n + 1) (nodes_among ts) ++ places_from (n + 1 + m) (nodes_behind tail)) (weights_are ts)
      ∙ sym (places_both (n + 1) (nodes_among ts) (nodes_behind tail))
  places_are n (vector ts o) = places_among_are (n + 1) ts

  places_among_are : (n : ℕ) (hs : Trees (Option Identifier)) → places_among hole_weight n hs ≡ places_from n (nodes_among hs)
  places_among_are n no_trees = refl
  places_among_are n (tree h hs) =
      ap (λ (ms : List ℕ). ms ++ places_among hole_weight (n + weight hole_weight h) hs) (places_are n h)
      ∙ ap (λ (ms : List ℕ). places_from n (nodes_in h) ++ ms) (places_among_are (n + weight hole_weight h) hs)
      ∙ ap (λ (m : ℕ). places_from n (nodes_in h) ++ places_from (n + m) (nodes_among hs)) (weight_is h)
      ∙ sym (places_both n (nodes_in h) (nodes_among hs))

  places_behind_are : (n : ℕ) (tail : Tail (Option Identifier)) → places_behind hole_weight n tail ≡ places_from n (nodes_behind tail)
  places_behind_are n proper = refl
  places_behind_are n (dotted h) = places_are n h

pub hole_places_are : (h : Tree (Option Identifier)) → hole_places h ≡ places_from 0 (nodes_in h)
hole_places_are h = places_are 0 h
