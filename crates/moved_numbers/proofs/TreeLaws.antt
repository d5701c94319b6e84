-- Trees under other numbers: their symbols and their holes.
use Rattle.std.proofs.Common.{◌≡◌, ℕ, ◌+◌, List, ◌++◌, Option, Some, None, refl, ap, ◌∙◌}
use Rattle.scheme_model.specs.declared.Occ.{Occ}
use Rattle.scheme_model.specs.Trees.{Tree, name, atom, list, vector, Trees, no_trees, tree, Tail, proper, dotted, map_tree}
use Rattle.scheme_model.specs.Ident.{Ident, Written, Inserted, symbol_of}
use Rattle.scheme_model.specs.Cores.{weight, weights, tail_weight, hole_weight}
use Rattle.scheme_model.specs.Holes.{places_in, places_among, places_behind, hole_places, AreLike, IsTailLike, FillsHole, HasHoles}
use Rattle.renumbering_laws.specs.Moving.{move_tree, move_trees, move_tail}
use Rattle.renumbering_laws.specs.Renumbering.{Renumbering, place, ident, change, places_of}
use Rattle.renumbering_laws.proofs.Turned.{tree_turned}

module _ (r : Renumbering) where
  same_symbol : (i : Ident) → symbol_of (ident r i) ≡ symbol_of i
  same_symbol (Written u s) = refl
  same_symbol (Inserted i k) = same_symbol i

  pub symbols_there : (t : Tree Ident) → map_tree symbol_of (move_tree (change r) t) ≡ move_tree (places_of r) (map_tree symbol_of t)
  symbols_there t = tree_turned Ident Ident (List ℕ) (List ℕ) (place r) (ident r) (λ s. s) symbol_of symbol_of same_symbol t

  -- ---- holes

  module _ {A : Type 0} (of : A → ℕ) where
    mutual
      weight_there : (t : Tree A) → weight of (move_tree (places_of r) t) ≡ weight of t
      weight_there (name i o) = refl
      weight_there (atom a o) = refl
      weight_there (list ts tail o) = let a = weights_there ts in let b = tail_weight_there tail in λ j. a j + b j + 1
      weight_there (vector ts o) = ap (λ (n : ℕ). n + 1) (weights_there ts)

      weights_there : (ts : Trees A) → weights of (move_trees (places_of r) ts) ≡ weights of ts
      weights_there no_trees = refl
      weights_there (tree t ts) = let a = weight_there t in let b = weights_there ts in λ j. a j + b j

      tail_weight_there : (tail : Tail A) → tail_weight of (move_tail (places_of r) tail) ≡ tail_weight of tail
      tail_weight_there proper = refl
      tail_weight_there (dotted t) = weight_there t

    mutual
      places_there : (n : ℕ) (t : Tree A) → places_in of n (move_tree (places_of r) t) ≡ places_in of n t
      places_there n (name i o) = refl
      places_there n (atom a o) = refl
      places_there n (list ts tail o) =
          let a = among_there (n + 1) ts in let w = weights_there ts in
          (λ j. a j ++ places_behind of (n + 1 + w j) (move_tail (places_of r) tail)) ∙ ap (λ (l : List ℕ). places_among of (n + 1) ts ++ l) (behind_there (n + 1 + weights of ts) tail)
      places_there n (vector ts o) = among_there (n + 1) ts

      among_there : (n : ℕ) (ts : Trees A) → places_among of n (move_trees (places_of r) ts) ≡ places_among of n ts
      among_there n no_trees = refl
      among_there n (tree t ts) =
          let a = places_there n t in let w = weight_there t in
          (λ j. a j ++ places_among of (n + w j) (move_trees (places_of r) ts)) ∙ ap (λ (l : List ℕ). places_in of n t ++ l) (among_there (n + weight of t) ts)

      behind_there : (n : ℕ) (tail : Tail A) → places_behind of n (move_tail (places_of r) tail) ≡ places_behind of n tail
      behind_there n proper = refl
      behind_there n (dotted t) = places_there n t

  pub hole_places_there : {A : Type 0} (h : Tree (Option A)) → hole_places (move_tree (places_of r) h) ≡ hole_places h
  hole_places_there h = places_there hole_weight 0 h

  fills_there : (t : Tree Ident) (c : Option (List ℕ)) (o : Option Occ) → FillsHole symbol_of t c o → FillsHole symbol_of (move_tree (change r) t) c (place r o)
  fills_there t None o h = tt
  fills_there t (Some s) o h = (ident r h.0, ap (move_tree (change r)) h.1, same_symbol h.0 ∙ h.2)

  mutual
    pub holes_there : (t : Tree Ident) (h : Tree (Option (List ℕ))) → HasHoles symbol_of t h → HasHoles symbol_of (move_tree (change r) t) (move_tree (places_of r) h)
    holes_there t (name c o) h = fills_there t c o h
    holes_there t (atom a o) h = ap (move_tree (change r)) h
    holes_there t (list us end o) h = (move_trees (change r) h.0, move_tail (change r) h.1, ap (move_tree (change r)) h.2, like_there h.0 us h.3, tail_like_there h.1 end h.4)
    holes_there t (vector us o) h = (move_trees (change r) h.0, ap (move_tree (change r)) h.1, like_there h.0 us h.2)

    like_there : (ts : Trees Ident) (us : Trees (Option (List ℕ))) → AreLike (FillsHole symbol_of) ts us → AreLike (FillsHole symbol_of) (move_trees (change r) ts) (move_trees (places_of r) us)
    like_there ts no_trees h = ap (move_trees (change r)) h
    like_there ts (tree u us) h = (move_tree (change r) h.0, move_trees (change r) h.1, ap (move_trees (change r)) h.2, holes_there h.0 u h.3, like_there h.1 us h.4)

    tail_like_there : (tail : Tail Ident) (end : Tail (Option (List ℕ))) → IsTailLike (FillsHole symbol_of) tail end → IsTailLike (FillsHole symbol_of) (move_tail (change r) tail) (move_tail (places_of r) end)
    tail_like_there tail proper h = ap (move_tail (change r)) h
    tail_like_there tail (dotted u) h = (move_tree (change r) h.0, ap (move_tail (change r)) h.1, holes_there h.0 u h.2)
