-- The names of data with holes that stand in no hole, and how far a walk over such a datum is.
use Rattle.std.specs.Prelude.{ℕ, ◌≤◌, ◌==◌, List, [], ◌∷◌, ◌++◌, drop, Bool, false, Option, Some, None}
use Rattle.std.specs.List.{AllByRecursion}
use Rattle.scheme_model.specs.declared.Occ.{Occ}
use Rattle.scheme_model.specs.Trees.{Tree, name, atom, list, vector, Trees, no_trees, tree, Tail, proper, dotted}
use Rattle.program_leaves.specs.declared.holes.Holes.{Holes}

-- the places of the names outside of holes, from left to right
abbrev mutual
  pub occs_in : Tree (Option (List ℕ)) → List (Option Occ)
  occs_in (name None o) = []
  occs_in (name (Some i) o) = o ∷ []
  occs_in (atom a o) = []
  occs_in (list ts tail o) = occs_among ts ++ occs_behind tail
  occs_in (vector ts o) = occs_among ts

  pub occs_among : Trees (Option (List ℕ)) → List (Option Occ)
  occs_among no_trees = []
  occs_among (tree t ts) = occs_in t ++ occs_among ts

  pub occs_behind : Tail (Option (List ℕ)) → List (Option Occ)
  occs_behind proper = []
  occs_behind (dotted t) = occs_in t

-- the places of the holes that are still to come
abbrev pub left : Holes → List ℕ
left s = drop s.passed s.places.now

abbrev pub is_next : List ℕ → ℕ → Bool
is_next [] n = false
is_next (p ∷ ps) n = p == n

abbrev pub behind_first : List ℕ → List ℕ
behind_first [] = []
behind_first (p ∷ ps) = ps

-- no hole comes before so many nodes
abbrev pub AllFrom : ℕ → List ℕ → Type 0
AllFrom n ps = AllByRecursion (λ p. n ≤ p) ps
