-- How many nodes a tree has, and how deep it is. A leaf counts 1, a list or a vector 1 and its parts; the outermost node has
-- depth 1, and each part is one deeper than the node that holds it.
use Rattle.std.specs.Prelude.{ℕ, ◌+◌, max}
use Rattle.scheme_model.specs.Trees.{Tree, name, atom, list, vector, Trees, no_trees, tree, Tail, proper, dotted}

abbrev mutual
  pub tree_size : {A : Type 0} → Tree A → ℕ
  tree_size (name i o) = 1
  tree_size (atom a o) = 1
  tree_size (list ts tail o) = 1 + (trees_size ts + tail_size tail)
  tree_size (vector ts o) = 1 + trees_size ts

  pub trees_size : {A : Type 0} → Trees A → ℕ
  trees_size no_trees = 0
  trees_size (tree t ts) = tree_size t + trees_size ts

  pub tail_size : {A : Type 0} → Tail A → ℕ
  tail_size proper = 0
  tail_size (dotted t) = tree_size t

abbrev mutual
  pub tree_depth : {A : Type 0} → Tree A → ℕ
  tree_depth (name i o) = 1
  tree_depth (atom a o) = 1
  tree_depth (list ts tail o) = 1 + max (trees_depth ts) (tail_depth tail)
  tree_depth (vector ts o) = 1 + trees_depth ts

  pub trees_depth : {A : Type 0} → Trees A → ℕ
  trees_depth no_trees = 0
  trees_depth (tree t ts) = max (tree_depth t) (trees_depth ts)

  pub tail_depth : {A : Type 0} → Tail A → ℕ
  tail_depth proper = 0
  tail_depth (dotted t) = tree_depth t
