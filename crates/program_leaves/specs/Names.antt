-- The names of trees, from left to right, with their places.
use Rattle.std.specs.Prelude.{List, [], ◌∷◌, ◌++◌}
use Rattle.scheme_model.specs.Trees.{Tree, name, atom, list, vector, Trees, no_trees, tree, Tail, proper, dotted}
use Rattle.scheme_model.specs.ExpansionFaults.{Named, named}
use Rattle.scheme_model.specs.Matching.{behind}

abbrev mutual
  pub names_in : {A : Type 0} → Tree A → List (Named A)
  names_in (name i o) = named i o ∷ []
  names_in (atom a o) = []
  names_in (list ts tail o) = names_among ts ++ names_behind tail
  names_in (vector ts o) = names_among ts

  pub names_among : {A : Type 0} → Trees A → List (Named A)
  names_among no_trees = []
  names_among (tree t ts) = names_in t ++ names_among ts

  pub names_behind : {A : Type 0} → Tail A → List (Named A)
  names_behind proper = []
  names_behind (dotted t) = names_in t

-- the parts and the tail of a list
abbrev pub list_parts : {A : Type 0} → Tree A → Trees A
list_parts (name i o) = no_trees
list_parts (atom a o) = no_trees
list_parts (list ts tail o) = ts
list_parts (vector ts o) = no_trees

abbrev pub list_end : {A : Type 0} → Tree A → Tail A
list_end (name i o) = proper
list_end (atom a o) = proper
list_end (list ts tail o) = tail
list_end (vector ts o) = proper

-- the names of a pattern behind its first part
abbrev pub pattern_names : {A : Type 0} → Tree A → List (Named A)
pattern_names t = names_among (behind 1 (list_parts t)) ++ names_behind (list_end t)
