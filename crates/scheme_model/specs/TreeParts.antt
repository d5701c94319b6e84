-- The parts of trees.
use Rattle.std.specs.Prelude.{ℕ, ◌+◌, Option}
use Rattle.scheme_model.specs.declared.Occ.{Occ}
use Rattle.scheme_model.specs.Trees.{Tree, name, atom, list, vector, Trees, no_trees, tree}

abbrev pub append : {A : Type 0} → Trees A → Trees A → Trees A
append no_trees us = us
append (tree t ts) us = tree t (append ts us)

abbrev pub count : {A : Type 0} → Trees A → ℕ
count no_trees = 0
count (tree t ts) = count ts + 1

-- the place of a tree
abbrev pub occ_of : {A : Type 0} → Tree A → Option Occ
occ_of (name i o) = o
occ_of (atom a o) = o
occ_of (list ts tail o) = o
occ_of (vector ts o) = o
