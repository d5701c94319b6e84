-- The trees that steps make.
use Rattle.std.specs.Prelude.{ℕ, ◌-◌, List, [], ◌∷◌, ◌++◌, length, take, drop, None}
use Rattle.scheme_model.specs.Trees.{Boolean, Tree, name, atom, list, proper, dotted}
use Rattle.scheme_model.specs.Measures.{trees_size}
use Rattle.scheme_model.specs.Ident.{Ident as Identifier, Written}
use Rattle.scheme_model.specs.Program.{prelude_unit}
use Rattle.datum_reader.specs.Seeding.{trees_from}
use Rattle.base_library.specs.declared.sketch.Step.{Step}
use Rattle.base_library.specs.declared.sketch.Step.TheVariants as step

-- an identifier of the prelude
abbrev pub name_tree : List ℕ → Tree Identifier
name_tree s = name (Written prelude_unit s) None

-- what a step leaves of a row
abbrev pub left_by : List (Tree Identifier) → Step → List (Tree Identifier)
left_by ts (step.Name s) = ts
left_by ts (step.Truth b) = ts
left_by ts (step.List n) = take (length ts - n) ts
left_by ts (step.Dotted n s) = take (length ts - n) ts

-- the tree that it puts at the end
abbrev pub tree_by : List (Tree Identifier) → Step → Tree Identifier
tree_by ts (step.Name s) = name_tree s.now
tree_by ts (step.Truth b) = atom (Boolean b) None
tree_by ts (step.List n) = list (trees_from (drop (length ts - n) ts)) proper None
tree_by ts (step.Dotted n s) = list (trees_from (drop (length ts - n) ts)) (dotted (name_tree s.now)) None

abbrev pub after : List (Tree Identifier) → Step → List (Tree Identifier)
after ts s = left_by ts s ++ tree_by ts s ∷ []

abbrev pub after_all : List (Tree Identifier) → List Step → List (Tree Identifier)
after_all ts [] = ts
after_all ts (s ∷ ss) = after_all (after ts s) ss

-- the trees that steps make
abbrev pub made : List Step → List (Tree Identifier)
made ss = after_all [] ss

-- how many nodes they have
abbrev pub row_size : List (Tree Identifier) → ℕ
row_size ts = trees_size (trees_from ts)
