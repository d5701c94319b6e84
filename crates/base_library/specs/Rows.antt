-- What a row of trees is that steps have made, and how a step ends.
use Rattle.std.specs.Prelude.{◌≡◌, ◌+◌, ◌≤◌, List, [], ◌∷◌, ◌++◌, Result, Ok, Err}
use Rattle.ls_base.specs.Limits.{max_tree_depth}
use Rattle.scheme_model.specs.Trees.{Tree}
use Rattle.scheme_model.specs.Ident.{Ident as Identifier}
use Rattle.syntax_tree.specs.Interned.{all_interned}
use Rattle.syntax_tree.specs.Standing.{AllStand}
use Rattle.syntax_tree.specs.Kept.{numbers}
use Rattle.syntax_tree.specs.Works.{IsNodeOf, CanNameParts, live_count}
use Rattle.syntax_tree.specs.declared.trees.Work.{Work}
use Rattle.syntax_tree.specs.declared.trees.nodes.Tree as code
use Rattle.syntax_tree.specs.declared.trees.nodes.Node.{Node}
use Rattle.syntax_tree.specs.declared.trees.table.Region.{Region}
use Rattle.syntax_tree.specs.declared.trees.faults.PoolFault.{PoolFault}
use Rattle.datum_reader.specs.Seeding.{trees_from, Grows, Begins, Fails, AllLie}
use Rattle.base_library.specs.declared.sketch.Step.{Step}
use Rattle.base_library.specs.Sketches.{left_by, tree_by, after, row_size}

-- since the start exactly these trees were added, and these are their numbers
pub record Holds (start now : Work) (region : Region) (ts : List (Tree Identifier)) (ns : List code.Tree) : Type 0 where
  pub grows : Grows start now region
  pub names : now.symbols ≡ all_interned (trees_from ts) start.symbols
  pub nodes : live_count now ≡ live_count start + row_size ts
  pub stand : AllStand now.trees.nodes now.symbols (trees_from ts) (numbers ns)
  pub lie : AllLie now region (numbers ns)

-- of this row all was added but the outermost node of its last tree
pub record IsReady (start now : Work) (region : Region) (left : List (Tree Identifier)) (last : Tree Identifier) (ns : List code.Tree) (node : Node) : Type 0 where
  pub grows : Grows start now region
  pub names : now.symbols ≡ all_interned (trees_from (left ++ last ∷ [])) start.symbols
  pub nodes : live_count now + 1 ≡ live_count start + row_size (left ++ last ∷ [])
  pub stand : AllStand now.trees.nodes now.symbols (trees_from left) (numbers ns)
  pub lie : AllLie now region (numbers ns)
  pub of_last : IsNodeOf now node last
  pub can_name : CanNameParts now region node

-- a part of the row was added
abbrev pub Breaks : Work → Work → Region → List (Tree Identifier) → PoolFault → Type 0
Breaks start now region ts e = Begins start now region (all_interned (trees_from ts) start.symbols) (row_size ts + 1) × Fails start (row_size ts) e

-- how making the node of a step ends, and how the step ends
abbrev pub Readies : Work → Work → Region → List (Tree Identifier) → Step → List code.Tree → Result Node PoolFault → Type 0
Readies start now region ts step ns (Ok node) = IsReady start now region (left_by ts step) (tree_by ts step) ns node
Readies start now region ts step ns (Err e) = Breaks start now region (after ts step) e

abbrev pub Takes : Work → Work → Region → List (Tree Identifier) → Step → List code.Tree → Result code.Tree PoolFault → Type 0
Takes start now region ts step ns (Ok n) = Holds start now region (after ts step) (ns ++ n ∷ [])
Takes start now region ts step ns (Err e) = Breaks start now region (after ts step) e

-- the row that a step leaves is small
abbrev pub CanTake : Work → Region → Step → List code.Tree → Type 0
CanTake now region step ns =
    (start : Work) × (ts : List (Tree Identifier)) × Holds start now region ts ns × (row_size (after ts step) ≤ max_tree_depth)
