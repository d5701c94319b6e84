-- The nodes that live, by number, each with the region that it lies in and its rank there.
use Rattle.std.specs.Prelude.{◌≡◌, ℕ, List, [], ◌∷◌, Option, Some, None}
use Rattle.std.specs.Option.{option_map}
use Rattle.std.specs.FinMap as map
use Rattle.node_pool.specs.NodePool as pool
use Rattle.scheme_model.specs.declared.Occ.{Occ}
use Rattle.syntax_tree.specs.declared.trees.nodes.Leaf.{Leaf}
pub use Rattle.node_pool.specs.NodePool.{IsPut, back_to}

-- a node: a leaf, a list with its tail, or a vector. The parts are numbers of nodes
pub data Shape : Type 0 where
  leaf_shape : Leaf → Option Occ → Shape
  list_shape : List ℕ → Option ℕ → Option Occ → Shape
  vector_shape : List ℕ → Option Occ → Shape

-- the numbers of its parts
abbrev pub parts_of : Shape → List ℕ
parts_of (leaf_shape leaf o) = []
parts_of (list_shape items None o) = items
parts_of (list_shape items (Some n) o) = n ∷ items
parts_of (vector_shape items o) = items

-- a node that lives, with its region and its rank
abbrev pub Lived : Type 0
Lived = pool.Lived Shape

-- a map from the numbers of the nodes that live
abbrev pub Nodes : Type 0
Nodes = pool.Nodes Shape

abbrev pub shape_at : Nodes → ℕ → Option Shape
shape_at nodes n = option_map (λ (l : Lived). l.node) (map.get nodes n)

abbrev pub region_at : Nodes → ℕ → Option ℕ
region_at nodes n = option_map (λ (l : Lived). l.region) (map.get nodes n)

-- each node that lives lives on at its number, as it is and where it lies
abbrev pub KeepsNodes : Nodes → Nodes → Type 0
KeepsNodes old new = (n : ℕ) (l : Lived) → map.get old n ≡ Some l → map.get new n ≡ Some l
