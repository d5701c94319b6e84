-- The nodes of the code with their measures, and what they are as shapes.
use Rattle.std.specs.Prelude.{◌≡◌, ℕ, ◌+◌, ◌≤◌, max, List, [], ◌∷◌, map, sum_by, slice_get, Some, IsSome, Vec}
use Rattle.std.specs.declared.alloc.Global.{Global}
use Rattle.std.specs.List.{AllByRecursion}
use Rattle.std.specs.Option.{option_map, option_map_or}
use Rattle.std.specs.Ordering.{nat_cmp}
use Rattle.std.specs.FinMap as finite
use Rattle.node_pool.specs.NodePool as pool
use Rattle.ls_base.specs.Limits.{max_tree_nodes, max_tree_depth}
use Rattle.syntax_tree.specs.Nodes.{Shape, leaf_shape, list_shape, vector_shape, parts_of, Lived, Nodes}
use Rattle.syntax_tree.specs.Seen.{seen}
use Rattle.syntax_tree.specs.Regions.{Regions, IsClosed, ArePartsFirst}
use Rattle.syntax_tree.specs.declared.trees.nodes.Tree.{Tree}
use Rattle.syntax_tree.specs.declared.trees.nodes.Node.{Node}
use Rattle.syntax_tree.specs.declared.trees.nodes.Node.TheVariants as code
use Rattle.syntax_tree.specs.declared.trees.measures.Kept.{Kept}

abbrev pub numbers : List Tree → List ℕ
numbers ts = map (λ t. t.number) ts

abbrev pub shape_of : Node → Shape
shape_of (code.Atom leaf o) = leaf_shape leaf o
shape_of (code.List items tail o) = list_shape (numbers items.items) (option_map (λ t. t.number) tail) o
shape_of (code.Vector items o) = vector_shape (numbers items.items) o

-- the nodes in the pool, with their measures
abbrev pub KeptNodes : Type 0
KeptNodes = pool.Nodes Kept

-- and without them
abbrev pub lived_as : ℕ → pool.Lived Kept → Lived
lived_as n l = record { node = shape_of l.node.node; region = l.region; rank = l.rank }

abbrev pub nodes_of : KeptNodes → Nodes
nodes_of ns = seen lived_as ns

-- the list of a region's number: of those that were said to outlive it. Behind the last list there is none
abbrev pub outers_at : List (Vec ℕ Global) → ℕ → List ℕ
outers_at lists r = option_map_or (λ (v : Vec ℕ Global). v.items) (slice_get lists r) []

-- the open regions, each with its list
abbrev pub regions_of : List (Vec ℕ Global) → finite.FinMap nat_cmp ℕ → Regions
regions_of lists counts = seen (λ r count. outers_at lists r) counts

-- all of these are numbers at which nodes live
abbrev pub AllLive : KeptNodes → List ℕ → Type 0
AllLive ns parts = AllByRecursion (λ n. IsSome (finite.get ns n)) parts

-- the size and the depth that are kept at a number
abbrev pub size_at : KeptNodes → ℕ → ℕ
size_at ns n = option_map_or (λ (l : pool.Lived Kept). l.node.size) (finite.get ns n) 0

abbrev pub depth_at : KeptNodes → ℕ → ℕ
depth_at ns n = option_map_or (λ (l : pool.Lived Kept). l.node.depth) (finite.get ns n) 0

-- the size of a node by the sizes of its parts
abbrev pub shape_size : (ℕ → ℕ) → Shape → ℕ
shape_size size s = 1 + sum_by size (parts_of s)

-- the greatest depth of some nodes
abbrev pub deepest : (ℕ → ℕ) → List ℕ → ℕ
deepest depth [] = 0
deepest depth (n ∷ ns) = max (depth n) (deepest depth ns)

-- the depth of a node by the depths of its parts
abbrev pub shape_depth : (ℕ → ℕ) → Shape → ℕ
shape_depth depth s = 1 + deepest depth (parts_of s)

-- the invariant of the nodes: the measures of each are those of its parts and within the limits
pub record AreKept (ns : KeptNodes) : Type 0 where
  pub sizes : (n : ℕ) (l : pool.Lived Kept) → finite.get ns n ≡ Some l → l.node.size ≡ shape_size (size_at ns) (shape_of l.node.node)
  pub depths : (n : ℕ) (l : pool.Lived Kept) → finite.get ns n ≡ Some l → l.node.depth ≡ shape_depth (depth_at ns) (shape_of l.node.node)
  pub small : (n : ℕ) (l : pool.Lived Kept) → finite.get ns n ≡ Some l → (l.node.size ≤ max_tree_nodes) × (l.node.depth ≤ max_tree_depth)

-- and of the regions: each node names only what the nodes of its region may name, and in its region only what was put before it
pub record IsTable (ns : KeptNodes) (regions : Regions) : Type 0 where
  pub kept : AreKept ns
  pub closed : IsClosed (nodes_of ns) regions
  pub first : ArePartsFirst (nodes_of ns)
