-- What contracts say of the trees in a work.
use Rattle.std.specs.Prelude.{◌≡◌, ◌⊎◌, ℕ, ◌<◌, Option, Some, None}
use Rattle.std.specs.FinMap as map
use Rattle.scheme_model.specs.Trees.{Tree}
use Rattle.scheme_model.specs.Ident.{Ident as Identifier}
use Rattle.syntax_tree.specs.Names.{Names}
use Rattle.syntax_tree.specs.Nodes.{Shape, Lived, shape_at, region_at}
use Rattle.syntax_tree.specs.Regions.{IsOpenIn, count_at, Outlives, MayName, MayNameParts}
use Rattle.syntax_tree.specs.Standing.{Stands, IsNode}
use Rattle.syntax_tree.specs.Kept.{shape_of}
use Rattle.syntax_tree.specs.Added.{IsNodeOfSmall}
use Rattle.syntax_tree.specs.declared.trees.Work.{Work}
use Rattle.syntax_tree.specs.declared.trees.nodes.Node.{Node}
use Rattle.syntax_tree.specs.declared.trees.nodes.Tree as code
use Rattle.syntax_tree.specs.declared.trees.table.Region.{Region}
use Rattle.node_pool.specs.declared.pool.Mark.{Mark}

-- the number stands for this tree
abbrev pub StandsFor : Work → code.Tree → Tree Identifier → Type 0
StandsFor work n t = Stands work.trees.nodes work.symbols t n.number

-- the number stands: its node and all nodes below it live
abbrev pub IsStanding : Work → code.Tree → Type 0
IsStanding work n = (t : Tree Identifier) × StandsFor work n t

-- the node's parts stand for the parts of this tree
abbrev pub IsNodeOf : Work → Node → Tree Identifier → Type 0
IsNodeOf work node t = IsNode work.trees.nodes work.symbols (shape_of node) t

-- the node's parts stand, a tail is no list, and the tree has at most 4,194,304 nodes and a depth of at most 1,000
abbrev pub CanAdd : Work → Node → Type 0
CanAdd work node = IsNodeOfSmall work.trees.nodes work.symbols (shape_of node)

-- how many nodes live
abbrev pub live_count : Work → ℕ
live_count work = map.len work.trees.nodes

-- the node that lives at a number
abbrev pub node_at : Work → code.Tree → Option Shape
node_at work n = shape_at work.trees.nodes n.number

-- ---- regions

-- the work opened this region, no other work did, and it wasn't let go
abbrev pub IsOpened : Work → Region → Type 0
IsOpened work region = IsOpenIn work.trees region.in_pool

-- the tree's outermost node lies in the region
abbrev pub LiesIn : Work → Region → code.Tree → Type 0
LiesIn work region n = region_at work.trees.nodes n.number ≡ Some region.in_pool.number

-- the first region is to be let go only after the second
abbrev pub OutlivesIn : Work → Region → Region → Type 0
OutlivesIn work outer inner = Outlives work.trees.regions outer.in_pool.number inner.in_pool.number

-- nodes of the region may name the tree: it lies in this region or in one that outlives it
abbrev pub CanName : Work → Region → code.Tree → Type 0
CanName work region n = MayName work.trees.nodes work.trees.regions region.in_pool.number n.number

-- nodes of the region may name all parts of this node
abbrev pub CanNameParts : Work → Region → Node → Type 0
CanNameParts work region node = MayNameParts work.trees.nodes work.trees.regions region.in_pool.number (shape_of node)

-- how many nodes live in the region
abbrev pub count_in : Work → Region → ℕ
count_in work region = count_at work.trees region.in_pool.number

-- the node as it lives in the region, behind those that lived there
abbrev pub lived_in : Work → Region → Node → Lived
lived_in work region node = record { node = shape_of node; region = region.in_pool.number; rank = count_in work region }

-- the nodes that the mark counted live in the region
abbrev pub Reaches : Work → Region → Mark → Type 0
Reaches work region mark =
    (rank : ℕ) → rank < mark.count → (n : ℕ) × (l : Lived) × (map.get work.trees.nodes n ≡ Some l) × (l.region ≡ region.in_pool.number) × (l.rank ≡ rank)

-- ---- what a call leaves

-- what stood before still stands for the same tree, each node in its region; regions stay open and outlive those that they outlived
pub record KeepsTrees (old new : Work) : Type 0 where
  pub trees : (n : code.Tree) (t : Tree Identifier) → StandsFor old n t → StandsFor new n t
  pub places : (n : code.Tree) (r : ℕ) → region_at old.trees.nodes n.number ≡ Some r → region_at new.trees.nodes n.number ≡ Some r
  pub regions : (region : Region) → IsOpened old region → IsOpened new region
  pub outlives : (a b : ℕ) → Outlives old.trees.regions a b → Outlives new.trees.regions a b

-- no region was opened, and none outlives more than before
pub record SameRegions (old new : Work) : Type 0 where
  pub identity : new.trees.identity ≡ old.trees.identity
  pub regions : new.trees.regions ≡ old.trees.regions

-- each node that lives did so before, or was added in this region
abbrev pub AddsIn : Work → Work → Region → Type 0
AddsIn old new region =
    (n : ℕ) (l : Lived) → map.get new.trees.nodes n ≡ Some l → (map.get old.trees.nodes n ≡ Some l) ⊎ ((map.get old.trees.nodes n ≡ None) × (l.region ≡ region.in_pool.number))

-- the same nodes over other names
abbrev pub with_names : Work → Names → Work
with_names work names = record { trees = work.trees; symbols = names }
