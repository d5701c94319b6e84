-- The trees of parts of a form, and what seeding them leaves of the nodes and names that stood before.
use Rattle.std.specs.Prelude.{◌≡◌, ℕ, ◌+◌, ◌^◌, ◌<◌, false, List, [], ◌∷◌, map, Vec, Result, Ok, Err, Option, Some, None}
use Rattle.std.specs.Global.{Box}
use Rattle.std.specs.declared.alloc.Global.{Global}
use Rattle.std.specs.List.{AllByRecursion}
use Rattle.std.specs.Option.{option_map}
use Rattle.ls_base.specs.declared.memory.Memory.{Memory}
use Rattle.scheme_model.specs.declared.Home.{Home}
use Rattle.scheme_model.specs.Trees.{Tree, Trees, no_trees, tree, Tail, proper, dotted}
use Rattle.scheme_model.specs.Measures.{tree_size, trees_size, tail_size}
use Rattle.scheme_model.specs.Ident.{Ident as Identifier}
use Rattle.syntax_tree.specs.Names.{Names, KeepsNames}
use Rattle.syntax_tree.specs.Interned.{interned, all_interned, tail_interned}
use Rattle.syntax_tree.specs.Nodes.{Nodes, parts_of, region_at}
use Rattle.syntax_tree.specs.Standing.{AllStand, TailStands, IsNode}
use Rattle.syntax_tree.specs.Kept.{numbers, shape_of}
use Rattle.syntax_tree.specs.Works.{StandsFor, IsNodeOf, LiesIn, CanNameParts, KeepsTrees, SameRegions, AddsIn, live_count}
use Rattle.syntax_tree.specs.declared.trees.Work.{Work}
use Rattle.syntax_tree.specs.declared.trees.nodes.Tree as code
use Rattle.syntax_tree.specs.declared.trees.nodes.Node.{Node}
use Rattle.syntax_tree.specs.declared.trees.table.Region.{Region}
use Rattle.syntax_tree.specs.declared.trees.faults.PoolFault.{PoolFault}
use Rattle.syntax_tree.specs.declared.trees.faults.PoolFault.TheVariants as fault
use Rattle.datum_reader.specs.declared.datum.Datum.{Datum}
use Rattle.datum_reader.specs.WellFormed.{is_list, CanSeed}
use Rattle.datum_reader.specs.Seeded.{seeded_as}
use Rattle.datum_reader.specs.Views.{datum_of}

-- trees in a row
abbrev pub trees_from : List (Tree Identifier) → Trees Identifier
trees_from [] = no_trees
trees_from (t ∷ ts) = tree t (trees_from ts)

-- the tree of a part of a form, whose names are written in this unit and whose text has this home
abbrev pub part_tree : (into : ℕ) → Home → Datum → Tree Identifier
part_tree into h d = seeded_as into h (datum_of d)

abbrev pub parts_trees : (into : ℕ) → Home → List Datum → Trees Identifier
parts_trees into h ds = trees_from (map (part_tree into h) ds)

abbrev pub tail_tree : (into : ℕ) → Home → Option (Box Datum) → Tail Identifier
tail_tree into h None = proper
tail_tree into h (Some d) = dotted (part_tree into h d.value)

-- trees can be made of data that reading gives, and of a tail, which is no list
abbrev pub CanBeSeeded : Datum → Type 0
CanBeSeeded d = CanSeed (datum_of d)

abbrev pub TailCanBeSeeded : Option (Box Datum) → Type 0
TailCanBeSeeded None = Unit {0}
TailCanBeSeeded (Some d) = (is_list (datum_of d.value) ≡ false) × CanSeed (datum_of d.value)

-- what stood before still stands, nodes were added in this region alone, and no region was opened
pub record Grows (old new : Work) (region : Region) : Type 0 where
  pub trees : KeepsTrees old new
  pub names : KeepsNames old.symbols new.symbols
  pub added : AddsIn old new region
  pub regions : SameRegions old new

-- all was added: so many nodes, and exactly the names with which the tables are these
pub record Adds (old new : Work) (region : Region) (tables : Names) (count : ℕ) : Type 0 where
  pub grows : Grows old new region
  pub names : new.symbols ≡ tables
  pub nodes : live_count new ≡ live_count old + count

-- a part of that was added: fewer nodes than so many, and a front of these names
pub record Begins (old new : Work) (region : Region) (tables : Names) (most : ℕ) : Type 0 where
  pub grows : Grows old new region
  pub names : KeepsNames new.symbols tables
  pub nodes : live_count new < live_count old + most

-- there is no more room only where the nodes before and these are together more than 2^31
abbrev pub Fails : Work → ℕ → PoolFault → Type 0
Fails old most fault.Full = 2 ^ 31 < live_count old + most
Fails old most fault.Memory = Unit {0}

-- the numbers are of nodes in the region
abbrev pub AllLie : Work → Region → List ℕ → Type 0
AllLie work region ns = AllByRecursion (λ n. region_at work.trees.nodes n ≡ Some region.in_pool.number) ns

-- how seeding of a tree, of trees in a row and of a tail ends
abbrev pub Seeds : Work → Work → Region → Tree Identifier → Result code.Tree PoolFault → Type 0
Seeds old new region t (Ok n) = Adds old new region (interned t old.symbols) (tree_size t) × StandsFor new n t × LiesIn new region n
Seeds old new region t (Err e) = Begins old new region (interned t old.symbols) (tree_size t) × Fails old (tree_size t) e

abbrev pub SeedsAll : Work → Work → Region → Trees Identifier → Result (Vec code.Tree Global) PoolFault → Type 0
SeedsAll old new region ts (Ok v) =
    Adds old new region (all_interned ts old.symbols) (trees_size ts) × AllStand new.trees.nodes new.symbols ts (numbers v.items) × AllLie new region (numbers v.items)
SeedsAll old new region ts (Err e) = Begins old new region (all_interned ts old.symbols) (trees_size ts + 1) × Fails old (trees_size ts) e

abbrev pub tail_numbers : Option code.Tree → List ℕ
tail_numbers None = []
tail_numbers (Some n) = n.number ∷ []

abbrev pub SeedsTail : Work → Work → Region → Tail Identifier → Result (Option code.Tree) PoolFault → Type 0
SeedsTail old new region tail (Ok end) =
    Adds old new region (tail_interned tail old.symbols) (tail_size tail) × TailStands new.trees.nodes new.symbols tail (option_map (λ t. t.number) end) × AllLie new region (tail_numbers end)
SeedsTail old new region tail (Err e) = Begins old new region (tail_interned tail old.symbols) (tail_size tail + 1) × Fails old (tail_size tail) e

-- how seeding of the parts of a tree ends, with the tree's outermost node
abbrev pub Prepares : Work → Work → Region → Tree Identifier → Result Node PoolFault → Type 0
Prepares old new region t (Ok node) =
    (below : ℕ) × (below + 1 ≡ tree_size t) × Adds old new region (interned t old.symbols) below × IsNodeOf new node t × CanNameParts new region node
Prepares old new region t (Err e) = Begins old new region (interned t old.symbols) (tree_size t) × Fails old (tree_size t) e

-- a node without parts is of this tree
pub record IsLeafOf (names : Names) (node : Node) (t : Tree Identifier) : Type 0 where
  pub alone : parts_of (shape_of node) ≡ []
  pub tree : (nodes : Nodes) → IsNode nodes names (shape_of node) t

-- how making such a node ends: with exactly the tree's names in the tables, or with a front of them
abbrev pub Interns : Names → Names → Tree Identifier → Result Node Memory → Type 0
Interns old new t (Ok node) = IsLeafOf new node t × (new ≡ interned t old)
Interns old new t (Err e) = KeepsNames old new × KeepsNames new (interned t old)
