-- Trees by their outermost nodes, and rows of trees: what walks over trees by number speak of.
use Rattle.std.specs.Prelude.{◌≡◌, ℕ, ◌≤◌, List, Option, Some, None}
use Rattle.std.specs.List.{AllByRecursion}
use Rattle.std.specs.Option.{option_map}
use Rattle.scheme_model.specs.declared.Occ.{Occ}
use Rattle.scheme_model.specs.Trees.{Atom, Tree, name, atom, list, vector, Trees, Tail}
use Rattle.scheme_model.specs.Ident.{Ident as Identifier}
use Rattle.scheme_model.specs.Measures.{tree_depth, trees_depth, tail_depth}
use Rattle.syntax_tree.specs.Regions.{MayName}
use Rattle.syntax_tree.specs.Standing.{leaf_tree, AllStand, TailStands}
use Rattle.syntax_tree.specs.Kept.{numbers}
use Rattle.syntax_tree.specs.Works.{StandsFor, CanName}
use Rattle.syntax_tree.specs.Macros.{IsIdent}
use Rattle.syntax_tree.specs.declared.trees.Work.{Work}
use Rattle.syntax_tree.specs.declared.trees.nodes.Tree as number
use Rattle.syntax_tree.specs.declared.trees.table.Region.{Region}
use Rattle.syntax_tree.specs.declared.look.Look.{Look}
use Rattle.syntax_tree.specs.declared.look.Look.TheVariants as looks

-- the numbers stand for these trees, in order
abbrev pub PartsStand : Work → List number.Tree → Trees Identifier → Type 0
PartsStand work ns ts = AllStand work.trees.nodes work.symbols ts (numbers ns)

-- a tail's number, where it has one
abbrev pub EndStands : Work → Option number.Tree → Tail Identifier → Type 0
EndStands work end tail = TailStands work.trees.nodes work.symbols tail (option_map (λ t. t.number) end)

abbrev pub AreStanding : Work → List number.Tree → Type 0
AreStanding work ns = (ts : Trees Identifier) × PartsStand work ns ts

abbrev pub EndIsStanding : Work → Option number.Tree → Type 0
EndIsStanding work end = (tail : Tail Identifier) × EndStands work end tail

-- the number stands for a tree that is at most so deep
abbrev pub StandsWithin : Work → number.Tree → ℕ → Type 0
StandsWithin work n depth = (t : Tree Identifier) × StandsFor work n t × (tree_depth t ≤ depth)

abbrev pub PartsWithin : Work → List number.Tree → ℕ → Type 0
PartsWithin work ns depth = (ts : Trees Identifier) × PartsStand work ns ts × (trees_depth ts ≤ depth)

abbrev pub EndWithin : Work → Option number.Tree → ℕ → Type 0
EndWithin work end depth = (tail : Tail Identifier) × EndStands work end tail × (tail_depth tail ≤ depth)

-- what is seen of a tree
abbrev pub IsLook : Work → Look → Tree Identifier → Type 0
IsLook work (looks.Name n) t = (i : Identifier) × (o : Option Occ) × (t ≡ name i o) × IsIdent work.symbols n i
IsLook work (looks.Atom leaf) t = (a : Atom) × (o : Option Occ) × (t ≡ atom a o) × (leaf_tree work.symbols leaf o ≡ Some (atom a o))
IsLook work (looks.List ns end) t =
    (ts : Trees Identifier) × (tail : Tail Identifier) × (o : Option Occ) × (t ≡ list ts tail o) × PartsStand work ns.now ts × EndStands work end tail
IsLook work (looks.Vector ns) t = (ts : Trees Identifier) × (o : Option Occ) × (t ≡ vector ts o) × PartsStand work ns.now ts

-- ---- what nodes of a region may name

-- all of these trees
abbrev pub AllNamed : Work → Region → List number.Tree → Type 0
AllNamed work region ns = AllByRecursion (MayName work.trees.nodes work.trees.regions region.in_pool.number) (numbers ns)

-- a tail, where there is one
abbrev pub EndNamed : Work → Region → Option number.Tree → Type 0
EndNamed work region None = Unit {0}
EndNamed work region (Some n) = CanName work region n

-- the parts that are seen of a tree
abbrev pub LookNamed : Work → Region → Look → Type 0
LookNamed work region (looks.Name n) = Unit {0}
LookNamed work region (looks.Atom leaf) = Unit {0}
LookNamed work region (looks.List ns end) = AllNamed work region ns.now × EndNamed work region end
LookNamed work region (looks.Vector ns) = AllNamed work region ns.now
