-- What adding the nodes of a plan leaves of the nodes and names that stood before.
use Rattle.std.specs.Prelude.{◌≡◌, ◌⊎◌, ℕ, ◌+◌, ◌^◌, ◌<◌, ◌≤◌, List, [], ◌∷◌, slice_get, Option, Some, None, Result, Ok, Err, Vec}
use Rattle.std.specs.declared.alloc.Global.{Global}
use Rattle.ls_base.specs.Limits.{max_tree_nodes, max_tree_depth}
use Rattle.scheme_model.specs.Identifiers.{Number}
use Rattle.scheme_model.specs.Trees.{Tree, Trees, no_trees, Tail}
use Rattle.scheme_model.specs.Measures.{tree_size, trees_size, tail_size, tree_depth, trees_depth, tail_depth}
use Rattle.scheme_model.specs.Ident.{Ident as Identifier, Inserted}
use Rattle.syntax_tree.specs.Names.{Names, KeepsNames}
use Rattle.syntax_tree.specs.Looks.{PartsStand, EndStands}
use Rattle.syntax_tree.specs.Works.{StandsFor, CanName, KeepsTrees, SameRegions, AddsIn, live_count}
use Rattle.syntax_tree.specs.declared.trees.Work.{Work}
use Rattle.syntax_tree.specs.declared.trees.table.Region.{Region}
use Rattle.syntax_tree.specs.declared.trees.nodes.Tree as number
use Rattle.rules_build.specs.declared.fault.BuildFault.{BuildFault}
use Rattle.rules_build.specs.declared.fault.BuildFault.TheVariants as fault
use Rattle.rules_build.specs.declared.plan.Plan.{Plan}
use Rattle.rules_build.specs.declared.plan.End.{End}
use Rattle.rules_build.specs.Drafts.{Draft, Drafts, Ending, tree_of, row_of, tail_of, IsDraft, AreDrafts, IsEnding}

-- names keep their numbers, and only identifiers that this use inserted are new
pub record Inserts (old new : Names) (k : Number) : Type 0 where
  pub keeps : KeepsNames old new
  pub symbols : new.symbols ≡ old.symbols
  pub idents : (n : ℕ) (i : Identifier) → slice_get new.idents n ≡ Some i → (slice_get old.idents n ≡ Some i) ⊎ ((j : Identifier) × (i ≡ Inserted j k))

-- what stood before still stands, at most so many nodes were added, in this region alone, and no region was opened
pub record Grows (old new : Work) (region : Region) (k : Number) (most : ℕ) : Type 0 where
  pub trees : KeepsTrees old new
  pub names : Inserts old.symbols new.symbols k
  pub added : AddsIn old new region
  pub regions : SameRegions old new
  pub nodes : live_count new ≤ live_count old + most

-- there is no room only where the nodes before and these are together more than 2^31
abbrev pub Lacks : Work → ℕ → BuildFault → Type 0
Lacks old most fault.EllipsisLength = ⊥
Lacks old most fault.NodeBudget = ⊥
Lacks old most fault.DepthBudget = ⊥
Lacks old most fault.Full = 2 ^ 31 < live_count old + most
Lacks old most fault.Memory = Unit {0}

-- how adding of a tree ends
abbrev pub Adds : Work → Work → Region → Number → ℕ → Tree Identifier → Result number.Tree BuildFault → Type 0
Adds old new region k most t (Ok n) = Grows old new region k most × StandsFor new n t × CanName new region n
Adds old new region k most t (Err e) = Grows old new region k most × Lacks old most e

-- nodes of the region may name these
abbrev pub AreNamed : Work → Region → List number.Tree → Type 0
AreNamed work region [] = Unit {0}
AreNamed work region (n ∷ ns) = CanName work region n × AreNamed work region ns

abbrev pub IsNamedEnd : Work → Region → Option number.Tree → Type 0
IsNamedEnd work region None = Unit {0}
IsNamedEnd work region (Some n) = CanName work region n

-- the same of trees in a row, and of what comes behind them
abbrev pub AddsAll : Work → Work → Region → Number → ℕ → Trees Identifier → Result (Vec number.Tree Global) BuildFault → Type 0
AddsAll old new region k most ts (Ok v) = Grows old new region k most × PartsStand new v.items ts × AreNamed new region v.items
AddsAll old new region k most ts (Err e) = Grows old new region k most × Lacks old most e

abbrev pub AddsEnd : Work → Work → Region → Number → ℕ → Trees Identifier → Tail Identifier → List number.Tree → Result (Option number.Tree) BuildFault → Type 0
AddsEnd old new region k most ts tail ns (Ok end) = Grows old new region k most × PartsStand new ns ts × AreNamed new region ns × EndStands new end tail × IsNamedEnd new region end
AddsEnd old new region k most ts tail ns (Err e) = Grows old new region k most × Lacks old most e

-- the parts with those of the list, and its tail
abbrev pub CopiesRest : Work → Region → Trees Identifier → Tail Identifier → List number.Tree → Option number.Tree → Type 0
CopiesRest work region ts tail ns end = PartsStand work ns ts × AreNamed work region ns × EndStands work end tail × IsNamedEnd work region end

-- what may be added: trees of at most 4,194,304 nodes and a depth of at most 1,000
abbrev pub CanBeAdded : Work → Region → Number → Plan → Type 0
CanBeAdded work region k p = (d : Draft) × IsDraft work region p d × (tree_size (tree_of k d) ≤ max_tree_nodes) × (tree_depth (tree_of k d) ≤ max_tree_depth)

abbrev pub AllCanBeAdded : Work → Region → Number → List Plan → Type 0
AllCanBeAdded work region k ps = (ds : Drafts) × AreDrafts work region ps ds × (trees_size (row_of k ds no_trees) ≤ max_tree_nodes) × (trees_depth (row_of k ds no_trees) ≤ max_tree_depth)

abbrev pub EndCanBeAdded : Work → Region → Number → End → Type 0
EndCanBeAdded work region k behind = (e : Ending) × IsEnding work region behind e × (tail_size (tail_of k e) ≤ max_tree_nodes) × (tail_depth (tail_of k e) ≤ max_tree_depth)
