-- How building ends.
use Rattle.std.specs.Prelude.{◌≡◌, ℕ, ◌+◌, ◌≤◌, List, [], ◌∷◌, Bool, true, false, Option, Some, None, Result, Ok, Err, IsSome}
use Rattle.std.specs.Borrow.{Bor}
use Rattle.scheme_model.specs.Identifiers.{Number}
use Rattle.scheme_model.specs.declared.Occ.{Occ}
use Rattle.scheme_model.specs.Trees.{Tree, name, Trees}
use Rattle.scheme_model.specs.RulesShape.{Rules, dots_of, nowhere}
use Rattle.scheme_model.specs.Measures.{tree_size, tree_depth}
use Rattle.scheme_model.specs.ExpansionFaults.{Fault, EllipsisLength, NodeBudget, DepthBudget}
use Rattle.scheme_model.specs.Matching.{Many, Values, Binding, Chosen}
use Rattle.scheme_model.specs.Building.{Built, Template, used_in, build}
use Rattle.scheme_model.specs.Ident.{Ident as Identifier, Inserted, same_ident}
use Rattle.ls_base.specs.Limits.{max_tree_nodes, max_tree_depth}
use Rattle.syntax_tree.specs.Works.{StandsFor, live_count}
use Rattle.syntax_tree.specs.Macros.{identifiers, IsIdent, TellsRoles}
use Rattle.syntax_tree.specs.declared.rules.Binding as code_binding
use Rattle.syntax_tree.specs.declared.trees.Work.{Work}
use Rattle.syntax_tree.specs.declared.trees.table.Region.{Region}
use Rattle.syntax_tree.specs.declared.trees.nodes.Tree as number
use Rattle.rules_build.specs.declared.fault.BuildFault.{BuildFault}
use Rattle.rules_build.specs.declared.fault.BuildFault.TheVariants as fault
use Rattle.rules_build.specs.declared.plan.Plan.{Plan}
use Rattle.rules_build.specs.declared.walk.Walk.{Walk}
use Rattle.rules_build.specs.declared.values.Bound as code
use Rattle.rules_build.specs.Values.{AreBound, AreValuesOf}
use Rattle.rules_build.specs.Drafts.{spent, IsPlanOf, ArePlansOf}

-- identifiers of a template are marked by a use
abbrev pub inserting : Number → Template Identifier Identifier
inserting k = record { same = same_ident; insert = λ i. Inserted i k }

-- in an escape nothing is an ellipsis
abbrev pub dots_where : Bool → Rules Identifier → Identifier → Bool
dots_where true r = nowhere
dots_where false r = dots_of identifiers r

-- ---- the walk over a template

abbrev pub Knows : Walk → Type 0
Knows walk = (r : Rules Identifier) × TellsRoles walk.work.now.symbols walk.roles.now r

abbrev pub HasBound : Walk → List code.Bound → Type 0
HasBound walk bounds = (region : Region) × (ms : List (Binding Identifier Identifier)) × AreBound walk.work.now region bounds ms

-- a fault of the walk: lengths differ, or memory ran out
abbrev pub Fails : {X : Type 0} → Option X → BuildFault → Type 0
Fails s fault.EllipsisLength = s ≡ None
Fails s fault.NodeBudget = ⊥
Fails s fault.DepthBudget = ⊥
Fails s fault.Full = ⊥
Fails s fault.Memory = Unit {0}

-- the plan of what is built, where what it counts was there to be taken
abbrev pub Plans : Work → Region → Number → Option ℕ → Option ℕ → Option (Built (Tree Identifier)) → Result Plan BuildFault → Type 0
Plans work region k old new s (Ok p) = (b : Built (Tree Identifier)) × (s ≡ Some b) × (new ≡ spent old b.count) × (IsSome new → IsPlanOf work region k p b)
Plans work region k old new s (Err e) = Fails s e

abbrev pub PlansAll : Work → Region → Number → Option ℕ → Option ℕ → List Plan → List Plan → Option (Built (Trees Identifier)) → Result (Unit {0}) BuildFault → Type 0
PlansAll work region k old new ps qs s (Ok done) = (b : Built (Trees Identifier)) × (s ≡ Some b) × (new ≡ spent old b.count) × (IsSome new → ArePlansOf work region k ps qs b)
PlansAll work region k old new ps qs s (Err e) = Fails s e

-- a variable with these values alone
abbrev pub one_row : Identifier → Values Identifier → List (Binding Identifier Identifier)
one_row i vs = record { variable = i; value = Many vs } ∷ []

-- a part under one ellipsis is this identifier, and the one binding that it looks at has these values
pub record IsRowOf (work : Work) (region : Region) (times : ℕ) (t : Tree Identifier) (ms : List (Binding Identifier Identifier)) (id : ℕ) (row : List code_binding.Binding) : Type 0 where
  pub once : times ≡ 1
  pub ident : Identifier
  pub place : Option Occ
  pub whole : t ≡ name ident place
  pub is : IsIdent work.symbols id ident
  pub variable : Identifier
  pub values : Values Identifier
  pub same : same_ident variable ident ≡ true
  pub used : used_in same_ident t ms ≡ one_row variable values
  pub are : AreValuesOf work region row values

abbrev pub IsRow : Work → Region → ℕ → Tree Identifier → List (Binding Identifier Identifier) → Option (ℕ × Bor (List code_binding.Binding)) → Type 0
IsRow work region times t ms None = Unit {0}
IsRow work region times t ms (Some row) = IsRowOf work region times t ms row.0 row.1.now

-- ---- the whole

-- the instance of the template of the rule that matched
abbrev pub instance : Rules Identifier → Number → Chosen Identifier Identifier → ℕ → Result (Built (Tree Identifier)) (Fault Identifier)
instance r k m left = build identifiers r (λ i. Inserted i k) m.rule.template m.match.bindings left

-- the number stands for what is built, and what was built for it was taken; each fault is that of the definition, and leaves all to be taken
abbrev pub Builds : Work → ℕ → ℕ → Result (Built (Tree Identifier)) (Fault Identifier) → Result number.Tree BuildFault → Type 0
Builds work old new s (Ok n) = (b : Built (Tree Identifier)) × (s ≡ Ok b) × StandsFor work n b.value × (new + b.count ≡ old)
Builds work old new s (Err fault.EllipsisLength) = (s ≡ Err EllipsisLength) × (new ≡ old)
Builds work old new s (Err fault.NodeBudget) = (s ≡ Err NodeBudget) × (new ≡ old)
Builds work old new s (Err fault.DepthBudget) = (s ≡ Err DepthBudget) × (new ≡ old)
Builds work old new s (Err fault.Full) = new ≡ old
Builds work old new s (Err fault.Memory) = new ≡ old

-- at most as many nodes were added as were counted; a fault of the definition adds none, and any other at most as many as were left
abbrev pub CountsNodes : Work → Work → ℕ → Result (Built (Tree Identifier)) (Fault Identifier) → Result number.Tree BuildFault → Type 0
CountsNodes old new left s (Ok n) = (b : Built (Tree Identifier)) × (s ≡ Ok b) × (live_count new ≤ live_count old + b.count)
CountsNodes old new left s (Err fault.EllipsisLength) = new ≡ old
CountsNodes old new left s (Err fault.NodeBudget) = new ≡ old
CountsNodes old new left s (Err fault.DepthBudget) = new ≡ old
CountsNodes old new left s (Err fault.Full) = live_count new ≤ live_count old + left
CountsNodes old new left s (Err fault.Memory) = live_count new ≤ live_count old + left

-- a tree of at most 4,194,304 nodes and a depth of at most 1,000
abbrev pub IsSmall : Tree Identifier → Type 0
IsSmall t = (tree_size t ≤ max_tree_nodes) × (tree_depth t ≤ max_tree_depth)

-- the plan of what is built, and what is left of a number when what it counts is taken
abbrev pub IsPlanned : Work → Region → Number → ℕ → Result (Built (Tree Identifier)) (Fault Identifier) → Result (Plan × ℕ) BuildFault → Type 0
IsPlanned work region k left s (Ok p) = (b : Built (Tree Identifier)) × (s ≡ Ok b) × IsPlanOf work region k p.0 b × IsSmall b.value × (p.1 + b.count ≡ left)
IsPlanned work region k left s (Err fault.EllipsisLength) = s ≡ Err EllipsisLength
IsPlanned work region k left s (Err fault.NodeBudget) = s ≡ Err NodeBudget
IsPlanned work region k left s (Err fault.DepthBudget) = s ≡ Err DepthBudget
IsPlanned work region k left s (Err fault.Full) = ⊥
IsPlanned work region k left s (Err fault.Memory) = Unit {0}
