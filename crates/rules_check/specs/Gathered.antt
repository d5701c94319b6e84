-- How the leaves of rules are gathered.
use Rattle.std.specs.Prelude.{◌≡◌, ℕ, None, List, [], ◌∷◌, ◌++◌, true, Ok}
use Rattle.scheme_model.specs.Trees.{Tree, name, atom, list, vector, Trees, no_trees, tree}
use Rattle.scheme_model.specs.ExpansionFaults.{Named}
use Rattle.scheme_model.specs.RulesShape.{Rules}
use Rattle.scheme_model.specs.Matching.{behind}
use Rattle.scheme_model.specs.Leaves.{Leaf}
use Rattle.scheme_model.specs.Ident.{Ident as Identifier}
use Rattle.syntax_tree.specs.Names.{Names}
use Rattle.syntax_tree.specs.Works.{StandsFor}
use Rattle.syntax_tree.specs.Macros.{RulesFor}
use Rattle.syntax_tree.specs.Placed.{IsNamed}
use Rattle.syntax_tree.specs.declared.trees.Work.{Work}
use Rattle.syntax_tree.specs.declared.trees.nodes.Tree as number
use Rattle.syntax_tree.specs.declared.rules.Rules as code_rules
use Rattle.rules_check.specs.declared.leaf.RuleLeaf.{RuleLeaf}
use Rattle.rules_check.specs.Checked.{rules_in_form}

-- a leaf, with its place and whether it is a literal
abbrev pub IsLeaf : Names → RuleLeaf → Leaf Identifier → Type 0
IsLeaf names n l = IsNamed names n.name l.leaf × (n.literal ≡ l.literal)

-- these leaves, in order
abbrev pub AreLeaves : Names → List RuleLeaf → List (Leaf Identifier) → Type 0
AreLeaves names [] [] = Unit {0}
AreLeaves names [] (l ∷ ls) = ⊥
AreLeaves names (n ∷ ns) [] = ⊥
AreLeaves names (n ∷ ns) (l ∷ ls) = IsLeaf names n l × AreLeaves names ns ls

-- these leaves were added
pub record AddsLeaves (names : Names) (old new : List RuleLeaf) (ls : List (Leaf Identifier)) : Type 0 where
  pub more : List RuleLeaf
  pub added : new ≡ old ++ more
  pub are : AreLeaves names more ls

-- the parts of a list
abbrev pub list_parts : Tree Identifier → Trees Identifier
list_parts (name i o) = no_trees
list_parts (atom a o) = no_trees
list_parts (list ts tail o) = ts
list_parts (vector ts o) = no_trees

abbrev pub first_parts : Trees Identifier → Trees Identifier
first_parts no_trees = no_trees
first_parts (tree t ts) = list_parts t

-- what stands in the list of literals, behind an ellipsis of the rules' own where they have one
abbrev pub listed_at : Tree Identifier → Trees Identifier → Trees Identifier
listed_at (name i o) ts = first_parts ts
listed_at (atom a o) ts = no_trees
listed_at (list us tail o) ts = us
listed_at (vector us o) ts = no_trees

abbrev pub listed_behind : Trees Identifier → Trees Identifier
listed_behind no_trees = no_trees
listed_behind (tree t ts) = listed_at t ts

abbrev pub listed_in : Tree Identifier → Trees Identifier
listed_in t = listed_behind (behind 1 (list_parts t))

-- an identifier of that list as a literal
abbrev pub name_leaf : Tree Identifier → List (Leaf Identifier)
name_leaf (name i o) = record { leaf = record { name = i; occ = o }; literal = true } ∷ []
name_leaf (atom a o) = []
name_leaf (list ts tail o) = []
name_leaf (vector ts o) = []

abbrev pub name_leaves : Trees Identifier → List (Leaf Identifier)
name_leaves no_trees = []
name_leaves (tree t ts) = name_leaf t ++ name_leaves ts

-- the tree is a list of these rules, which were checked
abbrev pub HasRules : Work → number.Tree → code_rules.Rules → Type 0
HasRules work n rules = (t : Tree Identifier) × (r : Rules Identifier) × StandsFor work n t × (rules_in_form t ≡ Ok r) × RulesFor work rules r

-- literals that have no places
abbrev pub AreUnplaced : List (Named Identifier) → Type 0
AreUnplaced [] = Unit {0}
AreUnplaced (l ∷ ls) = (l.occ ≡ None) × AreUnplaced ls

abbrev pub unplaced_leaf : ℕ → RuleLeaf
unplaced_leaf n = record { name = record { ident = n; occ = None }; literal = true }
