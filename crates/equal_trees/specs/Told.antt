-- What tells the rules of a macro in the code.
use Rattle.std.specs.Prelude.{List, Option}
use Rattle.scheme_model.specs.declared.Occ.{Occ}
use Rattle.scheme_model.specs.Ident.{Ident as Identifier}
use Rattle.scheme_model.specs.Leaves.{leaves_of}
use Rattle.scheme_model.specs.RulesShape.{Rules}
use Rattle.scheme_model.specs.Trees.{Trees, tree, name, list, Tail}
use Rattle.syntax_tree.specs.Macros.{identifiers, RulesFor}
use Rattle.syntax_tree.specs.Works.{StandsFor}
use Rattle.syntax_tree.specs.declared.rules.Rules as code_rules
use Rattle.syntax_tree.specs.declared.trees.Work.{Work}
use Rattle.syntax_tree.specs.declared.trees.nodes.Tree as number
use Rattle.rules_check.specs.Gathered.{AreLeaves}
use Rattle.rules_check.specs.declared.leaf.RuleLeaf.{RuleLeaf}

-- rules with their leaves stand for these
pub record TellsRules (work : Work) (rules : code_rules.Rules) (leaves : List RuleLeaf) (r : Rules Identifier) : Type 0 where
  pub stands : RulesFor work rules r
  pub told : AreLeaves work.symbols leaves (leaves_of identifiers r)

-- a pattern is of these parts behind the first one, and of this tail
pub record IsPattern (work : Work) (n : number.Tree) (ts : Trees Identifier) (tail : Tail Identifier) : Type 0 where
  pub head : Identifier
  pub head_place : Option Occ
  pub place : Option Occ
  pub stands : StandsFor work n (list (tree (name head head_place) ts) tail place)
