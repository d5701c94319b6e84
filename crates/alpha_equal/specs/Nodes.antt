-- What nodes of trees of the code stand for.
use Rattle.std.specs.Prelude.{◌≡◌, ℕ, Bool, true, false, Option, Some, is_some}
use Rattle.scheme_model.specs.Trees.{Atom, atom}
use Rattle.scheme_model.specs.RulesShape.{Rules, dots_of, nowhere}
use Rattle.scheme_model.specs.Ident.{Ident as Identifier}
use Rattle.rename_model.specs.Walks as walk
use Rattle.syntax_tree.specs.Names.{Names}
use Rattle.syntax_tree.specs.Macros.{identifiers, IsIdent}
use Rattle.syntax_tree.specs.Standing.{leaf_tree}
use Rattle.syntax_tree.specs.declared.trees.nodes.Tree as number
use Rattle.alpha_equal.specs.declared.trees.TreeNode.{TreeNode}
use Rattle.alpha_equal.specs.declared.trees.TreeNode.TheVariants as node

-- in an escape nothing is an ellipsis
abbrev pub dots_where : Bool → Rules Identifier → Identifier → Bool
dots_where true r = nowhere
dots_where false r = dots_of identifiers r

abbrev pub a_list : ℕ → Option number.Tree → TreeNode
a_list parts end = node.List parts (is_some end)

-- a node of a pattern or a template
abbrev pub IsNode : Names → TreeNode → walk.TreeNode Identifier → Type 0
IsNode names (node.Name n dots o) t = (i : Identifier) × (t ≡ walk.NameAt i dots o) × IsIdent names n i
IsNode names (node.Atom leaf o) t = (a : Atom) × (t ≡ walk.AtomAt a o) × (leaf_tree names leaf o ≡ Some (atom a o))
IsNode names (node.List parts dotted) t = t ≡ walk.ListOf parts dotted
IsNode names (node.Vector parts) t = t ≡ walk.VectorOf parts
IsNode names node.Escape t = t ≡ walk.Escape
