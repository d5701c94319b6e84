-- What nodes of quoted data of the code stand for, and how far a walk over a datum with holes is.
use Rattle.std.specs.Prelude.{◌≡◌, ℕ, drop, false, List, Option, Some, None, is_some}
use Rattle.scheme_model.specs.declared.Occ.{Occ}
use Rattle.scheme_model.specs.Trees.{Atom, atom}
use Rattle.scheme_model.specs.Ident.{Ident as Identifier, symbol_of}
use Rattle.rename_model.specs.Walks as walk
use Rattle.syntax_tree.specs.Names.{Names}
use Rattle.syntax_tree.specs.Macros.{IsIdent}
use Rattle.syntax_tree.specs.Standing.{leaf_tree}
use Rattle.syntax_tree.specs.declared.trees.nodes.Tree as number
use Rattle.alpha_equal.specs.declared.data.Walk.{Walk}
use Rattle.alpha_equal.specs.declared.data.DatumNode.{DatumNode}
use Rattle.alpha_equal.specs.declared.data.DatumNode.TheVariants as node

-- the places of the holes that are still to come
abbrev pub left : Walk → List ℕ
left s = drop s.passed s.places.now

abbrev pub a_list : ℕ → Option number.Tree → DatumNode
a_list parts end = node.List parts (is_some end)

abbrev pub IsDatumNode : Names → DatumNode → walk.TreeNode (Option (List ℕ)) → Type 0
IsDatumNode names (node.Name n o) t = (i : Identifier) × (t ≡ walk.NameAt (Some (symbol_of i)) false o) × IsIdent names n i
IsDatumNode names node.Hole t = (o : Option Occ) × (t ≡ walk.NameAt None false o)
IsDatumNode names (node.Atom leaf o) t = (a : Atom) × (t ≡ walk.AtomAt a o) × (leaf_tree names leaf o ≡ Some (atom a o))
IsDatumNode names (node.List parts dotted) t = t ≡ walk.ListOf parts dotted
IsDatumNode names (node.Vector parts) t = t ≡ walk.VectorOf parts
