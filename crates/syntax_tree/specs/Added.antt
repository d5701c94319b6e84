-- What a node must be to be added.
use Rattle.std.specs.Prelude.{◌≤◌}
use Rattle.scheme_model.specs.Trees.{Tree}
use Rattle.scheme_model.specs.Measures.{tree_size, tree_depth}
use Rattle.ls_base.specs.Limits.{max_tree_nodes, max_tree_depth}
use Rattle.scheme_model.specs.Ident.{Ident as Identifier}
use Rattle.syntax_tree.specs.Names.{Names}
use Rattle.syntax_tree.specs.Nodes.{Shape, Nodes}
use Rattle.syntax_tree.specs.Standing.{IsNode}

-- the node is of a tree of at most 4,194,304 nodes and a depth of at most 1,000, whose parts stand
abbrev pub IsNodeOfSmall : Nodes → Names → Shape → Type 0
IsNodeOfSmall nodes names s =
    (t : Tree Identifier) × IsNode nodes names s t × (tree_size t ≤ max_tree_nodes) × (tree_depth t ≤ max_tree_depth)

abbrev pub FitsInto : Nodes → Shape → Type 0
FitsInto nodes s = (names : Names) × IsNodeOfSmall nodes names s
