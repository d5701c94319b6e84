use Rattle.syntax_tree.specs.Kept.{shape_of}
use Rattle.syntax_tree.proofs.WorkLaws.{standing_lives, node_of}
use Rattle.syntax_tree.proofs.trees.Work.node.Goals as goal

pub node-requires : goal.node-requires
node-requires c = standing_lives c.args.self.now c.args.tree c.requires

pub returns-clause-tree : goal.returns-clause-tree
returns-clause-tree c =
    node_of c.args.self.now.trees.nodes c.args.self.now.symbols c.args.tree.number (shape_of c.node.result.now) c.node.ensures.shape

pub returns-clause-names : goal.returns-clause-names
returns-clause-names c region h = c.node.ensures.names region.in_pool.number h
