use Rattle.syntax_tree.proofs.WorkLaws.{standing_lives}
use Rattle.syntax_tree.proofs.trees.Work.depth.Goals as goal

pub depth-requires : goal.depth-requires
depth-requires c = standing_lives c.args.self.now c.args.tree c.requires
