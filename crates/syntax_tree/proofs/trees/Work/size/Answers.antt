use Rattle.syntax_tree.proofs.WorkLaws.{standing_lives}
use Rattle.syntax_tree.proofs.trees.Work.size.Goals as goal

pub size-requires : goal.size-requires
size-requires c = standing_lives c.args.self.now c.args.tree c.requires
