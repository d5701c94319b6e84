use Rattle.syntax_tree.proofs.RegionLaws.{letting_go}
use Rattle.syntax_tree.proofs.trees.Work.named_while_they_live.Goals as goal

pub returns-clause-unnamed : goal.returns-clause-unnamed
returns-clause-unnamed c r n l can at ne = letting_go c.args.self.now.trees r c.closed.ensures.closed can n l at ne
