use Rattle.std.proofs.Common.{ap}
use Rattle.syntax_tree.specs.Regions.{Forest}
use Rattle.syntax_tree.proofs.AddedLaws.{kept_lives}
use Rattle.syntax_tree.proofs.trees.table.Trees.end.Goals as goal

pub returns-clause-below : goal.returns-clause-below
returns-clause-below c n live = c.end.ensures.below n (kept_lives c.self.inside.pool.nodes c.args.self.now.nodes n (ap (λ (f : Forest). f.nodes) c.self.view_is) live)
