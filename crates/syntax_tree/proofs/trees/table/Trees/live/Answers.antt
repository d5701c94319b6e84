use Rattle.std.proofs.Common.{sym, ap, ◌∙◌}
use Rattle.std.specs.FinMap as map
use Rattle.syntax_tree.specs.Regions.{Forest}
use Rattle.syntax_tree.proofs.NodeLaws.{count_seen}
use Rattle.syntax_tree.proofs.trees.table.Trees.live.Goals as goal

pub returns-clause-live : goal.returns-clause-live
returns-clause-live c = c.live.ensures.live ∙ sym (count_seen c.self.inside.pool.nodes) ∙ ap (λ (f : Forest). map.len f.nodes) c.self.view_is
