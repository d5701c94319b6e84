use Rattle.std.proofs.Common.{ap, ◌∙◌}
use Rattle.std.specs.FinMap as map
use Rattle.std.specs.Ordering.{nat_cmp}
use Rattle.syntax_tree.specs.Nodes.{Lived, Nodes}
use Rattle.syntax_tree.proofs.trees.Work.new.Goals as goal

pub returns-clause-nodes : goal.returns-clause-nodes
returns-clause-nodes c = ap (λ (nodes : Nodes). map.len nodes) c.new.ensures.nodes ∙ map.len-empty nat_cmp Lived
