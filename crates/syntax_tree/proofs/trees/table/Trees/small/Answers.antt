use Rattle.std.proofs.Common.{ap, sym, subst}
use Rattle.syntax_tree.specs.Regions.{Forest}
use Rattle.syntax_tree.specs.Nodes.{Nodes}
use Rattle.syntax_tree.specs.Standing.{Stands}
use Rattle.syntax_tree.proofs.KeptLaws.{tree_small}
use Rattle.syntax_tree.proofs.trees.table.Trees.small.Goals as goal

pub returns-clause-nodes : goal.returns-clause-nodes
returns-clause-nodes c = λ names t n h. (tree_small c.self.inside.pool.nodes c.self.invariant.kept names t n (subst (λ (x : Nodes). Stands x names t n) (sym (ap (λ (f : Forest). f.nodes) c.self.view_is)) h)).0

pub returns-clause-depth : goal.returns-clause-depth
returns-clause-depth c = λ names t n h. (tree_small c.self.inside.pool.nodes c.self.invariant.kept names t n (subst (λ (x : Nodes). Stands x names t n) (sym (ap (λ (f : Forest). f.nodes) c.self.view_is)) h)).1
