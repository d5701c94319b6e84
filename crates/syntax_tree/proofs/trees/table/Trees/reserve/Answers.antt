use Rattle.std.proofs.Common.{sym, ap, subst, ◌∙◌}
use Rattle.node_pool.specs.NodePool.{NodePool}
use Rattle.syntax_tree.specs.Regions.{Forest}
use Rattle.syntax_tree.specs.Kept.{nodes_of, regions_of, IsTable}
use Rattle.syntax_tree.specs.declared.trees.measures.Kept.{Kept}
use Rattle.syntax_tree.proofs.trees.table.Trees.reserve.Goals as goal

pub invariant_of-self : goal.invariant_of-self
invariant_of-self c = subst (λ (p : NodePool Kept). IsTable p.nodes (regions_of c.self.inside.outers.items p.regions)) (sym c.reserve.ensures.kept) c.self.invariant

pub invariant_of-self-2 : goal.invariant_of-self-2
invariant_of-self-2 c = subst (λ (p : NodePool Kept). IsTable p.nodes (regions_of c.self.inside.outers.items p.regions)) (sym c.reserve.ensures.kept) c.self.invariant

pub returns-clause-kept : goal.returns-clause-kept
returns-clause-kept c =
    ap (λ (p : NodePool Kept). record { nodes = nodes_of p.nodes; identity = p.identity; regions = regions_of c.self.inside.outers.items p.regions; counts = p.regions; spare = p.spare }) c.reserve.ensures.kept
    ∙ ap (λ (f : Forest). record f { spare = c.reserve.new.self.spare }) c.self.view_is
