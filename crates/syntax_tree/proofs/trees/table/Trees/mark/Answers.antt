use Rattle.std.proofs.Common.{sym, ap, subst, ◌∙◌}
use Rattle.std.specs.Prelude.{IsSome}
use Rattle.std.specs.FinMap as map
use Rattle.node_pool.specs.Pools.{HasRanks}
use Rattle.syntax_tree.specs.Regions.{Forest, count_at}
use Rattle.syntax_tree.proofs.NodeLaws.{ranks_seen}
use Rattle.syntax_tree.proofs.OuterLaws.{is_open}
use Rattle.syntax_tree.proofs.trees.table.Trees.mark.Goals as goal

pub mark-requires : goal.mark-requires
mark-requires c =
    let r = c.args.region.now.in_pool.number in (
      ap (λ (f : Forest). f.identity) c.self.view_is ∙ c.requires.0,
      is_open c.self.inside.outers.items c.self.inside.pool.regions r (subst (λ (f : Forest). IsSome (map.get f.regions r)) (sym c.self.view_is) c.requires.1),
    )

pub returns-clause-count : goal.returns-clause-count
returns-clause-count c = c.mark.ensures.count ∙ ap (λ (f : Forest). count_at f c.args.region.now.in_pool.number) c.self.view_is

pub returns-clause-ranks : goal.returns-clause-ranks
returns-clause-ranks c =
    let r = c.args.region.now.in_pool.number in
    subst (λ (f : Forest). HasRanks f.nodes r c.mark.result.count) c.self.view_is (ranks_seen c.self.inside.pool.nodes r c.mark.result.count c.mark.ensures.ranks)
