use Rattle.std.proofs.Common.{sym, ap, subst, ◌∙◌}
use Rattle.std.specs.Prelude.{IsSome}
use Rattle.std.specs.FinMap as map
use Rattle.node_pool.specs.Pools.{HasRanks}
use Rattle.node_pool.proofs.PoolLaws.{is_open, region_count, ranks}
use Rattle.node_pool.proofs.pool.Pool.count.Goals as goal

pub get-requires : goal.get-requires
get-requires g c = is_open c.self.inside.regions.slots c.args.region (subst (λ p. IsSome (map.get p.regions c.args.region)) (sym c.self.view_is) c.requires)

pub returns-clause-count : goal.returns-clause-count
returns-clause-count g c = ap (λ p. map.get p.regions c.args.region) (sym c.self.view_is) ∙ region_count c.self.inside.regions.slots c.args.region c.get.result.now c.get.ensures

pub returns-clause-ranks : goal.returns-clause-ranks
returns-clause-ranks g c =
    subst (λ p. HasRanks p.nodes c.args.region c.get.result.now.count) c.self.view_is
    (ranks c.self.inside.nodes.slots c.self.inside.regions.slots c.self.invariant c.args.region c.get.result.now c.get.ensures)
