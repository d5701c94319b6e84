use Rattle.std.proofs.Common.{ℕ, Some, refl, sym, ap, subst, ◌∙◌}
use Rattle.std.specs.Prelude.{IsSome}
use Rattle.std.specs.FinMap as map
use Rattle.node_pool.specs.NodePool.{Lived}
use Rattle.node_pool.specs.Pools.{HasRanks}
use Rattle.node_pool.specs.Chains.{nodes_of, regions_of}
use Rattle.node_pool.proofs.PoolLaws.{chain_at, region_count, counted_as, held_at, ranks}
use Rattle.node_pool.proofs.pool.Pool.ranked.Goals as goal

pub returns-clause-homes : goal.returns-clause-homes
returns-clause-homes g c id l at =
    let ns = c.self.inside.nodes.slots in
    let rs = c.self.inside.regions.slots in
    let q = held_at ns id l (ap (λ p. map.get p.nodes id) c.self.view_is ∙ at) in
    let home = c.self.invariant.homes id q.0 q.1 in
    let got = region_count rs q.0.region home.0 home.1 in
    let there = ap (map.get (regions_of rs)) (ap (λ (x : Lived _). x.region) (sym q.2)) ∙ got in
    subst (λ p. IsSome (map.get p.regions l.region)) c.self.view_is (subst (λ o. IsSome o) (sym there) refl)

pub returns-clause-ranks : goal.returns-clause-ranks
returns-clause-ranks g c region count at =
    let ns = c.self.inside.nodes.slots in
    let rs = c.self.inside.regions.slots in
    let got = ap (λ p. map.get p.regions region) c.self.view_is ∙ at in
    let chain = chain_at rs region (subst (λ o. IsSome o) (sym got) refl) in
    let has = ranks ns rs c.self.invariant region chain.0 chain.1 in
    subst (λ p. HasRanks p.nodes region count) c.self.view_is (subst (λ (k : ℕ). HasRanks (nodes_of ns) region k) (counted_as rs region count chain.0 chain.1 got) has)
