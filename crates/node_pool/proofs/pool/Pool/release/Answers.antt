use Rattle.std.proofs.Common.{◌≡◌, set, None, is_some, count_by, sum_by, refl, sym, ap, subst, ◌∙◌, arith}
use Rattle.std.specs.Prelude.{IsSome, unwrap_or}
use Rattle.std.specs.FinMap as map
use Rattle.std.specs.Option.{option_map}
use Rattle.node_pool.specs.NodePool.{NodePool}
use Rattle.node_pool.specs.Chains.{chain_count, nodes_of, regions_of}
use Rattle.node_pool.proofs.KeepLaws.{others_on}
use Rattle.node_pool.specs.declared.pool.Chain.{Chain}
use Rattle.node_pool.proofs.MapLaws.{Changes, set_changes, is_within, holds, removed}
use Rattle.node_pool.proofs.ChainLaws.{sum_set, ended_chained}
use Rattle.node_pool.proofs.PoolLaws.{is_open, counted_as}
use Rattle.node_pool.proofs.ShorterLaws.{got_here, remove_inserted}
use Rattle.node_pool.proofs.pool.Pool.release.Goals as goal

pub shorten-requires : goal.shorten-requires
shorten-requires g c =
    let p = holds (map.get c.args.self.now.regions c.args.region.number) c.requires.1 in
    (p.0, p.1, omega arith)

pub remove-requires : goal.remove-requires
remove-requires g c =
    let r = c.args.region.number in
    let here : IsSome (map.get c.shorten.new.self.regions r) = subst (λ o. IsSome o) (sym (ap (λ rs. map.get rs r) c.shorten.ensures.regions ∙ got_here c.args.self.now.regions r 0)) refl in
    is_open c.self.inside.regions.slots r (subst (λ p. IsSome (map.get p.regions r)) (sym c.self.view_is) here)

pub invariant_of-self : goal.invariant_of-self
invariant_of-self g c =
    let ns = c.self.inside.nodes.slots in
    let rs = c.self.inside.regions.slots in
    let qs = c.remove.new.self.slots in
    let r = c.args.region.number in
    let chain = c.remove.result in
    let is = c.remove.ensures.value in
    let zero = counted_as rs r 0 chain is (ap (λ p. map.get p.regions r) c.self.view_is ∙ ap (λ l. map.get l r) c.shorten.ensures.regions ∙ got_here c.args.self.now.regions r 0) in
    let ended : Changes rs qs r None = subst (λ l. Changes rs l r None) (sym c.remove.ensures.slots) (set_changes rs r None (is_within rs r chain is)) in
    let sums = sum_set rs r chain None is in
    let sum : sum_by chain_count qs ≡ sum_by chain_count (set rs r None) = ap (sum_by chain_count) c.remove.ensures.slots in
    let total : sum_by chain_count qs ≡ count_by is_some ns = omega (arith, sums, sum, zero, c.self.invariant.total) in
    ended_chained ns rs qs r c.self.invariant chain is zero ended total

pub returns-clause-regions : goal.returns-clause-regions
returns-clause-regions g c =
    let rs = c.self.inside.regions.slots in
    let qs = c.remove.new.self.slots in
    let r = c.args.region.number in
    let ended : Changes rs qs r None = subst (λ l. Changes rs l r None) (sym c.remove.ensures.slots) (set_changes rs r None (is_within rs r c.remove.result c.remove.ensures.value)) in
    removed (λ (x : Chain). x.count) rs qs r ended ∙ ap (λ p. map.remove p.regions r) c.self.view_is ∙ ap (λ l. map.remove l r) c.shorten.ensures.regions ∙ remove_inserted c.args.self.now.regions r 0

pub returns-clause-others : goal.returns-clause-others
returns-clause-others g c other ne h =
    let new : NodePool _ = record { nodes = nodes_of c.self.inside.nodes.slots; regions = regions_of c.remove.new.self.slots; identity = option_map (λ rc. rc.value.name) c.self.inside.identity; spare = c.self.inside.nodes.spare } in
    others_on c.args.self.now new c.args.region.number (ap (λ p. p.identity) c.self.view_is ∙ c.shorten.ensures.identity) (returns-clause-regions g c) other ne h

pub returns-clause-live : goal.returns-clause-live
returns-clause-live g c =
    let p = holds (map.get c.args.self.now.regions c.args.region.number) c.requires.1 in
    let count = ap (λ o. unwrap_or o 0) p.1 in
    let live = ap (λ x. map.len x.nodes) c.self.view_is in
    omega (arith, count, live, c.shorten.ensures.live p.0 p.1)
