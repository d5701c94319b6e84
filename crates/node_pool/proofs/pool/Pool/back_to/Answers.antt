use Rattle.std.proofs.Common.{ap, ◌∙◌, arith}
use Rattle.std.specs.Prelude.{unwrap_or}
use Rattle.std.specs.FinMap as map
use Rattle.node_pool.proofs.MapLaws.{holds}
use Rattle.node_pool.proofs.KeepLaws.{opened_on}
use Rattle.node_pool.proofs.pool.Pool.back_to.Goals as goal

pub shorten-requires : goal.shorten-requires
shorten-requires g c =
    let p = holds (map.get c.args.self.now.regions c.args.region.now.number) c.requires.region.1 in
    (p.0, p.1, omega (arith, ap (λ o. unwrap_or o 0) p.1))

pub returns-clause-open : goal.returns-clause-open
returns-clause-open g c other h = opened_on c.args.self.now c.shorten.new.self c.args.region.now.number c.args.mark.count (λ name e. c.shorten.ensures.identity ∙ e) c.shorten.ensures.regions other h

pub returns-clause-live : goal.returns-clause-live
returns-clause-live g c =
    let p = holds (map.get c.args.self.now.regions c.args.region.now.number) c.requires.region.1 in
    let count = ap (λ o. unwrap_or o 0) p.1 in
    omega (arith, count, c.shorten.ensures.live p.0 p.1)
