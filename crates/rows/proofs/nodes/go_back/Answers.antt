use Rattle.std.proofs.Common.{ap, ◌∙◌, arith}
use Rattle.std.specs.Prelude.{unwrap_or}
use Rattle.std.specs.FinMap as map
use Rattle.node_pool.proofs.ShorterLaws.{got_here}
use Rattle.rows.proofs.nodes.go_back.Goals as goal

pub returns : goal.returns
returns c =
    let r = c.args.yard.region.number in
    let count = ap (λ rs. unwrap_or (map.get rs r) 0) c.back_to.ensures.regions ∙ ap (λ o. unwrap_or o 0) (got_here c.args.yard.pool.regions r c.args.yard.mark.count) in
    record { opened = c.back_to.ensures.open c.args.yard.region c.requires.opened; reached = omega (arith, count) }
