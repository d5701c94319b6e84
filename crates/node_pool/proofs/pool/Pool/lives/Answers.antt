use Rattle.std.proofs.Common.{is_some, sym, ap, ◌∙◌}
use Rattle.std.specs.FinMap as map
use Rattle.node_pool.specs.Chains.{lived_as}
use Rattle.node_pool.proofs.MapLaws.{some_mapped}
use Rattle.node_pool.proofs.pool.Pool.lives.Goals as goal

pub returns : goal.returns
returns g c =
    let ns = c.self.inside.nodes.slots in
    let n = c.args.id.number in
    c.holds.ensures ∙ sym (some_mapped lived_as ns n) ∙ ap (λ p. is_some (map.get p.nodes n)) c.self.view_is
