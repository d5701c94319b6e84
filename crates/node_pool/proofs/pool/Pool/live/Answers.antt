use Rattle.std.proofs.Common.{sym, ap, ◌∙◌}
use Rattle.std.specs.FinMap as map
use Rattle.node_pool.specs.Chains.{lived_as}
use Rattle.node_pool.proofs.MapLaws.{len_map}
use Rattle.node_pool.proofs.pool.Pool.live.Goals as goal

pub returns-clause-live : goal.returns-clause-live
returns-clause-live g c = c.live.ensures ∙ sym (len_map lived_as c.self.inside.nodes.slots) ∙ ap (λ p. map.len p.nodes) c.self.view_is
