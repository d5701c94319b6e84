use Rattle.std.proofs.Common.{sym, ap, subst, ◌∙◌}
use Rattle.std.specs.Prelude.{IsSome}
use Rattle.std.specs.Option.{option_map}
use Rattle.std.specs.FinMap as map
use Rattle.node_pool.proofs.PoolLaws.{is_held, lived_at}
use Rattle.node_pool.proofs.pool.Pool.get.Goals as goal

pub get-held-requires : goal.get-held-requires
get-held-requires g c = is_held c.self.inside.nodes.slots c.args.id.number (subst (λ p. IsSome (map.get p.nodes c.args.id.number)) (sym c.self.view_is) c.requires)

pub returns : goal.returns
returns g c =
    ap (λ p. option_map (λ l. l.node) (map.get p.nodes c.args.id.number)) (sym c.self.view_is)
    ∙ ap (option_map (λ l. l.node)) (lived_at c.self.inside.nodes.slots c.args.id.number c.get-held.result.now c.get-held.ensures)
