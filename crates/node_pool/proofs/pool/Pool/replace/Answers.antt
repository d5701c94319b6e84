use Rattle.std.proofs.Common.{List, Option, sym, ap, subst, ◌∙◌}
use Rattle.std.specs.Prelude.{IsSome}
use Rattle.std.specs.Option.{option_map}
use Rattle.std.specs.FinMap as map
use Rattle.node_pool.specs.Chains.{nodes_of, AreChained}
use Rattle.node_pool.specs.declared.pool.Held.{Held}
use Rattle.node_pool.proofs.PoolLaws.{is_held, lived_at}
use Rattle.node_pool.proofs.ReplaceLaws.{replaced, node_replaced}
use Rattle.node_pool.proofs.pool.Pool.replace.Goals as goal

pub get-held-requires : goal.get-held-requires
get-held-requires g c = is_held c.self.inside.nodes.slots c.args.id.number (subst (λ p. IsSome (map.get p.nodes c.args.id.number)) (sym c.self.view_is) c.requires)

pub invariant_of-self : goal.invariant_of-self
invariant_of-self g c =
    let ns = c.self.inside.nodes.slots in
    let rs = c.self.inside.regions.slots in
    let held = c.get-held.result.now in
    subst (λ (l : List (Option (Held _))). AreChained l rs) (sym c.replace-held.ensures.slots) (replaced ns c.args.id.number held c.get-held.ensures c.args.node rs c.self.invariant)

pub returns-clause-was : goal.returns-clause-was
returns-clause-was g c =
    ap (λ p. option_map (λ l. l.node) (map.get p.nodes c.args.id.number)) (sym c.self.view_is)
    ∙ ap (option_map (λ l. l.node)) (lived_at c.self.inside.nodes.slots c.args.id.number c.replace-held.result c.replace-held.ensures.value)

pub returns-clause-nodes : goal.returns-clause-nodes
returns-clause-nodes g c l got =
    let ns = c.self.inside.nodes.slots in
    let n = c.args.id.number in
    let held = c.get-held.result.now in
    ap (λ (x : List (Option (Held _))). nodes_of x) c.replace-held.ensures.slots
    ∙ node_replaced ns n held c.get-held.ensures c.args.node l (ap (λ p. map.get p.nodes n) c.self.view_is ∙ got)
    ∙ ap (λ p. map.insert p.nodes n (record { node = c.args.node; region = l.region; rank = l.rank })) c.self.view_is
