use Rattle.std.proofs.Common.{sym, subst, arith}
use Rattle.std.specs.Prelude.{IsSome}
use Rattle.std.specs.FinMap as map
use Rattle.node_pool.specs.SlotLists.{at}
use Rattle.node_pool.proofs.MapLaws.{holds, is_within}
use Rattle.node_pool.proofs.PoolLaws.{is_held}
use Rattle.node_pool.proofs.pool.Pool.end.Goals as goal

pub returns-clause-below : goal.returns-clause-below
returns-clause-below g c id live =
    let ns = c.self.inside.nodes.slots in
    let h = holds (at ns id) (is_held ns id (subst (λ p. IsSome (map.get p.nodes id)) (sym c.self.view_is) live)) in
    omega (arith, is_within ns id h.0 h.1, c.len.ensures)
