use Rattle.std.proofs.Common.{ap, length, arith}
use Rattle.session_core.proofs.events.published.Goals as goal

pub push_reserved-requires : goal.push_reserved-requires
push_reserved-requires c = omega (arith, c.loop-list.invariant.room, ap length c.in-Some.ensures.steps.0)
