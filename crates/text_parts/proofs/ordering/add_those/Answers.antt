use Rattle.std.proofs.Common.{arith}
use Rattle.text_parts.proofs.OrderLaws.{next_count}
use Rattle.text_parts.proofs.ordering.add_those.Goals as goal

pub returns : goal.returns
returns c = λ ds size ps rs h. next_count ds c.loop-place.order.items c.args.count c.loop-place.place (omega (arith, size)) (c.loop-place.invariant ds size ps rs h)
