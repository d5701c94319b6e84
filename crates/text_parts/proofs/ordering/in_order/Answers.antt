use Rattle.std.proofs.Common.{arith}
use Rattle.text_parts.proofs.OrderLaws.{all_come}
use Rattle.text_parts.proofs.ordering.in_order.Goals as goal

pub returns : goal.returns
returns c = λ ds size ps rs. all_come ds c.loop-count.order.items c.loop-count.count (omega (arith, size)) (c.loop-count.invariant ds size ps rs)
