use Rattle.std.proofs.Common.{◌≤◌}
use Rattle.node_pool.proofs.ShorterLaws.{IsShorter}
use Rattle.node_pool.proofs.pool.Pool.shorten.Given as goal

abbrev pub invariant-loop-left : goal.invariant-loop-left
invariant-loop-left g l = IsShorter l.fn.self l.self l.fn.region l.left × (l.fn.count ≤ l.left)

abbrev pub decreases-loop-left : goal.decreases-loop-left
decreases-loop-left g l = l.left
