use Rattle.std.proofs.Common.{sym, ap}
use Rattle.std.specs.Prelude.{unwrap_or}
use Rattle.node_pool.proofs.pool.Pool.mark.Goals as goal

pub returns-clause-count : goal.returns-clause-count
returns-clause-count g c = sym (ap (λ o. unwrap_or o 0) c.count.ensures.count)
