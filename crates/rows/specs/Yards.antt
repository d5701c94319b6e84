-- A pool of characters with one open region and a mark of it.
use Rattle.node_pool.specs.Pools.{IsOpened, Reaches}
use Rattle.rows.specs.declared.nodes.Yard.{Yard}

-- the region is open, and has the nodes that the mark counted
pub record IsReady (yard : Yard) : Type 0 where
  pub opened : IsOpened yard.pool yard.region
  pub reached : Reaches yard.pool yard.region yard.mark
