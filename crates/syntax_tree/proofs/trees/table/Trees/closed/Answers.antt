use Rattle.std.proofs.Common.{sym, subst}
use Rattle.std.specs.Prelude.{IsSome, unwrap_or}
use Rattle.std.specs.FinMap as map
use Rattle.node_pool.specs.Pools.{HasRanks}
use Rattle.syntax_tree.specs.Regions.{Forest, count_at, IsClosed, ArePartsFirst}
use Rattle.syntax_tree.proofs.NodeLaws.{ranks_seen}
use Rattle.syntax_tree.proofs.OuterLaws.{is_open, count_is}
use Rattle.syntax_tree.proofs.trees.table.Trees.closed.Goals as goal

pub returns-clause-closed : goal.returns-clause-closed
returns-clause-closed c = subst (λ (f : Forest). IsClosed f.nodes f.regions) c.self.view_is c.self.invariant.closed

pub returns-clause-first : goal.returns-clause-first
returns-clause-first c = subst (λ (f : Forest). ArePartsFirst f.nodes) c.self.view_is c.self.invariant.first

pub returns-clause-ranks : goal.returns-clause-ranks
returns-clause-ranks c r h =
    let ns = c.self.inside.pool.nodes in
    let counts = c.self.inside.pool.regions in
    let is = is_open c.self.inside.outers.items counts r (subst (λ (f : Forest). IsSome (map.get f.regions r)) (sym c.self.view_is) h) in
    let count = unwrap_or (map.get counts r) 0 in
    subst (λ (f : Forest). HasRanks f.nodes r (count_at f r)) c.self.view_is (ranks_seen ns r count (c.ranked.ensures.ranks r count (count_is counts r is)))
