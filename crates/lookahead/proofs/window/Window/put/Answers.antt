use Rattle.lookahead.specs.Counts.{roles_in}
use Rattle.lookahead.proofs.HeldLaws.{held_few}
use Rattle.lookahead.proofs.RoleCounts.{room}
use Rattle.lookahead.proofs.window.Window.put.Goals as goal

pub add-requires : goal.add-requires
add-requires c = λ q.
    room (roles_in c.self.inside.held.items) c.self.inside.cancellations q c.self.invariant.of (held_few c.self.inside.held.items c.self.invariant.few)
