use Rattle.std.proofs.Common.{take, drop}
use Rattle.lookahead.specs.Counts.{roles_in}
use Rattle.lookahead.proofs.HeldLaws.{behind_few}
use Rattle.lookahead.proofs.RoleCounts.{room}
use Rattle.lookahead.proofs.cancellations.Cancellations.behind_first.Goals as goal

pub add-requires : goal.add-requires
add-requires c = λ q.
    room (roles_in (drop 1 (take c.loop-place.place c.args.held.now.items))) c.loop-place.all q c.loop-place.invariant (behind_few c.args.held.now.items c.loop-place.place c.requires)
