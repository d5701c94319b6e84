use Rattle.std.proofs.Common.{get_or, arith}
use Rattle.import_sets.proofs.ReachLaws.{in_at}
use Rattle.import_sets.proofs.walk.mark_all.Goals as goal

pub mark-requires : goal.mark-requires
mark-requires c =
    let lt = c.requires (get_or c.args.places.now c.loop-place.place-index 0) (in_at c.args.places.now c.loop-place.place-index (omega arith)) in let size = c.loop-place.invariant.size in omega arith
