use Rattle.std.proofs.Common.{get_or, arith}
use Rattle.import_sets.proofs.ReachLaws.{in_at}
use Rattle.import_sets.proofs.turns.all_done.Goals as goal

pub bounds-done-place : goal.bounds-done-place
bounds-done-place c = c.requires (get_or c.args.places.now c.loop-place.place-index 0) (in_at c.args.places.now c.loop-place.place-index (omega arith))
