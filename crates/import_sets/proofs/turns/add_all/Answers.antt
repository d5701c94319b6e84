use Rattle.std.proofs.Common.{arith}
use Rattle.import_sets.specs.Waiting.{has}
use Rattle.import_sets.proofs.HeldPlaces.{has_next}
use Rattle.import_sets.proofs.turns.add_all.Goals as goal

pub loop-place-preserved : goal.loop-place-preserved
loop-place-preserved c = λ n.
    has_next c.args.places.now c.loop-place.place-index n (has c.args.waiting.now n) (has c.loop-place.waiting n) (has c.insert.new.self n) (omega arith) (c.loop-place.invariant n) (c.in_ok-insert.ensures.updates.0 n)
