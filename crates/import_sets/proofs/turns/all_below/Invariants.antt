use Rattle.import_sets.specs.Waiting.{HasAllBelow}
use Rattle.import_sets.proofs.turns.all_below.Given as goal

abbrev pub invariant-loop-place : goal.invariant-loop-place
invariant-loop-place l = HasAllBelow l.place l.places
