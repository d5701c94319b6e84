use Rattle.std.proofs.Common.{◌≡◌, drop}
use Rattle.import_sets.specs.Graphs.{all_marked}
use Rattle.import_sets.proofs.turns.all_done.Given as goal

abbrev pub invariant-loop-place : goal.invariant-loop-place
invariant-loop-place l = all_marked l.done (drop l.place-index l.places) ≡ all_marked l.done l.places
