use Rattle.std.proofs.Common.{◌≡◌, take}
use Rattle.document_changes.proofs.reach.numbers.Given as goal

abbrev pub invariant-loop-place : goal.invariant-loop-place
invariant-loop-place l = l.units ≡ take l.place-index l.places
