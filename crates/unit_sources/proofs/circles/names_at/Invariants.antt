use Rattle.std.proofs.Common.{◌≡◌, take}
use Rattle.unit_sources.specs.Graphs.{names_at}
use Rattle.unit_sources.proofs.circles.names_at.Given as goal

abbrev pub invariant-loop-place : goal.invariant-loop-place
invariant-loop-place l = l.names ≡ names_at l.units (take l.place-index l.places)
