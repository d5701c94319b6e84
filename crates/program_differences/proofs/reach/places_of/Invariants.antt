use Rattle.std.proofs.Common.{◌≡◌, ◌++◌, drop}
use Rattle.program_differences.specs.Reached.{marks_from}
use Rattle.program_differences.proofs.reach.places_of.Given as goal

abbrev pub invariant-loop-place : goal.invariant-loop-place
invariant-loop-place l = l.places.items ++ marks_from l.place (drop l.place l.reached) ≡ marks_from 0 l.reached
