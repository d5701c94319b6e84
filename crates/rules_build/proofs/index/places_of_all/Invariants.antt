use Rattle.std.proofs.Common.{take}
use Rattle.rules_build.specs.Values.{ArePlaces}
use Rattle.rules_build.proofs.index.places_of_all.Given as goal

abbrev pub invariant-loop-k : goal.invariant-loop-k
invariant-loop-k l = ArePlaces (take l.k l.bounds) l.places
