use Rattle.std.proofs.Common.{◌≡◌, ◌++◌}
use Rattle.rules_build.specs.Values.{bounds_at}
use Rattle.rules_build.proofs.used.at_places.Given as goal

abbrev pub invariant-loop-place : goal.invariant-loop-place
invariant-loop-place l = l.used.items ++ bounds_at l.bounds l.place-iterator ≡ bounds_at l.bounds l.places.keys
