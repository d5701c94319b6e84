use Rattle.std.proofs.Common.{◌≡◌, drop}
use Rattle.rules_build.specs.Values.{value_by_number}
use Rattle.rules_build.proofs.index.first_of.Given as goal

abbrev pub invariant-loop-bound : goal.invariant-loop-bound
invariant-loop-bound l = value_by_number l.bounds l.id ≡ value_by_number (drop l.bound-index l.bounds) l.id
