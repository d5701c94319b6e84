use Rattle.std.proofs.Common.{◌≡◌, map}
use Rattle.import_sets.specs.Given.{finished}
use Rattle.import_sets.proofs.clash.finished.Given as goal

abbrev pub invariant-loop-group : goal.invariant-loop-group
invariant-loop-group l = l.all ≡ map finished l.yielded
