use Rattle.std.proofs.Common.{◌≡◌}
use Rattle.import_sets.specs.Given.{nothing_yet, take_all}
use Rattle.import_sets.specs.GatheringSeen.{seen}
use Rattle.import_sets.proofs.clash.gathered.Given as goal

abbrev pub invariant-loop-entry : goal.invariant-loop-entry
invariant-loop-entry l = seen l.gathering ≡ take_all nothing_yet l.yielded
