use Rattle.std.proofs.Common.{◌≡◌}
use Rattle.import_sets.specs.Given.{take_all}
use Rattle.import_sets.specs.GatheringSeen.{seen}
use Rattle.unit_imports.proofs.joining.take_all.Given as goal

abbrev pub invariant-loop-entry : goal.invariant-loop-entry
invariant-loop-entry l = seen l.gathering ≡ take_all (seen l.initial.gathering) l.yielded
