use Rattle.std.proofs.Common.{◌≡◌}
use Rattle.import_sets.specs.Given.{both}
use Rattle.import_sets.proofs.clash.both.Given as goal

abbrev pub invariant-loop-origin : goal.invariant-loop-origin
invariant-loop-origin l = l.origins.all ≡ both l.initial.origins.all l.yielded
