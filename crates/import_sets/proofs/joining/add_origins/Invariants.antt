use Rattle.std.proofs.Common.{◌≡◌, ◌++◌}
use Rattle.import_sets.proofs.joining.add_origins.Given as goal

abbrev pub invariant-loop-origin : goal.invariant-loop-origin
invariant-loop-origin l = l.all ≡ l.initial.all ++ l.yielded
