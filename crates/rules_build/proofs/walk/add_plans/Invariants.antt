use Rattle.std.proofs.Common.{◌≡◌, ◌++◌}
use Rattle.rules_build.proofs.walk.add_plans.Given as goal

abbrev pub invariant-loop-item : goal.invariant-loop-item
invariant-loop-item l = l.parts.items ≡ l.fn.parts.items ++ l.yielded
