use Rattle.std.proofs.Common.{◌≡◌, ◌++◌, map}
use Rattle.rules_match.specs.Found.{many_of}
use Rattle.rules_match.proofs.columns.collect.Given as goal

abbrev pub invariant-loop-column : goal.invariant-loop-column
invariant-loop-column l = l.bindings.items ≡ l.fn.bindings.items ++ map many_of l.yielded
