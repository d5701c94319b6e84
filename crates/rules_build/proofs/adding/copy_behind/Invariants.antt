use Rattle.std.proofs.Common.{◌≡◌, ◌++◌, drop}
use Rattle.rules_build.proofs.adding.copy_behind.Given as goal

abbrev pub invariant-loop-k : goal.invariant-loop-k
invariant-loop-k l = l.items.items ++ drop l.k l.parts.items ≡ l.fn.items.items ++ drop l.from l.parts.items
