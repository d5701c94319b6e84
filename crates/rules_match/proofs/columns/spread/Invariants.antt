use Rattle.std.proofs.Common.{◌≡◌, length}
use Rattle.rules_match.specs.Found.{Spreads}
use Rattle.rules_match.proofs.columns.spread.Given as goal

abbrev pub invariant-loop-binding : goal.invariant-loop-binding
invariant-loop-binding l = (l.k ≡ length l.yielded) × Spreads l.yielded l.fn.columns.items l.columns.items
