use Rattle.std.proofs.Common.{◌≡◌, ◌+◌}
use Rattle.expander.proofs.unit.tick.Given as goal

abbrev pub invariant-uses : goal.invariant-uses
invariant-uses g l = l.steps ≡ l.fn.steps + l._use
