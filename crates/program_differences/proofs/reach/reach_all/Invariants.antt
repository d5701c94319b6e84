use Rattle.std.proofs.Common.{◌≡◌, ◌-◌, length}
use Rattle.program_differences.specs.Reached.{in_rounds}
use Rattle.program_differences.proofs.reach.reach_all.Given as goal

abbrev pub invariant-loop-round : goal.invariant-loop-round
invariant-loop-round l = in_rounds (length l.units - l._round) l.units l.reached.items ≡ in_rounds (length l.units) l.units l.fn.reached.items
