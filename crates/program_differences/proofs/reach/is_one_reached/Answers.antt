use Rattle.std.proofs.Common.{sym, ◌∙◌, arith}
use Rattle.program_differences.proofs.ReachLaws.{one_here, one_past}
use Rattle.program_differences.proofs.reach.is_one_reached.Goals as goal

pub returns-then-is_reached : goal.returns-then-is_reached
returns-then-is_reached c = sym (one_here c.args.reached.now c.args.units.now c.loop-unit.unit-index 0 (omega arith) (sym c.is_reached.ensures ∙ c.if-is_reached.true)) ∙ c.loop-unit.invariant

pub loop-unit-preserved : goal.loop-unit-preserved
loop-unit-preserved c = one_past c.args.reached.now c.args.units.now c.loop-unit.unit-index 0 (omega arith) (sym c.is_reached.ensures ∙ c.if-is_reached.false) ∙ c.loop-unit.invariant
