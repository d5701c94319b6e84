use Rattle.std.proofs.Common.{false, sym, arith}
use Rattle.program_differences.proofs.ReachLaws.{marked_at, marked_past}
use Rattle.program_differences.proofs.reach.is_reached.Goals as goal

pub returns-then-place-reached : goal.returns-then-place-reached
returns-then-place-reached c = sym (marked_past c.args.reached.now c.args.place (omega arith))

pub returns : goal.returns
returns c = sym (marked_at c.args.reached.now c.args.place false (omega arith))
