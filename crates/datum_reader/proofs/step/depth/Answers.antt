use Rattle.std.proofs.Common.{sym}
use Rattle.datum_reader.proofs.StackLaws.{depth_last}
use Rattle.datum_reader.proofs.step.depth.Goals as goal

pub returns-in-Some : goal.returns-in-Some
returns-in-Some c = sym (depth_last c.args.stack.now c.in-Some.frame.now (sym c.in-Some.ensures.value))
