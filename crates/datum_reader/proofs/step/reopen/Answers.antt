use Rattle.std.proofs.Common.{refl}
use Rattle.datum_reader.proofs.StackLaws.{stack_push, same_state}
use Rattle.datum_reader.proofs.step.reopen.Goals as goal

pub returns : goal.returns
returns c = same_state _ _ _ _ (stack_push c.args.state.now.stack.items c.push.new.self.items _ c.in_ok-push.ensures.items) refl
