use Rattle.std.proofs.Common.{◌∙◌, ap, ◌∷◌}
use Rattle.datum_reader.specs.Views.{data_of}
use Rattle.datum_reader.specs.OpenViews.{spot_of, opener_of, stack_of}
use Rattle.datum_reader.proofs.StackLaws.{stack_push, same_state}
use Rattle.datum_reader.proofs.step.push.Goals as goal

pub returns : goal.returns
returns c =
    let fs = c.args.state.now.stack.items in
    same_state _ _ _ _
    (stack_push fs c.push.new.self.items _ c.in_ok-push.ensures.items
    ∙ ap (λ v. record { opener = opener_of c.args.opener; spot = spot_of c.args.spot; before = data_of v.items; depth = c.args.depth } ∷ stack_of fs) c.replace-before.ensures.value)
    (ap (λ v. data_of v.items) c.replace-before.ensures.after)
