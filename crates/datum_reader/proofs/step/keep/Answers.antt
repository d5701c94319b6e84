use Rattle.std.proofs.Common.{[], ◌∷◌, ◌++◌, ap, ◌∙◌}
use Rattle.scheme_model.specs.Data.{Datum}
use Rattle.datum_reader.specs.Views.{data_of}
use Rattle.datum_reader.proofs.DatumLaws.{data_of-append}
use Rattle.datum_reader.proofs.StackLaws.{stack_push, same_state}
use Rattle.datum_reader.proofs.step.keep.Goals as goal

pub returns : goal.returns
returns c =
    same_state _ _ _ _ (stack_push c.args.state.now.stack.items c.push-2.new.self.items _ c.in_ok-push-2.ensures.items)
    (data_of-append c.args.state.now.items.items (c.in_ok-datum.datum ∷ []) c.push.new.self.items c.in_ok-push.ensures.items
    ∙ ap (λ (q : Datum). data_of c.args.state.now.items.items ++ q ∷ []) c.in_ok-datum.ensures)
