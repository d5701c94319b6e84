use Rattle.std.proofs.Common.{[], ◌∷◌, ◌++◌, ap, ◌∙◌, refl}
use Rattle.scheme_model.specs.Data.{Datum}
use Rattle.datum_reader.specs.Views.{data_of}
use Rattle.datum_reader.proofs.DatumLaws.{data_of-append}
use Rattle.datum_reader.proofs.StackLaws.{same_state}
use Rattle.datum_reader.proofs.step.add.Goals as goal

pub returns : goal.returns
returns c =
    same_state _ _ _ _ refl
    (data_of-append c.args.state.now.items.items (c.in_ok-datum.datum ∷ []) c.push.new.self.items c.in_ok-push.ensures.items
    ∙ ap (λ (q : Datum). data_of c.args.state.now.items.items ++ q ∷ []) c.in_ok-datum.ensures)
