use Rattle.std.proofs.Common.{[], ◌∷◌, ◌++◌, List, ap, sym, ◌∙◌, refl}
use Rattle.scheme_model.specs.Data.{Datum, atom, spelled}
use Rattle.datum_reader.specs.declared.open.Frame.{Frame}
use Rattle.datum_reader.specs.Open.{at, state, completed}
use Rattle.datum_reader.specs.Views.{data_of, leaf_of}
use Rattle.datum_reader.specs.OpenViews.{stack_of, spot_of}
use Rattle.datum_reader.proofs.DatumLaws.{data_of-append}
use Rattle.datum_reader.proofs.StackLaws.{same_state}
use Rattle.datum_reader.proofs.step.whole.Goals as goal

pub returns-then-adds : goal.returns-then-adds
returns-then-adds c =
    let items = data_of c.args.state.now.items.items in
    let d = atom (at (spot_of c.args.spot)) (spelled (leaf_of c.args.atom)) in
    same_state _ _ _ _ refl
    (data_of-append c.args.state.now.items.items (c.make_atom-datum.result ∷ []) c.push.new.self.items c.in_ok-push.ensures.items
    ∙ ap (λ (q : Datum). items ++ q ∷ []) c.make_atom-datum.ensures)
    ∙ sym (ap (λ (fs : List Frame). completed d items (stack_of fs)) (sym c.as_slice.ensures.value) ∙ c.adds.ensures c.if-adds.true d items ∙ ap (λ (fs : List Frame). state (items ++ d ∷ []) (stack_of fs)) c.as_slice.ensures.value)
