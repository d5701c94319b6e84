use Rattle.std.proofs.Common.{◌∙◌, ap, sym, Ok}
use Rattle.std.specs.Prelude.{List}
use Rattle.datum_reader.specs.declared.open.Frame.{Frame}
use Rattle.datum_reader.specs.Open.{refused}
use Rattle.datum_reader.specs.Views.{leaf_of, data_of}
use Rattle.datum_reader.specs.OpenViews.{spot_of, stack_of}
use Rattle.datum_reader.proofs.StepLaws.{atoms_free}
use Rattle.datum_reader.proofs.step.atom.Goals as goal

pub returns-in_ok-whole-in-Ok : goal.returns-in_ok-whole-in-Ok
returns-in_ok-whole-in-Ok c =
    atoms_free (leaf_of c.args.atom) (spot_of c.args.spot) (data_of c.args.state.now.items.items) (stack_of c.args.state.now.stack.items)
    (ap (λ (fs : List Frame). refused (stack_of fs) (spot_of c.args.spot)) (sym c.as_slice.ensures.value) ∙ c.in-Ok.ensures)
    ∙ ap (λ q. Ok q) (sym c.in_ok-whole-in-Ok.ensures)
