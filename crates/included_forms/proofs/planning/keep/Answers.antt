use Rattle.std.proofs.Common.{Bool, ap}
use Rattle.datum_reader.specs.Views.{datum_of}
use Rattle.included_forms.specs.Shapes.{kept}
use Rattle.included_forms.specs.Steps.{from}
use Rattle.included_forms.proofs.Planned.{plans_bad}
use Rattle.included_forms.proofs.planning.keep.Goals as goal

pub returns-then-bad_shape : goal.returns-then-bad_shape
returns-then-bad_shape c = λ t.
    let h = from c.args.origin (datum_of c.args.datum.now) in
    plans_bad t c.args.origin.document c.args.steps.now.items c.bad.result (record { origin = c.args.origin; datum = c.args.datum }) (kept c.args.bad_shape h) c.bad.ensures (ap (λ (b : Bool). kept b h) c.if-bad_shape.true)
