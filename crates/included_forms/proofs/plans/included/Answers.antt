use Rattle.std.proofs.Common.{◌∷◌, [], ap}
use Rattle.scheme_model.specs.Included.{form_or_texts, declaration}
use Rattle.datum_reader.specs.Views.{datum_of}
use Rattle.included_forms.specs.declared.steps.Way.{Way}
use Rattle.included_forms.specs.Steps.{from}
use Rattle.included_forms.specs.Planned.{included_as}
use Rattle.included_forms.proofs.Planned.{plans_same}
use Rattle.included_forms.proofs.plans.included.Goals as goal

pub returns-in-Forms : goal.returns-in-Forms
returns-in-Forms c = λ t has k.
    let h = from c.args.origin (datum_of c.args.datum.now) in
    plans_same t c.args.origin.document c.args.steps.now.items c.form_or_texts.new.steps.items c.form_or_texts.result (form_or_texts t h ∷ []) (included_as t has c.args.way h ∷ [])
    (ap (λ (w : Way). included_as t has w h ∷ []) c.in-Forms.is) (c.form_or_texts.ensures t)

pub returns-in-Declarations : goal.returns-in-Declarations
returns-in-Declarations c = λ t has k.
    let d = datum_of c.args.datum.now in
    let h = from c.args.origin d in
    plans_same t c.args.origin.document c.args.steps.now.items c.declaration.new.steps.items c.declaration.result (declaration t has h d ∷ []) (included_as t has c.args.way h ∷ [])
    (ap (λ (w : Way). included_as t has w h ∷ []) c.in-Declarations.is) (c.declaration.ensures t has k d)
