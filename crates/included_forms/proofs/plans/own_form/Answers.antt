use Rattle.std.proofs.Common.{◌∷◌, [], Ok, sym, ◌∙◌}
use Rattle.scheme_model.specs.Included.{form_or_texts}
use Rattle.scheme_model.specs.IncludedUnits.{own}
use Rattle.datum_reader.specs.Views.{datum_of}
use Rattle.included_forms.proofs.Planned.{plans_none, plans_same}
use Rattle.included_forms.proofs.PlanLaws.{own_given, own_library, own_other}
use Rattle.included_forms.proofs.plans.own_form.Goals as goal

pub returns-then-is_headed : goal.returns-then-is_headed
returns-then-is_headed c = λ t.
    let n = c.args.document in
    let d = c.args.datum.now in
    plans_same t n c.args.steps.now.items c.args.steps.now.items (Ok tt) [] (own_given t n (d ∷ [])) (own_library t n d (sym c.is_headed.ensures ∙ c.if-is_headed.true)) (plans_none t n c.args.steps.now.items)

pub returns : goal.returns
returns c = λ t.
    let n = c.args.document in
    let d = c.args.datum.now in
    plans_same t n c.args.steps.now.items c.form_or_texts.new.steps.items c.form_or_texts.result (form_or_texts t (own n (datum_of d)) ∷ []) (own_given t n (d ∷ [])) (own_other t n d (sym c.is_headed.ensures ∙ c.if-is_headed.false))
    (c.form_or_texts.ensures t)
