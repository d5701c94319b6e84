use Rattle.std.proofs.Common.{◌≡◌, IfOk, subst}
use Rattle.scheme_model.specs.Included.{Listing, homed_from}
use Rattle.scheme_model.specs.Includes.{program_data}
use Rattle.datum_reader.specs.Views.{data_of}
use Rattle.included_forms.specs.Planned.{plan_listing, included_from}
use Rattle.included_forms.proofs.PlanLaws.{plan_made, given_in_way}
use Rattle.included_forms.proofs.plans.included_plan.Goals as goal

pub returns : goal.returns
returns c = λ t has k.
    let n = c.args.document in
    let ds = data_of c.args.«data».now in
    let ended = c.included_data-ended in
    subst (λ (l : Listing). IfOk c.planned.result (λ p. plan_listing t n p ≡ l)) (given_in_way t has c.args.way (homed_from n c.args.unit 0 (program_data ds)))
    (plan_made t n c.new-steps.result.items ended.new.steps.items ended.result c.planned.result (included_from t has c.args.way n c.args.unit 0 ds) c.new-steps.ensures.items c.planned.ensures (ended.ensures t has k))
