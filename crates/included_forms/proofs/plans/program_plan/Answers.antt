use Rattle.included_forms.proofs.PlanLaws.{plan_made, own_given}
use Rattle.included_forms.proofs.plans.program_plan.Goals as goal

pub returns : goal.returns
returns c = λ t.
    let n = c.args.document in
    plan_made t n c.new-steps.result.items c.own_forms-ended.new.steps.items c.own_forms-ended.result c.planned.result (own_given t n c.args.«data».now) c.new-steps.ensures.items c.planned.ensures (c.own_forms-ended.ensures t)
