use Rattle.std.proofs.Common.{refl, arith}
use Rattle.included_forms.proofs.PlanLaws.{numbered_more, numbered_fails, numbered_end}
use Rattle.included_forms.proofs.plans.included_data.Goals as goal

pub loop-datum-init : goal.loop-datum-init
loop-datum-init c = λ t has k behind. refl

pub loop-datum-preserved : goal.loop-datum-preserved
loop-datum-preserved c = λ t has k.
    numbered_more t has c.args.way c.args.document c.args.unit c.args.«data».now c.loop-datum.datum-index c.datum-item.result c.loop-datum.number c.args.steps.now.items c.loop-datum.steps.items c.included_with.new.steps.items (omega arith)
    c.datum-item.is (c.loop-datum.invariant t has k) c.in_ok-number.number (c.in_ok-number.ensures t has k)

pub returns-in_err-number : goal.returns-in_err-number
returns-in_err-number c = λ t has k.
    numbered_fails t has c.args.way c.args.document c.args.unit c.args.«data».now c.loop-datum.datum-index c.datum-item.result c.loop-datum.number c.args.steps.now.items c.loop-datum.steps.items c.included_with.new.steps.items (omega arith)
    c.datum-item.is (c.loop-datum.invariant t has k) c.from_residual.result c.in_err-number.field-0.0 c.from_residual.ensures.1 (c.in_err-number.ensures t has k)

pub returns : goal.returns
returns c = λ t has k.
    numbered_end t has c.args.way c.args.document c.args.unit c.args.«data».now c.loop-datum.datum-index c.loop-datum.number c.args.steps.now.items c.loop-datum.steps.items (omega arith) (c.loop-datum.invariant t has k)
