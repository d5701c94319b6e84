use Rattle.std.proofs.Common.{◌≡◌, ◌+◌, suc, sym, ◌∙◌, arith}
use Rattle.included_forms.proofs.PlanLaws.{passed_library, passed_other, stopped}
use Rattle.included_forms.proofs.plans.included_with.Goals as goal

pub returns-then-is_headed : goal.returns-then-is_headed
returns-then-is_headed c = λ t has k.
    passed_library t has c.args.way c.args.document c.args.unit c.args.steps.now.items c.args.number c.args.datum.now (sym c.is_headed.ensures ∙ c.if-is_headed.true)

pub returns-in_err-included : goal.returns-in_err-included
returns-in_err-included c = λ t has k.
    stopped t has c.args.way c.args.document c.args.unit c.args.steps.now.items c.included.new.steps.items c.from_residual.result c.args.number c.in_err-included.field-0.0 c.args.datum.now (sym c.is_headed.ensures ∙ c.if-is_headed.false)
    c.from_residual.ensures.1 (c.in_err-included.ensures t has k)

pub returns : goal.returns
returns c = λ t has k.
    let next : c.args.number + 1 ≡ suc c.args.number = omega arith in
    passed_other t has c.args.way c.args.document c.args.unit c.args.steps.now.items c.included.new.steps.items c.args.number (c.args.number + 1) c.args.datum.now (sym c.is_headed.ensures ∙ c.if-is_headed.false) next (c.in_ok-included.ensures t has k)
