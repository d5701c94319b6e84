use Rattle.std.proofs.Common.{sym, subst}
use Rattle.included_forms.specs.Counted.{Stand}
use Rattle.included_forms.specs.Planned.{plan_listing}
use Rattle.included_forms.specs.Tables.{givens}
use Rattle.included_forms.specs.Listed.{IsListed}
use Rattle.included_forms.proofs.tables.Table.program.Goals as goal

pub returns : goal.returns
returns c = λ o t docs h s.
    let gs = givens o t h.members in
    let k = h.stand t s in
    subst (IsListed c.in_ok-written_out.field-0) (c.in_ok-plan.ensures t)
    (c.in_ok-written_out.ensures o.limit gs (plan_listing t c.args.document c.in_ok-plan.plan) (subst (Stand o.limit gs) (sym c.as_slice.ensures.value) k.parts) (c.in_ok-written.ensures o t docs s h.members k))
