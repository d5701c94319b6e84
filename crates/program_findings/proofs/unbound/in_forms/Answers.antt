use Rattle.std.proofs.Common.{◌<◌, arith, length, map}
use Rattle.std.proofs.lemmas.List.{length-map}
use Rattle.program_findings.proofs.ReferredForms.{form_at, referred}
use Rattle.program_findings.proofs.UnboundLaws.{unbound_more}
use Rattle.program_findings.proofs.unbound.in_forms.Goals as goal

pub loop-form-preserved : goal.loop-form-preserved
loop-form-preserved c =
    let forms = c.args.forms.now in
    let i = c.loop-form.form-index in
    let below : i < length forms = omega arith in
    unbound_more (map referred forms) i c.form-item.result.now c.loop-form.found.items c.in_form.new.found.items (omega (arith, length-map forms referred)) (form_at forms i c.form-item.result below c.form-item.is) c.loop-form.invariant c.in_ok-in_form.ensures
