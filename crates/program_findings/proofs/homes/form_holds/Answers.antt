-- The form at the number's place, if there is one.
use Rattle.std.proofs.Common.{sym, ◌∙◌}
use Rattle.program_findings.proofs.HomeLaws.{form_there, no_form}
use Rattle.program_findings.proofs.homes.form_holds.Goals as goal

pub returns-in-Some : goal.returns-in-Some
returns-in-Some c = c.holds.ensures ∙ form_there c.args.unit c.args.forms.now c.args.number c.in-Some.form.now c.args.occ (sym c.in-Some.ensures.lookup.0) c.in-Some.ensures.lookup.1

pub returns-in-None : goal.returns-in-None
returns-in-None c = no_form c.args.unit c.args.forms.now c.args.number c.args.occ (sym c.in-None.ensures.lookup.0)
