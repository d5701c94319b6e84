-- The form at the place, if there is one.
use Rattle.std.proofs.Common.{sym}
use Rattle.read_documents.proofs.Nths.{get_some, get_none}
use Rattle.read_documents.proofs.PlaceLaws.{number_there, no_number}
use Rattle.unit_imports.proofs.entries.form_in.Goals as goal

pub returns-in-Some : goal.returns-in-Some
returns-in-Some c = number_there c.args.forms.now c.args.place c.in-Some.form.now (get_some c.args.forms.now c.args.place c.in-Some.form.now (sym c.in-Some.ensures.lookup.0) c.in-Some.ensures.lookup.1)

pub returns-in-None : goal.returns-in-None
returns-in-None c = no_number c.args.forms.now c.args.place (get_none c.args.forms.now c.args.place (sym c.in-None.ensures.lookup.0))
