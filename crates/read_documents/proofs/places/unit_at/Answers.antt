-- The unit at the form's place, if there is one.
use Rattle.std.proofs.Common.{sym}
use Rattle.read_documents.proofs.Nths.{get_some, get_none}
use Rattle.read_documents.proofs.PlaceLaws.{unit_there, no_unit_there}
use Rattle.read_documents.proofs.places.unit_at.Goals as goal

pub returns-in-Some : goal.returns-in-Some
returns-in-Some c = unit_there c.args.units.now c.args.form c.in-Some.home.now c.args.unit (get_some c.args.units.now c.args.form c.in-Some.home.now (sym c.in-Some.ensures.lookup.0) c.in-Some.ensures.lookup.1)

pub returns-in-None : goal.returns-in-None
returns-in-None c = no_unit_there c.args.units.now c.args.form c.args.unit (get_none c.args.units.now c.args.form (sym c.in-None.ensures.lookup.0))
