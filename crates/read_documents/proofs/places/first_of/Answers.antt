-- The number at the form's place, if there is one.
use Rattle.std.proofs.Common.{sym}
use Rattle.read_documents.proofs.Nths.{get_some, get_none}
use Rattle.read_documents.proofs.PlaceLaws.{number_there, no_number}
use Rattle.read_documents.proofs.places.first_of.Goals as goal

pub returns-in-Some : goal.returns-in-Some
returns-in-Some c = number_there c.args.firsts.now c.args.form c.in-Some.first.now (get_some c.args.firsts.now c.args.form c.in-Some.first.now (sym c.in-Some.ensures.lookup.0) c.in-Some.ensures.lookup.1)

pub returns-in-None : goal.returns-in-None
returns-in-None c = no_number c.args.firsts.now c.args.form (get_none c.args.firsts.now c.args.form (sym c.in-None.ensures.lookup.0))
