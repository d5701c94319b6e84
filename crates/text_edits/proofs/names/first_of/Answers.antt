use Rattle.std.proofs.Common.{sym}
use Rattle.text_edits.proofs.KeyLaws.{first_there, no_first, get_some, get_none}
use Rattle.text_edits.proofs.names.first_of.Goals as goal

pub returns-in-Some : goal.returns-in-Some
returns-in-Some c = first_there c.args.firsts.now c.args.form c.in-Some.first.now (get_some c.args.firsts.now c.args.form c.in-Some.first.now (sym c.in-Some.ensures.lookup.0) c.in-Some.ensures.lookup.1)

pub returns-in-None : goal.returns-in-None
returns-in-None c = no_first c.args.firsts.now c.args.form (get_none c.args.firsts.now c.args.form (sym c.in-None.ensures.lookup.0))
