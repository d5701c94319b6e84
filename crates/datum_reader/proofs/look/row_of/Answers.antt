use Rattle.datum_reader.proofs.LookLaws.{nothing_in}
use Rattle.datum_reader.proofs.look.row_of.Goals as goal

pub returns-in-None : goal.returns-in-None
returns-in-None c = nothing_in c.args.parts.now c.in-None.ensures.cases

pub returns-in-Some : goal.returns-in-Some
returns-in-Some c = c.in-Some.ensures.cases.0
