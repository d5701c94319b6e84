-- What stands in the list stands in a document.
use Rattle.std.proofs.Common.{ap, sym}
use Rattle.read_documents.specs.Belongs.{error_in}
use Rattle.read_documents.proofs.Nths.{get_none, get_some}
use Rattle.program_answers.proofs.TextLaws.{error_within}
use Rattle.program_answers.proofs.open.error_at.Goals as goal

pub returns-in-Some-clause-inside : goal.returns-in-Some-clause-inside
returns-in-Some-clause-inside c = λ count are. error_within count c.args.errors.now are c.args.unit c.in-Some.error.now (get_some c.args.errors.now c.args.unit c.in-Some.error.now (sym c.in-Some.ensures.lookup.0) c.in-Some.ensures.lookup.1)

pub returns-in-Some-clause-exact : goal.returns-in-Some-clause-exact
returns-in-Some-clause-exact c = ap error_in (sym (get_some c.args.errors.now c.args.unit c.in-Some.error.now (sym c.in-Some.ensures.lookup.0) c.in-Some.ensures.lookup.1))

pub returns-in-None-clause-exact : goal.returns-in-None-clause-exact
returns-in-None-clause-exact c = ap error_in (sym (get_none c.args.errors.now c.args.unit (sym c.in-None.ensures.lookup.0)))
