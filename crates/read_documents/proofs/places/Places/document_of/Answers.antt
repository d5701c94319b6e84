-- The document of the unit at the place, if there is one.
use Rattle.std.proofs.Common.{sym}
use Rattle.read_documents.proofs.Nths.{get_some, get_none}
use Rattle.read_documents.proofs.PlaceLaws.{document_is, no_document}
use Rattle.read_documents.proofs.places.Places.document_of.Goals as goal

pub returns-in-Some-clause-inside : goal.returns-in-Some-clause-inside
returns-in-Some-clause-inside c = λ can some. can c.args.unit c.in-Some.head.now (get_some c.args.self.now.heads.now c.args.unit c.in-Some.head.now (sym c.in-Some.ensures.lookup.0) c.in-Some.ensures.lookup.1)

pub returns-in-Some-clause-exact : goal.returns-in-Some-clause-exact
returns-in-Some-clause-exact c = λ rs us are.
    document_is c.args.self.now rs us are c.args.unit c.in-Some.head.now (get_some c.args.self.now.heads.now c.args.unit c.in-Some.head.now (sym c.in-Some.ensures.lookup.0) c.in-Some.ensures.lookup.1)

pub returns-in-None-clause-exact : goal.returns-in-None-clause-exact
returns-in-None-clause-exact c = λ rs us are. no_document c.args.self.now rs us are c.args.unit (get_none c.args.self.now.heads.now c.args.unit (sym c.in-None.ensures.lookup.0))
