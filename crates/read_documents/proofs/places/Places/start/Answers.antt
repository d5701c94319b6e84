-- A unit that there is begins at its first token.
use Rattle.std.proofs.Common.{sym, ap, ◌∙◌}
use Rattle.read_documents.specs.Places.{bytes_at}
use Rattle.read_documents.proofs.Nths.{get_some, get_none}
use Rattle.read_documents.proofs.PlaceLaws.{start_is, start_no_unit}
use Rattle.read_documents.proofs.places.Places.start.Goals as goal

pub returns-in-Some-clause-exact : goal.returns-in-Some-clause-exact
returns-in-Some-clause-exact c = λ rs us are.
    ap bytes_at c.new.ensures
    ∙ start_is c.args.self.now rs us are c.args.unit c.in-Some.head.now (get_some c.args.self.now.heads.now c.args.unit c.in-Some.head.now (sym c.in-Some.ensures.lookup.0) c.in-Some.ensures.lookup.1)

pub returns-in-None-clause-exact : goal.returns-in-None-clause-exact
returns-in-None-clause-exact c = λ rs us are.
    ap bytes_at c.nowhere.ensures ∙ start_no_unit c.args.self.now rs us are c.args.unit (get_none c.args.self.now.heads.now c.args.unit (sym c.in-None.ensures.lookup.0))
