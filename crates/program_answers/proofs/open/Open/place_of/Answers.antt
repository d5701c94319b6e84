-- The token stands in one of the documents, where the definition has it.
use Rattle.std.proofs.Common.{subst}
use Rattle.std.specs.FinMap.{entries}
use Rattle.scheme_model.specs.Diagnostics.{Bytes}
use Rattle.program_answers.specs.Placed.{IsPlace}
use Rattle.read_documents.specs.Places.{bytes_at}
use Rattle.read_documents.specs.Readings.{program_in}
use Rattle.program_answers.proofs.open.Open.place_of.Goals as goal

pub returns-clause-inside : goal.returns-clause-inside
returns-clause-inside c = (bytes_at c.at.result, c.in_ok-place.ensures.place)

pub returns-clause-exact : goal.returns-clause-exact
returns-clause-exact c = λ rs are.
    subst (λ (b : Bytes). IsPlace c.args.encoding (entries c.args.self.now) b c.in_ok-place.place) (c.at.ensures.exact rs (program_in rs).units (c.places.ensures.exact rs are)) c.in_ok-place.ensures.place
