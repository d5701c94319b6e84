-- The range is that of the document's text, and the document is there.
use Rattle.std.proofs.Common.{ap, ◌∙◌}
use Rattle.std.specs.FinMap.{entries}
use Rattle.ls_base.specs.declared.places.Range.{Range}
use Rattle.program_answers.specs.ToldAnswers.{document_at}
use Rattle.program_answers.proofs.OpenLaws.{document_there}
use Rattle.program_answers.proofs.open.Open.place.Goals as goal

pub returns-clause-place : goal.returns-clause-place
returns-clause-place c =
    let ds = entries c.args.self.now in
    let n = c.args.at.document in
    (document_at ds n, document_there ds n c.requires, c.in_ok-uri.ensures.cases ∙ c.document.ensures.uri, ap (λ (r : Range). r.start) c.range-range.ensures, ap (λ (r : Range). r.end) c.range-range.ensures)
