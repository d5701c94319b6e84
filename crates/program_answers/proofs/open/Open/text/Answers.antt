-- The text that the store has for a document is its own.
use Rattle.std.proofs.Common.{ap, ◌∙◌}
use Rattle.std.specs.FinMap.{entries}
use Rattle.document_store.specs.Texts.{Texts, text_at}
use Rattle.program_answers.specs.ToldAnswers.{document_at}
use Rattle.program_answers.proofs.OpenLaws.{document_there}
use Rattle.program_answers.proofs.TextLaws.{in_store}
use Rattle.program_answers.proofs.open.Open.text.Goals as goal

pub returns : goal.returns
returns c =
    let ds = entries c.args.self.now in
    let d = document_at ds c.args.number in
    let uri = c.document.result.now.uri in
    c.text_in.ensures d.1.1 (ap (λ (t : Texts). text_at t uri) c.self.view_is ∙ in_store c.args.self.now c.args.number d uri (document_there ds c.args.number c.requires) c.document.ensures.uri)
