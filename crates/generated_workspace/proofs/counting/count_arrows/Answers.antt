-- The arrows that lead to one document more.
use Rattle.std.proofs.Common.{◌≤◌, ◌+◌, ℕ, List, length, subst, ap, ◌∙◌, arith}
use Rattle.std.specs.FinMap.{entries}
use Rattle.document_store.specs.Texts.{Texts}
use Rattle.read_documents.specs.Readings.{AreDocuments}
use Rattle.read_documents.specs.declared.documents.Document.{Document}
use Rattle.ls_base.specs.declared.places.Range.{Range}
use Rattle.program_answers.specs.ToldAnswers.{answer_of}
use Rattle.scheme_model.specs.Session as model
use Rattle.generated_workspace.specs.Selfrun.{arrows_to, defined_at}
use Rattle.generated_workspace.proofs.CountLaws.{over_documents}
use Rattle.generated_workspace.proofs.SumLaws.{sum_more, sum_whole}
use Rattle.generated_workspace.proofs.counting.count_arrows.Goals as goal

pub loop-document-preserved : goal.loop-document-preserved
loop-document-preserved c = λ rs are.
    let e = c.args.workspace.now.encoding in
    let ds = entries c.args.workspace.now.texts in
    let uri = c.as_str-uri.ensures in
    let arrows : Document → ℕ = λ x. arrows_to x.uri (answer_of e ds rs x.uri defined_at model.Arrows) in
    let added = c.in_ok-add_answer.ensures ∙ ap (λ a. length c.loop-document.ranges + arrows_to c.as_str-uri.result.now a) (c.in_ok-answer.ensures rs are)
    ∙ (λ i. length c.loop-document.ranges + arrows_to (uri i) (answer_of e ds rs (uri i) defined_at model.Arrows)) in
    sum_more arrows c.documents-documents.result.now c.loop-document.document-index c.document-item.result (length c.loop-document.ranges) (length c.add_answer.new.ranges) c.loop-document-test.true c.document-item.is
    (c.loop-document.invariant rs are) added

pub returns : goal.returns
returns c = λ rs are.
    let e = c.args.workspace.now.encoding in
    let ds = entries c.args.workspace.now.texts in
    let cs = c.documents-documents.result.now in
    let arrows : List ℕ → ℕ = λ uri. arrows_to uri (answer_of e ds rs uri defined_at model.Arrows) in
    let over : length cs ≤ c.loop-document.document-index = omega arith in
    let length_is = ap (λ (xs : List Range). length xs) c.as_slice.ensures in
    length_is ∙ sum_whole (λ (x : Document). arrows x.uri) cs c.loop-document.document-index (length c.loop-document.ranges) over (c.loop-document.invariant rs are)
    ∙ over_documents arrows ds cs (subst (λ (t : Texts). AreDocuments (entries t) cs) c.open.ensures c.documents-documents.ensures) 0
