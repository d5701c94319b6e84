-- The diagnostics of one document more.
use Rattle.std.proofs.Common.{◌+◌, ◌≤◌, ℕ, List, length, ap, ◌∙◌, arith}
use Rattle.ls_base.specs.declared.answers.Diagnostic.{Diagnostic}
use Rattle.ls_base.specs.declared.places.Range.{Range}
use Rattle.read_documents.specs.declared.documents.Document.{Document}
use Rattle.program_answers.specs.Updates.{list_at}
use Rattle.generated_workspace.proofs.SumLaws.{sum_more, sum_whole}
use Rattle.generated_workspace.proofs.known.count_diagnostics.Goals as goal

pub loop-document-preserved : goal.loop-document-preserved
loop-document-preserved c =
    let known = c.args.known.now in
    let many : Document → ℕ = λ d. length (list_at known d.uri) in
    let added = c.in_ok-add_ranges.ensures ∙ ap (λ (xs : List Diagnostic). length c.loop-document.ranges + length xs) (c.listed.ensures ∙ ap (λ (uri : List ℕ). list_at known uri) c.as_str.ensures) in
    sum_more many c.args.documents.now c.loop-document.document-index c.document-item.result (length c.loop-document.ranges) (length c.add_ranges.new.ranges) c.loop-document-test.true c.document-item.is c.loop-document.invariant added

pub returns : goal.returns
returns c =
    let over : length c.args.documents.now ≤ c.loop-document.document-index = omega arith in
    let length_is = ap (λ (xs : List Range). length xs) c.as_slice.ensures in
    length_is ∙ sum_whole (λ (d : Document). length (list_at c.args.known.now d.uri)) c.args.documents.now c.loop-document.document-index (length c.loop-document.ranges) over c.loop-document.invariant
