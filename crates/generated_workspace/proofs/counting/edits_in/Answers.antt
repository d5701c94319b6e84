-- The edits of one document more.
use Rattle.std.proofs.Common.{◌+◌, ◌≤◌, List, length, ap, ◌∙◌, arith}
use Rattle.ls_base.specs.declared.answers.DocEdits.{DocEdits}
use Rattle.ls_base.specs.declared.answers.TextEdit.{TextEdit}
use Rattle.ls_base.specs.declared.places.Range.{Range}
use Rattle.generated_workspace.proofs.SumLaws.{sum_more, sum_whole}
use Rattle.generated_workspace.proofs.counting.edits_in.Goals as goal

pub loop-document-preserved : goal.loop-document-preserved
loop-document-preserved c =
    let added = c.in_ok-add_edits.ensures ∙ ap (λ (xs : List TextEdit). length c.loop-document.ranges + length xs) c.as_slice.ensures in
    sum_more (λ (d : DocEdits). length d.edits) c.args.documents.now c.loop-document.document-index c.document-item.result (length c.loop-document.ranges) (length c.add_edits.new.ranges) c.loop-document-test.true c.document-item.is
    c.loop-document.invariant added

pub returns : goal.returns
returns c =
    let over : length c.args.documents.now ≤ c.loop-document.document-index = omega arith in
    let length_is = ap (λ (xs : List Range). length xs) c.as_slice-2.ensures in
    length_is ∙ sum_whole (λ (d : DocEdits). length d.edits) c.args.documents.now c.loop-document.document-index (length c.loop-document.ranges) over c.loop-document.invariant
