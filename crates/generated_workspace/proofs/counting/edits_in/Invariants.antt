use Rattle.std.proofs.Common.{◌≡◌, length, take}
use Rattle.std.specs.List.{sum_by}
use Rattle.ls_base.specs.declared.answers.DocEdits.{DocEdits}
use Rattle.generated_workspace.proofs.counting.edits_in.Given as goal

-- the edits of the documents gone through
abbrev pub invariant-loop-document : goal.invariant-loop-document
invariant-loop-document l = length l.ranges ≡ sum_by (λ (d : DocEdits). length d.edits) (take l.document-index l.documents)
