use Rattle.std.proofs.Common.{◌≡◌, length, take}
use Rattle.std.specs.List.{sum_by}
use Rattle.read_documents.specs.declared.documents.Document.{Document}
use Rattle.program_answers.specs.Updates.{list_at}
use Rattle.generated_workspace.proofs.known.count_diagnostics.Given as goal

-- the diagnostics of the documents gone through
abbrev pub invariant-loop-document : goal.invariant-loop-document
invariant-loop-document l = length l.ranges ≡ sum_by (λ (d : Document). length (list_at l.known d.uri)) (take l.document-index l.documents)
