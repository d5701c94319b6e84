use Rattle.std.proofs.Common.{◌≡◌, List, length, take}
use Rattle.std.specs.FinMap.{entries}
use Rattle.std.specs.List.{sum_by}
use Rattle.read_documents.specs.Readings.{AreReadAs, Read}
use Rattle.read_documents.specs.declared.documents.Document.{Document}
use Rattle.program_answers.specs.ToldAnswers.{answer_of}
use Rattle.scheme_model.specs.Session as model
use Rattle.generated_workspace.specs.Selfrun.{arrows_to, defined_at}
use Rattle.generated_workspace.proofs.counting.count_arrows.Given as goal

-- the arrows that lead to the documents gone through
abbrev pub invariant-loop-document : goal.invariant-loop-document
invariant-loop-document l = (rs : List Read) → AreReadAs (entries l.workspace.texts) rs →
    length l.ranges ≡ sum_by (λ (c : Document). arrows_to c.uri (answer_of l.workspace.encoding (entries l.workspace.texts) rs c.uri defined_at model.Arrows)) (take l.document-index l.documents)
