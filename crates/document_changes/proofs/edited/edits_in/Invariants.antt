use Rattle.std.proofs.Common.{◌≡◌, map, take}
use Rattle.std.specs.FinMap.{entries}
use Rattle.program_answers.specs.ToldAnswers.{text_of}
use Rattle.text_edits.specs.Views.{edit_of}
use Rattle.document_changes.specs.Edited.{edit_in}
use Rattle.document_changes.proofs.edited.edits_in.Given as goal

abbrev pub invariant-loop-edit : goal.invariant-loop-edit
invariant-loop-edit l = map edit_of l.all.items ≡ map (edit_in l.encoding (text_of (entries l.texts) l.document)) (take l.edit-index l.edits)
