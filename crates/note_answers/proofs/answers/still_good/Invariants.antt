use Rattle.std.proofs.Common.{◌≡◌, take}
use Rattle.std.specs.List.{All}
use Rattle.form_notes.specs.declared.notes.Note.{Note}
use Rattle.note_answers.specs.Answered.{HasAnswer}
use Rattle.note_answers.proofs.answers.still_good.Given as goal

abbrev pub invariant-loop-note : goal.invariant-loop-note
invariant-loop-note l = All (λ (x : Note). x.behind ≡ 0 → HasAnswer l.work l.units x) (take l.note-index l.notes)
