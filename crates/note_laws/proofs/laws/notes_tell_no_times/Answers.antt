use Rattle.note_laws.proofs.BareNotes.{notes_bare}
use Rattle.note_laws.proofs.laws.notes_tell_no_times.Goals as goal

pub returns : goal.returns
returns c = λ names r xs ms. notes_bare names r xs ms
