use Rattle.note_laws.proofs.TestedNotes.{pass_tested, left_tested}
use Rattle.note_laws.proofs.laws.notes_are_tested.Goals as goal

pub returns : goal.returns
returns c = record {
  pass = λ w v turns t ms same e. pass_tested w v same turns t ms e;
  left = λ w v turns l ms same b e. left_tested w v same b turns l ms e;
}
