use Rattle.note_laws.proofs.NotesStay.{pass_stays, left_stays}
use Rattle.note_laws.proofs.laws.notes_stay.Goals as goal

pub returns : goal.returns
returns c = record {
  pass = λ w v turns t same h k closed there a. pass_stays w v same h k closed there turns t a;
  left = λ w v turns from to l same h k closed there a. left_stays w v same h k closed there turns from to l a;
}
