use Rattle.note_laws.proofs.NoteLaws.{pass_noted, pass_leaves, left_noted}
use Rattle.note_laws.proofs.laws.notes_are_questions.Goals as goal

pub returns : goal.returns
returns c = record {
  pass = λ w turns t e out h closed others. pass_noted w e out h.state closed others turns t h.notes;
  leaves = λ w turns t e out h closed others. pass_leaves w e out h.state closed others turns t h.notes;
  left = λ w turns before l e out h closed others. left_noted w e out h closed others turns before l;
}
