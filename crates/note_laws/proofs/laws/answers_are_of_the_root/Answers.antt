use Rattle.note_laws.proofs.BehindNotes.{root_answers, roots_same, roots_outside, answers_behind, pass_behind}
use Rattle.note_laws.proofs.laws.answers_are_of_the_root.Goals as goal

pub returns : goal.returns
returns c = record {
  same = λ v u n m q entries same known h. root_answers v u n m entries same known q h;
  roots = λ s t a b c d e. roots_same s t a b c d e;
  outside_of = λ s t e. roots_outside s t e;
  outside = λ v n q entries h. answers_behind v n entries q h;
  notes = λ w v u turns t ms same entries e r. pass_behind w v same entries u turns t ms e r;
}
