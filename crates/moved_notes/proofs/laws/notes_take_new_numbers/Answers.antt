use Rattle.moved_notes.proofs.NotedMoved.{all_moved, told_moved, pass_moved, left_moved}
use Rattle.moved_notes.proofs.laws.notes_take_new_numbers.Goals as goal

pub returns : goal.returns
returns c = record {
  noted = λ r w v qs o t. all_moved r o w v t qs;
  told = λ r w v q o t. told_moved r o w v t q;
  pass = λ r w v turns x ms o t e. pass_moved r o w v t turns x ms e;
  left = λ r w v turns l ms o t e. left_moved r o w v t turns l ms e;
}
