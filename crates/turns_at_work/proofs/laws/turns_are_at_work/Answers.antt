use Rattle.turns_at_work.proofs.TurnsThere.{first_there, second_there, pass_there, left_there}
use Rattle.turns_at_work.proofs.laws.turns_are_at_work.Goals as goal

pub returns : goal.returns
returns c = record {
  first = λ all units known n h p ys zs x g o ready forms k i e. first_there all units known n h p ys zs x g o ready forms k i e;
  second = λ all units known n h p xs g o ready forms k i. second_there all units known n h p xs o ready forms k g i;
  pass = λ w g v turns t here b k. pass_there w g v turns here b k t;
  left = λ w g v turns r here b k. left_there w g v turns here b k r;
}
