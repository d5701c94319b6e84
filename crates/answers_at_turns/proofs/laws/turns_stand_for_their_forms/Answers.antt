use Rattle.answers_at_turns.proofs.OwnTurns.{own_work, own_stands, own_answers, rest_stands, rest_answers}
use Rattle.answers_at_turns.proofs.laws.turns_stand_for_their_forms.Goals as goal

pub returns : goal.returns
returns c = record {
  form = λ n g v u at here there. own_work n g at u there v here;
  entry = λ n g v u at here there. (own_stands n g at u there v here, own_answers n g at u there v here);
  rest = λ n program h g u l st at has there left. (rest_stands n g at u there program h st has l left, rest_answers n g at u there program h st has l left);
}
