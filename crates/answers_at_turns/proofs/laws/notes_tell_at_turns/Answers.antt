use Rattle.answers_at_turns.proofs.AtTurns.{first_told, later_told}
use Rattle.answers_at_turns.proofs.laws.notes_tell_at_turns.Goals as goal

pub returns : goal.returns
returns c = record {
  first = λ n program h g v st at here closed same. first_told n program h g st at v here closed same;
  later = λ n program h g v st at has here closed same. later_told n program h g st at has v here closed same;
}
