use Rattle.session_replies.proofs.OneAnswer.{one_answer, one_replies, one_row}
use Rattle.session_replies.proofs.laws.one_answer.Goals as goal

pub returns : goal.returns
returns c = record { answer = one_answer; lists = one_row; replies = one_replies }
