use Rattle.session_replies.proofs.CountedLaws.{one_count}
use Rattle.session_replies.proofs.laws.one_count.Goals as goal

pub returns : goal.returns
returns c = λ replies from one other. one_count replies from one other
