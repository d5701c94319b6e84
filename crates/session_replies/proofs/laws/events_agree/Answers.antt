use Rattle.session_replies.proofs.EventLaws.{events_agree}
use Rattle.session_replies.proofs.laws.events_agree.Goals as goal

pub returns : goal.returns
returns c = events_agree
