use Rattle.session_replies.proofs.BodiesSay.{says}
use Rattle.session_replies.proofs.laws.no_body_wants_memory.Goals as goal

pub returns : goal.returns
returns c = says
