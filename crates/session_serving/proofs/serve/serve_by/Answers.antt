use Rattle.session_serving.proofs.PieceEndsSession.{nothing_served}
use Rattle.session_serving.proofs.serve.serve_by.Goals as goal

pub returns-in_default : goal.returns-in_default
returns-in_default g c = nothing_served c.args.looking _ _
