use Rattle.session_serving.proofs.Uncancelled.{serves_as}
use Rattle.session_serving.proofs.serve.serve.Goals as goal

pub returns : goal.returns
returns g c = serves_as _ _ _ _ _ c.serve_by.ensures
