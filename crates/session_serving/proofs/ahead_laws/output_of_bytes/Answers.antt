use Rattle.session_serving.proofs.Uncancelled.{output_as}
use Rattle.session_serving.proofs.ahead_laws.output_of_bytes.Goals as goal

pub returns : goal.returns
returns c = output_as
