use Rattle.scope_env.proofs.PutBack.{put_back}
use Rattle.scope_env.proofs.laws.bindings_are_put_back.Goals as goal

pub returns : goal.returns
returns c = put_back
