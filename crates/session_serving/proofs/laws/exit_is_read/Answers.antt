use Rattle.ls_outside.proofs.CallLaws.{last_is_made}
use Rattle.session_serving.proofs.laws.exit_is_read.Goals as goal

pub returns : goal.returns
returns c = λ old new exit ends. last_is_made old.source.reads new.source.reads _ _ ends.source.1.reads
