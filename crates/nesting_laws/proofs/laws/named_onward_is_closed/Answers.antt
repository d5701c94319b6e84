use Rattle.nesting_laws.proofs.Closed.{onward_closed}
use Rattle.nesting_laws.proofs.laws.named_onward_is_closed.Goals as goal

pub returns : goal.returns
returns c = λ all n. onward_closed all n
