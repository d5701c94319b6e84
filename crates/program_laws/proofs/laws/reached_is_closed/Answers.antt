use Rattle.program_laws.proofs.Circles.{reached_closed}
use Rattle.program_laws.proofs.laws.reached_is_closed.Goals as goal

pub returns : goal.returns
returns c = λ units ns. reached_closed units ns
