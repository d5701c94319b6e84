use Rattle.rename_conditions.proofs.AcceptedLaws.{accepted_exactly}
use Rattle.rename_conditions.proofs.laws.accepted_exactly.Goals as goal

pub returns : goal.returns
returns c = accepted_exactly
