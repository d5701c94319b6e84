use Rattle.moves.proofs.StandLaws.{still_apart}
use Rattle.moves.proofs.laws.identifiers_stay_apart.Goals as goal

pub returns : goal.returns
returns c r is one apart = still_apart r one is apart
