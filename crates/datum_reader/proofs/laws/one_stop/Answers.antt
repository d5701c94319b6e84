use Rattle.datum_reader.proofs.Stops as stops
use Rattle.datum_reader.proofs.laws.one_stop.Goals as goal

pub returns : goal.returns
returns c = λ text e f h k. stops.one_stop text e f h k
