use Rattle.datum_reader.proofs.Stops as stops
use Rattle.datum_reader.proofs.laws.never_reads_and_stops.Goals as goal

pub returns : goal.returns
returns c = λ text ds e h k. stops.never_reads_and_stops text ds e h k
