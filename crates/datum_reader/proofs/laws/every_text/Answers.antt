use Rattle.datum_reader.proofs.Stops as stops
use Rattle.datum_reader.proofs.laws.every_text.Goals as goal

pub returns : goal.returns
returns c = stops.every_text
