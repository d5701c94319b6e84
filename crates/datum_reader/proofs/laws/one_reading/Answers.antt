use Rattle.datum_reader.proofs.ReadLaws as readings
use Rattle.datum_reader.proofs.laws.one_reading.Goals as goal

pub returns : goal.returns
returns c = λ text ds es h k. readings.one_reading text ds es h k
