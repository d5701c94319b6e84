use Rattle.datum_reader.proofs.ReadParts as lemmas
use Rattle.datum_reader.proofs.laws.data_were_read.Goals as goal

pub returns : goal.returns
returns c = λ text ds n d fits h at. lemmas.datum_was_read text ds n d fits h at
