use Rattle.datum_reader.proofs.ReadParts as lemmas
use Rattle.datum_reader.proofs.laws.parts_were_read.Goals as goal

pub returns : goal.returns
returns c = λ d e h w. lemmas.part_was_read d e h w
