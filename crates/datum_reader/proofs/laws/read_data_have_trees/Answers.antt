use Rattle.datum_reader.proofs.WellFormedLaws as lemmas
use Rattle.datum_reader.proofs.laws.read_data_have_trees.Goals as goal

pub returns : goal.returns
returns c = λ d w. lemmas.can_seed d w
