use Rattle.unit_sources.proofs.KnownTexts.{known_told}
use Rattle.unit_sources.proofs.laws.known_by_texts.Goals as goal

pub returns : goal.returns
returns c = known_told
