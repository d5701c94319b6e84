use Rattle.unit_sources.proofs.ProperNames.{unit_same}
use Rattle.unit_sources.proofs.laws.units_by_proper_names.Goals as goal

pub returns : goal.returns
returns c = λ known others agree t. unit_same known others agree t
