use Rattle.unit_sources.proofs.StandardLaws.{no_unit}
use Rattle.unit_sources.proofs.laws.standard_names_mean_no_unit.Goals as goal

pub returns : goal.returns
returns c all n h = no_unit n h all 0
