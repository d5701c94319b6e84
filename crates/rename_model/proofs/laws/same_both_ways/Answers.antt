use Rattle.rename_model.proofs.SameLaws.{same_turned}
use Rattle.rename_model.proofs.laws.same_both_ways.Goals as goal

pub returns : goal.returns
returns c = same_turned
