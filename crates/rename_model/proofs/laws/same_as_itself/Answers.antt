use Rattle.rename_model.proofs.SameLaws.{same_as_itself}
use Rattle.rename_model.proofs.laws.same_as_itself.Goals as goal

pub returns : goal.returns
returns c = same_as_itself
