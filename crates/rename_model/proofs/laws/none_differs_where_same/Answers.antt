use Rattle.rename_model.proofs.SameLaws.{none_is_same}
use Rattle.rename_model.proofs.laws.none_differs_where_same.Goals as goal

pub returns : goal.returns
returns c = none_is_same
