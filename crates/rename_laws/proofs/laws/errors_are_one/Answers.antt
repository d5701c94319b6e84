use Rattle.rename_laws.proofs.UnitErrors.{errors_are_one}
use Rattle.rename_laws.proofs.laws.errors_are_one.Goals as goal

pub returns : goal.returns
returns c = errors_are_one
