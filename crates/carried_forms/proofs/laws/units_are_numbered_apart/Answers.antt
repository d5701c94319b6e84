use Rattle.carried_forms.proofs.UnitLaws.{units_apart}
use Rattle.carried_forms.proofs.laws.units_are_numbered_apart.Goals as goal

pub returns : goal.returns
returns c = λ us vs h k u v e. units_apart us vs h k u v e
