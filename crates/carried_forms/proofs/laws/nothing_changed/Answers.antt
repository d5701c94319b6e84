use Rattle.carried_forms.proofs.SameLaws.{goes_on_as_itself}
use Rattle.carried_forms.proofs.laws.nothing_changed.Goals as goal

pub returns : goal.returns
returns c = λ us h. goes_on_as_itself us h
