use Rattle.carried_forms.proofs.CarriedLaws.{carried_only, carried_all}
use Rattle.carried_forms.proofs.laws.carried_exactly.Goals as goal

pub returns : goal.returns
returns c = record {
  only = λ r us vs ps form h. carried_only r us vs ps form h;
  all = λ r us vs ps form h. carried_all r us vs ps form h;
}
