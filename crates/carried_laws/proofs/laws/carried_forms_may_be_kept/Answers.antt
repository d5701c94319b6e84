use Rattle.carried_laws.proofs.CarriedOver.{carried_over, own_go_on}
use Rattle.carried_laws.proofs.laws.carried_forms_may_be_kept.Goals as goal

pub returns : goal.returns
returns c = record {
  over = λ before after d once once_after homes h. carried_over before after once once_after homes d h;
  own = λ before after a b. own_go_on before after a b;
}
