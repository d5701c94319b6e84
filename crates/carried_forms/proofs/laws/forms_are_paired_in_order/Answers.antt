use Rattle.carried_forms.proofs.PairLaws.{ends_rise, one_number}
use Rattle.carried_forms.proofs.laws.forms_are_paired_in_order.Goals as goal

pub returns : goal.returns
returns c = record {
  order = λ fs gs. ends_rise fs gs;
  numbers = λ us vs u f g e. one_number us vs u f g e;
}
