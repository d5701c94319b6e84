use Rattle.std.proofs.Common.{refl}
use Rattle.carried_forms.proofs.WorkLaws.{work_is_at_most_all, work_on_all}
use Rattle.carried_forms.proofs.laws.work_is_bounded.Goals as goal

pub returns : goal.returns
returns c = record {
  most = λ before after. work_is_at_most_all before after;
  all = λ after. work_on_all after;
  none = λ before. refl;
}
