use Rattle.std.proofs.Common.{ap}
use Rattle.scheme_model.specs.Questions.{Asking}
use Rattle.form_laws.proofs.AskingAlike.{pass_alike, left_alike}
use Rattle.form_laws.proofs.laws.forms_ask_alike.Goals as goal

pub returns : goal.returns
returns c = record {
  pass = λ w v turns t same h k a. ap (λ (z : Asking). z.asked) (pass_alike w v same h k turns t a);
  left = λ w v turns from to l same h k a. ap (λ (z : Asking). z.asked) (left_alike w v same h k turns from to l a);
}
