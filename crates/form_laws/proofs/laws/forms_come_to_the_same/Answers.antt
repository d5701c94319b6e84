use Rattle.form_laws.proofs.FormLaws.{set_same, finish_same}
use Rattle.form_laws.proofs.laws.forms_come_to_the_same.Goals as goal

pub returns : goal.returns
returns c = record {
  set_aside = λ w v turns t same h k a. set_same w v same turns t h k a;
  finished = λ w v turns from to l same h k a. finish_same w v same turns from to l h k a;
}
