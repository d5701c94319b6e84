use Rattle.form_laws.proofs.FormLaws.{set_itself, finish_itself, set_law, finish_law}
use Rattle.form_laws.proofs.laws.forms_are_told_by_questions.Goals as goal

pub returns : goal.returns
returns c = record {
  set_aside = λ w turns t h. set_itself w turns t h;
  finished = λ w turns l h. finish_itself w turns l h;
  set_aside_there = λ w v turns t same h k a. set_law w v same turns t h k a;
  finished_there = λ w v turns from to l same h k a. finish_law w v same turns from to l h k a;
}
