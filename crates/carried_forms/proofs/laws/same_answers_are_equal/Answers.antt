use Rattle.carried_forms.proofs.AnswerLaws.{answers_told}
use Rattle.carried_forms.proofs.laws.same_answers_are_equal.Goals as goal

pub returns : goal.returns
returns c = λ r w v n q h. answers_told r w v n q h
