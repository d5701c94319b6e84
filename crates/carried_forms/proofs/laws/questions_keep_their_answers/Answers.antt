use Rattle.std.proofs.Common.{sym, ap, ◌∙◌}
use Rattle.renumbering_laws.specs.Asked.{new_answer, new_asked}
use Rattle.renumbering_laws.proofs.NewAnswers.{answer_moved}
use Rattle.carried_forms.proofs.NumberLaws.{answer_kept, pass_kept, left_kept}
use Rattle.carried_forms.proofs.laws.questions_keep_their_answers.Goals as goal

pub returns : goal.returns
returns c = record {
  question = λ r w v u q o l h. answer_kept r o w v u l q h;
  pass = λ r w v u turns t o l h. pass_kept r o w v u l turns t h;
  left = λ r w v u turns x o l h. left_kept r o w v u l turns x h;
  once_more = λ r s w v u x q o p l m k h.
      let n = new_asked r q in answer_moved s p v v k n.0 n.1 ∙ ap (new_answer s) (answer_kept r o w v u l q h) ∙ sym (answer_moved s p u x m n.0 n.1);
}
