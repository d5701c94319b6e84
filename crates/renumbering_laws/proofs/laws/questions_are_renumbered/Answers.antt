use Rattle.std.proofs.Common.{sym, ap, ◌∙◌}
use Rattle.renumbering_laws.specs.Asked.{new_answer}
use Rattle.renumbering_laws.proofs.NewAnswers.{answer_moved}
use Rattle.renumbering_laws.proofs.AskingSide.{set_aside_asks, finish_asks, uses_ask, item_asks}
use Rattle.renumbering_laws.proofs.laws.questions_are_renumbered.Goals as goal

pub returns : goal.returns
returns c = record {
  set_aside = λ r w v turns t o l. set_aside_asks r o w v l turns t;
  finished = λ r w v turns x o l. finish_asks r o w v l turns x;
  uses = λ r w v us s o l. uses_ask r o w v l us s;
  item = λ r w v turns depth i s o l. item_asks r o w v l turns depth i s;
  answers = λ r w v n q o l. answer_moved r o w v l n q;
  same_answers = λ r w v w' v' q o a b e. answer_moved r o v v' b q.0 q.1 ∙ ap (new_answer r) e ∙ sym (answer_moved r o w w' a q.0 q.1);
}
