use Rattle.std.specs.Prelude.{Ok}
use Rattle.scheme_model.specs.FormsAlike.{questions_of_pass, questions_of_left}
use Rattle.form_laws.proofs.AskingSides.{NoLocals}
use Rattle.form_laws.proofs.OwnStates.{entry_given}
use Rattle.question_laws.proofs.OwnRuns.{pass_known, left_known}
use Rattle.question_laws.proofs.NotedFirst.{left_noted_first, all_or}
use Rattle.question_laws.proofs.NotedAnswers.{noted_suffice, notes_suffice}
use Rattle.question_laws.proofs.laws.noted_questions_suffice.Goals as goal

pub returns : goal.returns
returns c = record {
  pass = λ w v turns t same h k closed closed_there.
      let en : NoLocals w = λ u x. entry_given (w.state.entry u x) (h.state.entries u x) in
      noted_suffice w v same h.state k.state closed closed_there (questions_of_pass w turns t) (pass_known w en turns t).1 en;
  left = λ w v turns l same h k closed closed_there.
      let en : NoLocals w = λ u x. entry_given (w.state.entry u x) (h.entries u x) in
      noted_suffice w v same h k closed closed_there (questions_of_left w turns (Ok l)) (left_known w en turns l).1 en;
  pass_first = λ w turns t. all_or w (questions_of_pass w turns t);
  left_first = λ w turns l h.
      let en : NoLocals w = λ u x. entry_given (w.state.entry u x) (h.entries u x) in
      left_noted_first w en turns l;
  notes = λ w v qs ns h. notes_suffice w v qs ns h;
}
