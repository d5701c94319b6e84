use Rattle.scheme_model.specs.UnitExpansion.{one_form}
use Rattle.scheme_model.specs.FormsAlike.{set_aside_asking}
use Rattle.form_laws.proofs.AskingSides.{NoLocals}
use Rattle.form_laws.proofs.OwnStates.{entry_given}
use Rattle.question_laws.proofs.OwnRuns.{pass_known}
use Rattle.question_laws.proofs.Closed.{again_closed}
use Rattle.question_laws.proofs.ClosedSteps.{run_later, finish_later}
use Rattle.question_laws.proofs.ClosedPrograms.{programs_closed}
use Rattle.question_laws.proofs.laws.imports_stand.Goals as goal

pub returns : goal.returns
returns c = record {
  units = λ all units known n p. programs_closed all units known n p;
  pass = λ w turns t closed. (run_later w.known turns (one_form t w.notes) w.state).0 closed;
  left = λ w turns l closed. (finish_later w.known turns l w.state).0 closed;
  put = λ w v turns t h closed.
      let en : NoLocals w = λ u x. entry_given (w.state.entry u x) (h.entries u x) in
      let p = set_aside_asking w turns t in again_closed w v closed p.1.asked p.1.moment (pass_known w en turns t).0;
}
