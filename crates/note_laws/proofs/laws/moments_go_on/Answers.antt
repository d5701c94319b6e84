use Rattle.form_laws.proofs.OwnStates.{entry_given}
use Rattle.scheme_model.specs.FormsAlike.{set_aside_asking, questions_of_pass}
use Rattle.note_laws.proofs.MomentsGrow.{pass_grows, noted_before, moments_told}
use Rattle.note_laws.proofs.laws.moments_go_on.Goals as goal

pub returns : goal.returns
returns c = record {
  asked = λ w turns t entries. pass_grows w (λ u x. entry_given (w.state.entry u x) (entries u x)) turns t;
  noted = λ w turns t entries. noted_before w (set_aside_asking w turns t).1.moment (questions_of_pass w turns t) (pass_grows w (λ u x. entry_given (w.state.entry u x) (entries u x)) turns t);
  told = λ k n m a b h. moments_told k n m a b h;
}
