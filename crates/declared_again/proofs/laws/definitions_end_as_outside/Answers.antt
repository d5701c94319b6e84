use Rattle.form_laws.proofs.OwnStates.{entry_given}
use Rattle.declared_again.proofs.OutcomesOutside.{ends_outside}
use Rattle.declared_again.proofs.laws.definitions_end_as_outside.Goals as goal

pub returns : goal.returns
returns c = λ v n x r ns root entries notes. ends_outside v n root (λ u s. entry_given (v.state.entry u s) (entries u s)) x r ns notes
