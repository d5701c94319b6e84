use Rattle.carried_laws.proofs.StayingPrograms.{program_begins}
use Rattle.carried_laws.proofs.laws.forms_begin_at_work.Goals as goal

pub returns : goal.returns
returns c = λ ds. program_begins ds
