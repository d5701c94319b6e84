use Rattle.moved_numbers.proofs.BackLaws.{form_back, program_back}
use Rattle.moved_numbers.proofs.laws.old_forms_come_back.Goals as goal

pub returns-clause-form : goal.returns-clause-form
returns-clause-form c = form_back

pub returns-clause-program : goal.returns-clause-program
returns-clause-program c = program_back
