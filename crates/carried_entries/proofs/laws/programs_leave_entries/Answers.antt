use Rattle.carried_entries.proofs.EntriesLeft.{all_had}
use Rattle.carried_entries.proofs.laws.programs_leave_entries.Goals as goal

pub returns : goal.returns
returns c = λ before after keep now k. all_had before after keep now k
