use Rattle.carried_entries.proofs.EntriesGoOn.{all_have}
use Rattle.carried_entries.proofs.laws.entries_of_carried_forms_go_on.Goals as goal

pub returns : goal.returns
returns c = λ before after r b had now once once_after homes homes_there follows goes has. all_have before after r b had now once once_after homes homes_there follows goes has
