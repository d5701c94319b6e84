use Rattle.moves.proofs.StandLaws.{old_numbers, still_differ}
use Rattle.moves.proofs.laws.ways_back_tell_old_numbers.Goals as goal

pub returns-clause-one_to_one : goal.returns-clause-one_to_one
returns-clause-one_to_one c = still_differ

pub returns-clause-old_numbers : goal.returns-clause-old_numbers
returns-clause-old_numbers c = old_numbers
