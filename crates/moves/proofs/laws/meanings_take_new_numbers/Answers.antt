use Rattle.moves.proofs.EntryLaws.{meaning_there}
use Rattle.moves.proofs.laws.meanings_take_new_numbers.Goals as goal

pub returns : goal.returns
returns c = meaning_there
