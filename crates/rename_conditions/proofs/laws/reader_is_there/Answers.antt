use Rattle.rename_conditions.proofs.ReaderLaws.{reader_is_there}
use Rattle.rename_conditions.proofs.laws.reader_is_there.Goals as goal

pub returns : goal.returns
returns c = reader_is_there
