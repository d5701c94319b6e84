use Rattle.rename_conditions.proofs.ReadLaws.{texts_are_read}
use Rattle.rename_conditions.proofs.laws.texts_are_read.Goals as goal

pub returns : goal.returns
returns c = texts_are_read
