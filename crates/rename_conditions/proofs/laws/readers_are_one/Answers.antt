use Rattle.rename_conditions.proofs.ReaderLaws.{readers_are_one}
use Rattle.rename_conditions.proofs.laws.readers_are_one.Goals as goal

pub returns : goal.returns
returns c = readers_are_one
