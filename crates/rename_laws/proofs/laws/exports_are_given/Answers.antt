use Rattle.rename_laws.proofs.GivenLaws.{exports_are_given}
use Rattle.rename_laws.proofs.laws.exports_are_given.Goals as goal

pub returns : goal.returns
returns c = exports_are_given
