use Rattle.base_library.proofs.StandardTexts.{told}
use Rattle.base_library.proofs.laws.names_are_told.Goals as goal

pub returns : goal.returns
returns c = told
