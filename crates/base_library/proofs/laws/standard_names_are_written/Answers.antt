use Rattle.base_library.proofs.StandardTexts.{same_texts}
use Rattle.base_library.proofs.laws.standard_names_are_written.Goals as goal

pub returns : goal.returns
returns c = same_texts
