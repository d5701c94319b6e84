use Rattle.std.proofs.Common.{List}
use Rattle.scheme_model.specs.Includes.{Document}
use Rattle.macro_uses.proofs.ProgramUses.{program_counts}
use Rattle.macro_uses.proofs.laws.uses_are_substituted.Goals as goal

pub returns : goal.returns
returns c = λ (ds : List Document). program_counts ds
