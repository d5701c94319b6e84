use Rattle.std.proofs.Common.{refl}
use Rattle.scheme_model.specs.Prelude.{prelude}
use Rattle.base_library.proofs.sketches.sketches.Goals as goal

pub returns-clause-macros : goal.returns-clause-macros
unfolding prelude
returns-clause-macros c = refl

pub returns-clause-size : goal.returns-clause-size
unfolding prelude
returns-clause-size c = refl
