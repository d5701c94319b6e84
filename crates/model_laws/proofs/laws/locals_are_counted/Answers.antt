use Rattle.std.proofs.Common.{ℕ, List}
use Rattle.scheme_model.specs.Requirements.{Known}
use Rattle.scheme_model.specs.IncludedUnits.{Placed}
use Rattle.scheme_model.specs.Program.{Prepared}
use Rattle.model_laws.proofs.FramePrograms.{counts_law}
use Rattle.model_laws.proofs.laws.locals_are_counted.Goals as goal

pub returns : goal.returns
returns c = λ (all : List Placed) (units : List Prepared) (known : Known) (n : ℕ) (p : Prepared). counts_law all units known n p
