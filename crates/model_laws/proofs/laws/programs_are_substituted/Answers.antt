use Rattle.std.proofs.Common.{ℕ, List}
use Rattle.scheme_model.specs.Ident.{Ident}
use Rattle.scheme_model.specs.ScopedExpansion.{Frames}
use Rattle.scheme_model.specs.Requirements.{Known}
use Rattle.scheme_model.specs.Includes.{Document}
use Rattle.scheme_model.specs.IncludedUnits.{Placed}
use Rattle.scheme_model.specs.Program.{Prepared}
use Rattle.model_laws.proofs.FramePrograms.{program_law, progress_law, means_law}
use Rattle.model_laws.proofs.laws.programs_are_substituted.Goals as goal

pub returns : goal.returns
returns c = record {
  program = λ (ds : List Document). program_law ds;
  progress = λ (all : List Placed) (units : List Prepared) (known : Known) (n : ℕ). progress_law all units known n;
  means = λ (all : List Placed) (units : List Prepared) (known : Known) (n : ℕ) (fs : Frames) (i : Ident). means_law all units known n fs i;
}
