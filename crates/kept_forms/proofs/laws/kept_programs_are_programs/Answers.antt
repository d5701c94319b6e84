use Rattle.kept_forms.proofs.WholePrograms.{progress_alike, whole_program, program_uses}
use Rattle.kept_forms.proofs.laws.kept_programs_are_programs.Goals as goal

pub returns : goal.returns
returns c = record {
  progress = λ all units known keep n kept. progress_alike all units known keep n kept;
  program = λ documents keep kept. whole_program documents keep kept;
  worked = λ all units known keep n kept. program_uses all units known keep n kept;
}
