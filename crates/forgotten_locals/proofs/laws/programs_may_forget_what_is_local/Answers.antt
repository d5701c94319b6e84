use Rattle.forgotten_locals.proofs.WholePrograms.{progress_outside, program_kept, program_uses, program_keeps, whole_program}
use Rattle.forgotten_locals.proofs.laws.programs_may_forget_what_is_local.Goals as goal

pub returns : goal.returns
returns c = record {
  progress = λ all units known keep n k. progress_outside all units known keep n k;
  program = λ documents keep k. whole_program documents keep k;
  kept = λ all units known keep n. program_kept all units known keep n;
  kept_there = λ all units known keep n. program_keeps all units known keep n;
  uses = λ all units known keep n k. program_uses all units known keep n k;
}
