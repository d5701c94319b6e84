use Rattle.carried_units.proofs.CarriedPrograms.{program_keeps_all, program_within}
use Rattle.carried_units.proofs.laws.programs_that_keep_all_stay_within_work.Goals as goal

pub returns : goal.returns
returns c = record {
  keeps = λ before after keep had kept_first k has. program_keeps_all before after keep had kept_first k has;
  worked = λ before after keep had kept_first k has. program_within before after keep had kept_first k has;
}
