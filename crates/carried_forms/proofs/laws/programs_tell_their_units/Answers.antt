use Rattle.carried_forms.proofs.ProgramUnits.{programs_told, programs_within}
use Rattle.carried_forms.proofs.laws.programs_tell_their_units.Goals as goal

pub returns : goal.returns
returns c = record {
  told = λ ds once. programs_told ds once;
  within = λ ds once. programs_within ds once;
}
