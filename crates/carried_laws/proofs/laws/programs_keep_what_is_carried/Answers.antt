use Rattle.std.proofs.Common.{◌≤◌, length, sym, subst}
use Rattle.scheme_model.specs.Program.{known_in, units_of, prepare}
use Rattle.kept_forms.proofs.WholePrograms.{whole_program, program_uses}
use Rattle.carried_forms.specs.Worked.{read_documents}
use Rattle.carried_forms.specs.Carried.{work}
use Rattle.carried_laws.specs.CarriedKeeping.{carried_keeping}
use Rattle.carried_laws.proofs.StayingPrograms.{stays_keeps}
use Rattle.carried_laws.proofs.Bound.{work_bounds}
use Rattle.carried_laws.proofs.CarriedKeeping.{keeps_all, carried_stay}
use Rattle.carried_laws.proofs.laws.programs_keep_what_is_carried.Goals as goal

pub returns : goal.returns
returns c = record {
  stays = λ before after once once_after homes. carried_stay before after once once_after homes;
  program = λ before after once once_after homes.
      let ds = read_documents after in let all = units_of ds in let units = prepare all 0 all in let keep = carried_keeping before after in
      whole_program ds keep (stays_keeps all units (known_in ds) keep (length units) (carried_stay before after once once_after homes));
  worked = λ before after once once_after homes.
      let ds = read_documents after in let all = units_of ds in let units = prepare all 0 all in let keep = carried_keeping before after in
      let k = stays_keeps all units (known_in ds) keep (length units) (carried_stay before after once once_after homes) in
      subst (λ n. n ≤ work before after) (sym (program_uses all units (known_in ds) keep (length units) k)) (work_bounds before after keep k (keeps_all before after));
}
