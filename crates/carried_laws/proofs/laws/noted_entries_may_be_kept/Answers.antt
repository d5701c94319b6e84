use Rattle.std.specs.Prelude.{length}
use Rattle.scheme_model.specs.Program.{known_in, units_of, prepare}
use Rattle.kept_forms.proofs.WholePrograms.{whole_program}
use Rattle.carried_laws.proofs.StayingPrograms.{stays_keeps}
use Rattle.carried_laws.proofs.NotedEntries.{noted_stay}
use Rattle.carried_laws.proofs.laws.noted_entries_may_be_kept.Goals as goal

pub returns : goal.returns
returns c = record {
  stays = λ ds keep h. noted_stay ds keep h;
  program = λ ds keep h. let all = units_of ds in let units = prepare all 0 all in whole_program ds keep (stays_keeps all units (known_in ds) keep (length units) (noted_stay ds keep h));
}
