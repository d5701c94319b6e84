use Rattle.std.proofs.Common.{◌≤◌, length, sym, subst}
use Rattle.scheme_model.specs.Program.{known_in, units_of, prepare}
use Rattle.kept_forms.proofs.WholePrograms.{program_uses}
use Rattle.carried_forms.specs.Worked.{read_documents}
use Rattle.carried_forms.specs.Carried.{work}
use Rattle.carried_laws.proofs.Bound.{work_bounds}
use Rattle.carried_laws.proofs.laws.work_bounds_what_is_worked.Goals as goal

pub returns : goal.returns
returns c = record {
  not_kept = λ before after keep k whole. work_bounds before after keep k whole;
  worked = λ before after keep k whole.
      let ds = read_documents after in let all = units_of ds in let units = prepare all 0 all in
      subst (λ n. n ≤ work before after) (sym (program_uses all units (known_in ds) keep (length units) k)) (work_bounds before after keep k whole);
}
