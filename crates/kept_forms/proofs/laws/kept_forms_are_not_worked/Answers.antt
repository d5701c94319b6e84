use Rattle.scheme_model.specs.ScopedProgram.{scoped_work, scoped_before}
use Rattle.kept_forms.proofs.Programs.{between_at, placed_at, new_unit, uses_worked, uses_told}
use Rattle.kept_forms.proofs.laws.kept_forms_are_not_worked.Goals as goal

pub returns : goal.returns
returns c = record {
  worked = λ all units known n h p xs alike ready forms kept.
      let g = scoped_work all units known n scoped_before in
      uses_worked all units known g h (between_at all units known n) (placed_at all units known n) alike p (new_unit all units known g p ready) xs forms kept;
  told = λ all units known n h p xs alike ready forms kept.
      let g = scoped_work all units known n scoped_before in
      uses_told all units known g h (between_at all units known n) (placed_at all units known n) alike p (new_unit all units known g p ready) xs forms kept;
}
