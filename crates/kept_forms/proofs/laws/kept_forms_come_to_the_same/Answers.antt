use Rattle.scheme_model.specs.ScopedProgram.{scoped_work, scoped_before}
use Rattle.kept_forms.proofs.Programs.{between_at, placed_at, new_unit, same_unit, forms_begin}
use Rattle.kept_forms.proofs.laws.kept_forms_come_to_the_same.Goals as goal

pub returns : goal.returns
returns c = record {
  same = λ all units known n h p xs alike ready forms kept.
      let g = scoped_work all units known n scoped_before in
      same_unit all units known g h (between_at all units known n) (placed_at all units known n) alike p (new_unit all units known g p ready) xs forms kept;
  begins = λ all units known n h p xs alike ready forms kept.
      let g = scoped_work all units known n scoped_before in
      forms_begin all units known g h (between_at all units known n) (placed_at all units known n) alike p (new_unit all units known g p ready) xs forms kept;
}
