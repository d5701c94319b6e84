use Rattle.scheme_model.specs.ScopedProgram.{scoped_work, scoped_before, scoped_start_after}
use Rattle.kept_forms.proofs.Programs.{between_at, placed_at, new_unit}
use Rattle.forgotten_locals.proofs.Units.{forgetting_kept, forgetting_begins, forgetting_same, keeping_is}
use Rattle.forgotten_locals.proofs.StaysOutside.{start_is_outside, turns_outside}
use Rattle.forgotten_locals.proofs.laws.units_may_forget_what_is_local.Goals as goal

pub returns : goal.returns
returns c = record {
  same = λ all units known n h p xs o ready forms k.
      let g = scoped_work all units known n scoped_before in forgetting_same all units known g (between_at all units known n) (placed_at all units known n) p (new_unit all units known g p ready) xs forms h o k;
  begins = λ all units known n h p xs o ready forms k.
      let g = scoped_work all units known n scoped_before in forgetting_begins all units known g (between_at all units known n) (placed_at all units known n) p (new_unit all units known g p ready) xs forms h o k;
  outside = λ all p known turns g h xs o. turns_outside known turns xs (scoped_start_after all p h) (start_is_outside all p g h o);
  kept = λ all units known n h p xs o ready forms.
      let g = scoped_work all units known n scoped_before in forgetting_kept all units known g (between_at all units known n) (placed_at all units known n) p (new_unit all units known g p ready) xs forms h o;
  kept_there = λ all units known n h p xs alike ready forms.
      let g = scoped_work all units known n scoped_before in keeping_is all units known g (between_at all units known n) (placed_at all units known n) p (new_unit all units known g p ready) xs forms h alike;
}
