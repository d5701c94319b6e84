use Rattle.form_cache.specs.Shifted.{ItemShifts}
use Rattle.form_cache.proofs.Fronts.{IsFront}
use Rattle.form_cache.proofs.shift.all_kept.Given as goal

abbrev pub invariant-loop-i : goal.invariant-loop-i
invariant-loop-i l = IsFront (ItemShifts l.shift) l.initial.all.items l.all.items l.i
