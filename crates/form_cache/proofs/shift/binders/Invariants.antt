use Rattle.std.proofs.Common.{◌≡◌, ◌++◌, map, take, drop}
use Rattle.form_cache.specs.Shifted.{binder_shifted}
use Rattle.form_cache.proofs.shift.binders.Given as goal

abbrev pub invariant-loop-i : goal.invariant-loop-i
invariant-loop-i l = l.all.items ≡ map (binder_shifted l.shift) (take l.i l.initial.all.items) ++ drop l.i l.initial.all.items
