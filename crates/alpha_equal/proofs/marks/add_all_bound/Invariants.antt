use Rattle.std.proofs.Common.{◌≡◌, ◌++◌, map, take}
use Rattle.alpha_equal.specs.Marks.{mark_of, bounds_marks}
use Rattle.alpha_equal.proofs.marks.add_all_bound.Given as goal

abbrev pub invariant-loop-binder : goal.invariant-loop-binder
invariant-loop-binder l = map mark_of l.marks.items ≡ map mark_of l.fn.marks.items ++ bounds_marks l.local (take l.binder-index l.binders)
