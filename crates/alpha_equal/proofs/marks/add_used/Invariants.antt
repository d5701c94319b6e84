use Rattle.std.proofs.Common.{◌≡◌, ◌++◌, map, take}
use Rattle.alpha_equal.specs.Marks.{mark_of, used_marks}
use Rattle.alpha_equal.proofs.marks.add_used.Given as goal

abbrev pub invariant-loop-used : goal.invariant-loop-used
invariant-loop-used l = map mark_of l.marks.items ≡ map mark_of l.fn.marks.items ++ used_marks (take l.used-index l.fields)
