use Rattle.std.proofs.Common.{◌≡◌, ◌++◌, map, take}
use Rattle.alpha_equal.specs.Marks.{mark_of, parts_binding}
use Rattle.alpha_equal.proofs.marks.add_all_binders.Given as goal

abbrev pub invariant-loop-part : goal.invariant-loop-part
invariant-loop-part l = map mark_of l.marks.items ≡ map mark_of l.fn.marks.items ++ parts_binding (take l.part-index l.parts)
