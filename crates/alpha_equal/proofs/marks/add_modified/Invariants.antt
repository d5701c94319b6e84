use Rattle.std.proofs.Common.{◌≡◌, ◌++◌, map, take}
use Rattle.alpha_equal.specs.Marks.{mark_of, number_marks}
use Rattle.alpha_equal.proofs.marks.add_modified.Given as goal

abbrev pub invariant-loop-field : goal.invariant-loop-field
invariant-loop-field l = map mark_of l.marks.items ≡ map mark_of l.fn.marks.items ++ number_marks (take l.field-index l.fields)
