use Rattle.std.proofs.Common.{◌≡◌, ◌++◌, map, take}
use Rattle.alpha_equal.specs.Marks.{mark_of, items_marks}
use Rattle.alpha_equal.proofs.marks.add_items.Given as goal

abbrev pub invariant-loop-item : goal.invariant-loop-item
invariant-loop-item l = map mark_of l.marks.items ≡ map mark_of l.fn.marks.items ++ items_marks (take l.item-index l.items)
