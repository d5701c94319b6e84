use Rattle.std.proofs.Common.{◌≡◌, ◌++◌, map, take}
use Rattle.alpha_equal.specs.Marks.{mark_of, macros_marks}
use Rattle.alpha_equal.proofs.marks.add_rules.Given as goal

abbrev pub invariant-loop-definition : goal.invariant-loop-definition
invariant-loop-definition l = map mark_of l.marks.items ≡ map mark_of l.fn.marks.items ++ macros_marks (take l.definition-index l.macros)
