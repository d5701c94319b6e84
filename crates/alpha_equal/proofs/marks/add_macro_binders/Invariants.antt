use Rattle.std.proofs.Common.{◌≡◌, ◌++◌, map, take}
use Rattle.alpha_equal.specs.Marks.{mark_of, macro_bindings}
use Rattle.alpha_equal.proofs.marks.add_macro_binders.Given as goal

abbrev pub invariant-loop-definition : goal.invariant-loop-definition
invariant-loop-definition l = map mark_of l.marks.items ≡ map mark_of l.fn.marks.items ++ macro_bindings (take l.definition-index l.macros)
