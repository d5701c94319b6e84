use Rattle.std.proofs.Common.{◌≡◌, ◌++◌, map, take}
use Rattle.program_leaves.specs.Leaves.{seen_of, items_seen}
use Rattle.program_leaves.proofs.leaves.add_form.Given as goal

abbrev pub invariant-loop-item : goal.invariant-loop-item
invariant-loop-item l = map seen_of l.leaves.items ≡ map seen_of l.fn.leaves.items ++ items_seen (take l.item-index l.form.items)
