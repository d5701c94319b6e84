use Rattle.std.proofs.Common.{◌≡◌, ◌++◌, map, take}
use Rattle.program_leaves.specs.Leaves.{seen_of, binders_seen}
use Rattle.program_leaves.proofs.leaves.add_binders.Given as goal

abbrev pub invariant-loop-binder : goal.invariant-loop-binder
invariant-loop-binder l = map seen_of l.leaves.items ≡ map seen_of l.fn.leaves.items ++ binders_seen l.local (take l.binder-index l.binders)
