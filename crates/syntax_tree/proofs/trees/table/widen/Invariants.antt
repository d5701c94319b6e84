use Rattle.std.proofs.Common.{◌≡◌, ℕ, ◌+◌, ◌-◌, length}
use Rattle.syntax_tree.specs.Kept.{outers_at}
use Rattle.syntax_tree.proofs.trees.table.widen.Given as goal

abbrev pub invariant-loop-alloc : goal.invariant-loop-alloc
invariant-loop-alloc l = (q : ℕ) → outers_at l.outers.items q ≡ outers_at l.fn.outers.items q

abbrev pub decreases-loop-alloc : goal.decreases-loop-alloc
decreases-loop-alloc l = l.number + 1 - length l.outers.items
