use Rattle.std.proofs.Common.{ℕ}
use Rattle.syntax_tree.specs.Names.{Names}
use Rattle.program_leaves.specs.Adds.{Adds}
use Rattle.alpha_equal.specs.Slots.{IsSlot}
use Rattle.program_differences.specs.Variables.{literals}
use Rattle.program_differences.proofs.rules.add_literals.Given as goal

abbrev pub invariant-loop-k : goal.invariant-loop-k
invariant-loop-k l = (names : Names) (unit form : ℕ) → Adds (IsSlot names unit form) l.fn.slots.items l.slots.items (literals l.k)
