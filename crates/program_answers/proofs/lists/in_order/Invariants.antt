use Rattle.std.proofs.Common.{◌≡◌, map}
use Rattle.program_answers.proofs.lists.in_order.Given as goal

-- those gone through
abbrev pub invariant-loop-list : goal.invariant-loop-list
invariant-loop-list l = l.lists ≡ map (λ p. p.1) l.yielded
