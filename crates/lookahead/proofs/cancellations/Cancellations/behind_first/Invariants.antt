use Rattle.std.proofs.Common.{take, drop}
use Rattle.lookahead.specs.Counts.{roles_in, IsOf}
use Rattle.lookahead.proofs.cancellations.Cancellations.behind_first.Given as goal

abbrev pub invariant-loop-place : goal.invariant-loop-place
invariant-loop-place l = IsOf (roles_in (drop 1 (take l.place l.held.items))) l.all
