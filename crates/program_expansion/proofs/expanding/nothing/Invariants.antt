use Rattle.std.proofs.Common.{◌≡◌, replicate, None}
use Rattle.program_expansion.proofs.expanding.nothing.Given as goal

abbrev pub invariant-loop-place : goal.invariant-loop-place
invariant-loop-place l = l.all.items ≡ replicate l._place None
