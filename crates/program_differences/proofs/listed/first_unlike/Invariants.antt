use Rattle.std.proofs.Common.{◌≡◌, drop}
use Rattle.program_differences.specs.Listed.{first_unlike}
use Rattle.program_differences.proofs.listed.first_unlike.Given as goal

abbrev pub invariant-loop-place : goal.invariant-loop-place
invariant-loop-place l = first_unlike l.place (drop l.place l.old) (drop l.place l.new) ≡ first_unlike 0 l.old l.new
