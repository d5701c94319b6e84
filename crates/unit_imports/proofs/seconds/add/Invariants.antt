use Rattle.std.proofs.Common.{◌≡◌, ◌++◌}
use Rattle.unit_imports.proofs.seconds.add.Given as goal

-- the places gone through stand behind the others
abbrev pub invariant-loop-place : goal.invariant-loop-place
invariant-loop-place l = l.places ≡ l.initial.places ++ l.yielded
