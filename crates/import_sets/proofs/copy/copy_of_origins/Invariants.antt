use Rattle.std.proofs.Common.{◌≡◌, take}
use Rattle.import_sets.proofs.copy.copy_of_origins.Given as goal

abbrev pub invariant-loop-origin : goal.invariant-loop-origin
invariant-loop-origin l = l.copy ≡ take l.origin-index l.origins
