use Rattle.std.proofs.Common.{◌≡◌, take, map}
use Rattle.form_cache.specs.Copied.{use_told}
use Rattle.form_cache.proofs.entries.copy_of_uses.Given as goal

abbrev pub invariant-loop-met : goal.invariant-loop-met
invariant-loop-met l = map use_told l.copy ≡ map use_told (take l.met-index l.uses)
