use Rattle.std.proofs.Common.{◌≡◌, ◌*◌, take}
use Rattle.base_library.specs.Sketched.{paired}
use Rattle.base_library.proofs.macros.rules_of.Given as goal

abbrev pub invariant-loop-k : goal.invariant-loop-k
invariant-loop-k l = l.rules ≡ paired (take (2 * l.k) l.trees)
