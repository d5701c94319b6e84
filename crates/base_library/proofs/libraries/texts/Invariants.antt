use Rattle.std.proofs.Common.{◌≡◌, take, map}
use Rattle.base_library.proofs.libraries.texts.Given as goal

abbrev pub invariant-loop-name : goal.invariant-loop-name
invariant-loop-name l = l.texts ≡ map (λ s. s.now) (take l.name-index l.names)
