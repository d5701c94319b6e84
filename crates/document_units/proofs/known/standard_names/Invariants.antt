use Rattle.std.proofs.Common.{◌≡◌, take, map}
use Rattle.document_units.proofs.known.standard_names.Given as goal

abbrev pub invariant-loop-name : goal.invariant-loop-name
invariant-loop-name l = l.names ≡ map (λ s. s.now) (take l.name-index l.name-items)
