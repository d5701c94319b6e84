use Rattle.std.proofs.Common.{◌≡◌, map, take}
use Rattle.document_changes.proofs.reach.occurrences.Given as goal

abbrev pub invariant-loop-part : goal.invariant-loop-part
invariant-loop-part l = l.occs.items ≡ map (λ p. p.occ) (take l.part-index l.parts)
