use Rattle.std.proofs.Common.{◌≡◌, ◌++◌, map, drop}
use Rattle.declared_parts.specs.Parts.{without_scopes}
use Rattle.declared_parts.proofs.parts.own_notes.Given as goal

abbrev pub invariant-loop-number : goal.invariant-loop-number
invariant-loop-number l = l.own ++ map without_scopes (drop l.number l.asked.notes.items) ≡ map without_scopes (drop l.from l.asked.notes.items)
