use Rattle.std.proofs.Common.{◌≡◌, map, take}
use Rattle.form_parts.proofs.items.names_of.Given as goal

abbrev pub invariant-loop-local : goal.invariant-loop-local
invariant-loop-local l = l.names.items ≡ map (λ m. m.name) (take l.local-index l.macros)
