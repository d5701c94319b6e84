use Rattle.std.proofs.Common.{◌≡◌, take, map}
use Rattle.core_forms.proofs.local_macros.macro_names.Given as goal

abbrev pub invariant-loop-item : goal.invariant-loop-item
invariant-loop-item l = l.names.items ≡ map (λ m. m.name) (take l.item-index l.macros)
