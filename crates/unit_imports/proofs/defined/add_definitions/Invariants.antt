use Rattle.std.proofs.Common.{◌≡◌, ◌++◌, map, take}
use Rattle.unit_imports.proofs.defined.add_definitions.Given as goal

abbrev pub invariant-loop-binder : goal.invariant-loop-binder
invariant-loop-binder l = l.all.items ≡ l.initial.all.items ++ map (λ b. (l.form, b)) (take l.binder-index l.binders)
