use Rattle.std.proofs.Common.{◌≡◌, ◌++◌, map, take}
use Rattle.unit_imports.proofs.entries.add_for_each.Given as goal

abbrev pub invariant-loop-set : goal.invariant-loop-set
invariant-loop-set l = l.all.items ≡ l.initial.all.items ++ map (λ s. l.number) (take l._set-index l.sets)
