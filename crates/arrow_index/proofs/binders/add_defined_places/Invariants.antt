use Rattle.std.proofs.Common.{◌≡◌, ◌++◌, take}
use Rattle.arrow_index.specs.Binders.{defined_places}
use Rattle.arrow_index.proofs.binders.add_defined_places.Given as goal

abbrev pub invariant-loop-binder : goal.invariant-loop-binder
invariant-loop-binder l = l.places.items ≡ l.fn.places.items ++ defined_places (take l.binder-index l.binders)
