use Rattle.std.proofs.Common.{◌≡◌, ◌++◌, take}
use Rattle.arrow_index.specs.Binders.{unit_places}
use Rattle.arrow_index.proofs.binders.add_unit_places.Given as goal

abbrev pub invariant-loop-unit : goal.invariant-loop-unit
invariant-loop-unit l = l.places.items ≡ l.fn.places.items ++ unit_places (take l.unit-index l.units)
