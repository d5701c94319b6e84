use Rattle.std.proofs.Common.{◌≡◌, ◌++◌, take}
use Rattle.arrow_index.specs.Keywords.{units_keywords}
use Rattle.arrow_index.proofs.accesses.add_all_keywords.Given as goal

abbrev pub invariant-loop-unit : goal.invariant-loop-unit
invariant-loop-unit l = l.places.items ≡ l.fn.places.items ++ units_keywords (take l.unit-index l.units)
