use Rattle.std.proofs.Common.{◌≡◌, take}
use Rattle.unit_sources.specs.UnitsRead.{forms_of}
use Rattle.core_tree.specs.Units.{ranges_from}
use Rattle.document_units.proofs.listing.ranges_of.Given as goal

abbrev pub invariant-loop-place : goal.invariant-loop-place
invariant-loop-place l = l.ranges.items ≡ ranges_from l.unit 0 (forms_of (take l.place l.forms))
