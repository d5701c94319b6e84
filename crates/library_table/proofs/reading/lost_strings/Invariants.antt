use Rattle.std.proofs.Common.{◌≡◌, take, map}
use Rattle.included_forms.specs.Counted.{lost_of}
use Rattle.unit_sources.specs.UnitsRead.{lost_as}
use Rattle.library_table.proofs.reading.lost_strings.Given as goal

abbrev pub invariant-loop-it : goal.invariant-loop-it
invariant-loop-it l = l.strings ≡ map lost_as (map lost_of (take l.it-index l.lost))
