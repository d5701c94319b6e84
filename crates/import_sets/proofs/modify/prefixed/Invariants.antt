use Rattle.std.proofs.Common.{◌≡◌, map, take}
use Rattle.import_sets.specs.Given.{prefixed}
use Rattle.import_sets.proofs.modify.prefixed.Given as goal

abbrev pub invariant-loop-entry : goal.invariant-loop-entry
invariant-loop-entry l = l.all ≡ map (prefixed l.prefix) (take l.entry-index l.entries)
