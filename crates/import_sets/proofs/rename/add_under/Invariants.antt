use Rattle.std.proofs.Common.{◌≡◌, ◌++◌, map, take}
use Rattle.import_sets.specs.Given.{renamed}
use Rattle.import_sets.proofs.rename.add_under.Given as goal

abbrev pub invariant-loop-name : goal.invariant-loop-name
invariant-loop-name l = l.all ≡ l.initial.all ++ map (renamed l.entry) (take l.name-index l.names)
