use Rattle.std.proofs.Common.{◌≡◌, drop}
use Rattle.import_sets.specs.Given.{missing}
use Rattle.import_sets.proofs.names.missing.Given as goal

-- what is missing is among those that are left
abbrev pub invariant-loop-name : goal.invariant-loop-name
invariant-loop-name l = missing (drop l.name-index l.names) l.fn.entries ≡ missing l.names l.fn.entries
