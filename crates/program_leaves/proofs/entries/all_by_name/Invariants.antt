use Rattle.std.proofs.Common.{take}
use Rattle.core_tree.specs.Names.{AllMatch}
use Rattle.program_leaves.specs.Entries.{HasEntries}
use Rattle.program_leaves.proofs.entries.all_by_name.Given as goal

abbrev pub invariant-loop-unit : goal.invariant-loop-unit
invariant-loop-unit l = AllMatch HasEntries l.found.items (take l.unit-index l.units)
