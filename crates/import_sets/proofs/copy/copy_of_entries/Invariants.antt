use Rattle.std.proofs.Common.{◌≡◌, take}
use Rattle.import_sets.proofs.copy.copy_of_entries.Given as goal

abbrev pub invariant-loop-entry : goal.invariant-loop-entry
invariant-loop-entry l = l.copy ≡ take l.entry-index l.entries
