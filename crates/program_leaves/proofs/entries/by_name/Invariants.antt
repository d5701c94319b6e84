use Rattle.std.proofs.Common.{◌≡◌, ℕ, List, take}
use Rattle.program_leaves.specs.Entries.{named, entry_named}
use Rattle.program_leaves.proofs.entries.by_name.Given as goal

abbrev pub invariant-loop-entry : goal.invariant-loop-entry
invariant-loop-entry l = (s : List ℕ) → named l.found s ≡ entry_named (take l.entry-index l.entries) s
