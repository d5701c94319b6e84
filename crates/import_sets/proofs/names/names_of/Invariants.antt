use Rattle.std.proofs.Common.{◌≡◌, ℕ, List, take}
use Rattle.std.specs.HashSet.{contains_text}
use Rattle.import_sets.specs.Given.{has_name}
use Rattle.import_sets.proofs.names.names_of.Given as goal

abbrev pub invariant-loop-entry : goal.invariant-loop-entry
invariant-loop-entry l = (s : List ℕ) → contains_text l.names s ≡ has_name (take l.entry-index l.entries) s
