use Rattle.std.proofs.Common.{◌≡◌, ℕ, List, take}
use Rattle.std.specs.HashSet.{contains_text}
use Rattle.import_sets.specs.Given.{is_listed}
use Rattle.import_sets.proofs.names.listed.Given as goal

abbrev pub invariant-loop-name : goal.invariant-loop-name
invariant-loop-name l = (s : List ℕ) → contains_text l.listed s ≡ is_listed (take l.name-index l.names) s
