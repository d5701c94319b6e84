use Rattle.std.proofs.Common.{◌≡◌, ℕ, List, take}
use Rattle.std.specs.BTreeSet.{contains_text}
use Rattle.scheme_model.specs.Program.{has_name}
use Rattle.known_libraries.proofs.known.names.Given as goal

abbrev pub invariant-loop-library : goal.invariant-loop-library
invariant-loop-library l = (s : List ℕ) → contains_text l.names s ≡ has_name (take l.library-index l.listed) s
