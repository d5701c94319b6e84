-- How the identifiers of declarations are read: alone, in pairs, and in lists that may not be dotted.
use Rattle.std.specs.Prelude.{ℕ, List, Result, Ok}
use Rattle.scheme_model.specs.Trees.{Trees, Tail}
use Rattle.scheme_model.specs.ExpansionFaults.{Named, Fault, ◌>>◌}
use Rattle.scheme_model.specs.Shapes.{name_of, names_of, first_of, one_of, proper_of}
use Rattle.scheme_model.specs.Entries.{pairs_of}

-- ---- pairs

-- the two identifiers of a list
abbrev pub pair_in : Trees (List ℕ) → Tail (List ℕ) → Result (Named (List ℕ) × Named (List ℕ)) (Fault (List ℕ))
pair_in ts end = first_of ts >> λ q. name_of q.0 >> λ a. one_of q.1 end >> name_of >> λ b. Ok (a, b)

-- ---- lists that may not be dotted

abbrev pub names_in : Trees (List ℕ) → Tail (List ℕ) → Result (List (Named (List ℕ))) (Fault (List ℕ))
names_in ts end = proper_of ts end >> names_of

abbrev pub pairs_in : Trees (List ℕ) → Tail (List ℕ) → Result (List (Named (List ℕ) × Named (List ℕ))) (Fault (List ℕ))
pairs_in ts end = proper_of ts end >> pairs_of

abbrev pub only_name : Trees (List ℕ) → Tail (List ℕ) → Result (Named (List ℕ)) (Fault (List ℕ))
only_name ts end = one_of ts end >> name_of
