-- The first of bytes by document and start, and the occurrences that have several parts, as the code finds them.
use Rattle.std.specs.Prelude.{List, [], ◌∷◌, ◌++◌, Bool, false, Option, Some, None, if◌then◌else◌}
use Rattle.scheme_model.specs.declared.Occ.{Occ}
use Rattle.scheme_model.specs.Answers.{bytes_before}
use Rattle.scheme_model.specs.Diagnostics.{Bytes}
use Rattle.scheme_model.specs.Entries.{same_occ}
use Rattle.program_answers.specs.declared.classes.ClassPart.{ClassPart}

-- ---- the first

abbrev pub earlier : Option Bytes → Bytes → Bytes
earlier None b = b
earlier (Some a) b = if bytes_before b a then b else a

abbrev pub first_of : Option Bytes → List Bytes → Option Bytes
first_of first [] = first
first_of first (b ∷ bs) = first_of (Some (earlier first b)) bs

-- ---- occurrences with several parts, which stand one behind another

abbrev pub is_same : Option Occ → Occ → Bool
is_same None o = false
is_same (Some last) o = same_occ last o

abbrev pub repeated : (last : Option Occ) → List ClassPart → List Occ
repeated last [] = []
repeated last (p ∷ ps) = (if is_same last p.occ then p.occ ∷ [] else []) ++ repeated (Some p.occ) ps
