-- Names by number.
use Rattle.std.specs.Prelude.{ℕ, List, [], ◌∷◌, Bool, true, nat_eq, Option, Some, None, false, if◌then◌else◌}
use Rattle.std.specs.List.{list_any}
use Rattle.core_forms.specs.declared.shape.NamePart.{NamePart}

-- the first name whose number is among those before it
abbrev pub twice_by_number : List ℕ → List NamePart → Option NamePart
twice_by_number seen [] = None
twice_by_number seen (n ∷ ns) = if list_any (nat_eq n.ident) seen then Some n else twice_by_number (n.ident ∷ seen) ns

-- some name has this number
abbrev pub has_number : List NamePart → ℕ → Bool
has_number names n = list_any (λ m. nat_eq n m.ident) names

-- the numbers of all are among these
abbrev pub all_numbers : List NamePart → List NamePart → Bool
all_numbers [] fields = true
all_numbers (n ∷ ns) fields = if has_number fields n.ident then all_numbers ns fields else false
