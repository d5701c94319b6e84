-- Which unit a library's name means, and which units a unit imports, by the texts of the names.
use Rattle.std.specs.Prelude.{ℕ, suc, ◌==◌, List, [], ◌∷◌, Bool, true, false, not, Option, Some, None, if◌then◌else◌}
use Rattle.std.specs.Str.{bytes_eq}
use Rattle.import_sets.specs.Firsts.{first_place, place_in}
use Rattle.unit_sources.specs.declared.units.ImportSpec.{ImportSpec}
use Rattle.unit_sources.specs.declared.units.UnitSource.{UnitSource}

-- ---- names

abbrev pub is_name : List ℕ → Option (List ℕ) → Bool
is_name s None = false
is_name s (Some t) = bytes_eq t s

-- the place of the first unit with a name
abbrev pub place_named : List ℕ → ℕ → List UnitSource → Option ℕ
place_named s n us = first_place (λ (u : UnitSource). is_name s u.name) n us

-- ---- names that stand twice

abbrev pub is_other : Option ℕ → ℕ → Bool
is_other None n = true
is_other (Some m) n = not (m == n)

-- the first unit with the name of the unit at this place is another
abbrev pub is_later : (List ℕ → Option ℕ) → ℕ → Option (List ℕ) → Bool
is_later find n None = false
is_later find n (Some t) = is_other (find t) n

abbrev pub later : (List ℕ → Option ℕ) → ℕ → List UnitSource → List ℕ
later find n [] = []
later find n (u ∷ us) = if is_later find n u.name then n ∷ later find (suc n) us else later find (suc n) us

abbrev pub later_from : List UnitSource → ℕ → List UnitSource → List ℕ
later_from all n us = later (λ s. place_named s 0 all) n us

-- ---- imports

abbrev pub with_place : Option ℕ → List ℕ → List ℕ
with_place None rest = rest
with_place (Some n) rest = n ∷ rest

abbrev pub imported_places : (List ℕ → Option ℕ) → List ImportSpec → List ℕ
imported_places find [] = []
imported_places find (s ∷ ss) = with_place (place_in find s.set) (imported_places find ss)
