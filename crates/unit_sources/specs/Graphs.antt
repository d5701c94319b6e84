-- The units by their places, each with the places of what it imports; and the names of those at some places.
use Rattle.std.specs.Prelude.{◌≡◌, ℕ, zero, suc, List, [], ◌∷◌, map, Option, Some, None}
use Rattle.std.specs.List.{flat_map}
use Rattle.scheme_model.specs.Program.{is_in}
use Rattle.unit_sources.specs.declared.units.UnitSource.{UnitSource}
use Rattle.unit_sources.specs.Named.{place_named, imported_places}

-- ---- rows of places

abbrev pub SameMembers : List ℕ → List ℕ → Type 0
SameMembers xs ys = (m : ℕ) → is_in m xs ≡ is_in m ys

abbrev pub SameRows : List (List ℕ) → List (List ℕ) → Type 0
SameRows [] [] = Unit {0}
SameRows [] (h ∷ hs) = ⊥
SameRows (g ∷ gs) [] = ⊥
SameRows (g ∷ gs) (h ∷ hs) = SameMembers g h × SameRows gs hs

-- what units import, by the place of the first unit with each name
abbrev pub rows_of : (List ℕ → Option ℕ) → List UnitSource → List (List ℕ)
rows_of find us = map (λ (u : UnitSource). imported_places find u.imports) us

abbrev pub graph_of : List UnitSource → List (List ℕ)
graph_of us = rows_of (λ s. place_named s 0 us) us

-- ---- names

abbrev pub name_at : List UnitSource → ℕ → Option (List ℕ)
name_at [] n = None
name_at (u ∷ us) zero = u.name
name_at (u ∷ us) (suc n) = name_at us n

abbrev pub as_list : Option (List ℕ) → List (List ℕ)
as_list None = []
as_list (Some t) = t ∷ []

abbrev pub names_at : List UnitSource → List ℕ → List (List ℕ)
names_at us ns = flat_map (λ n. as_list (name_at us n)) ns
