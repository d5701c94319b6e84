-- The libraries whose name an earlier one has (R7RS 5.6).
use Rattle.std.specs.Prelude.{ℕ, suc, ◌==◌, List, [], ◌∷◌, Bool, false, not, Option, Some, None, if◌then◌else◌}
use Rattle.scheme_model.specs.Requirements.{LibraryName}
use Rattle.scheme_model.specs.Order.{is_some}
use Rattle.scheme_model.specs.StandardLibraries.{standard}
use Rattle.scheme_model.specs.IncludedUnits.{Placed}
use Rattle.scheme_model.specs.Program.{imported_as, unit_named}

abbrev pub is_at : ℕ → Option ℕ → Bool
is_at n None = false
is_at n (Some m) = m == n

-- the first unit that is imported by this name isn't the one at this place
abbrev pub is_repeated_name : List Placed → ℕ → Option LibraryName → Bool
is_repeated_name all place None = false
is_repeated_name all place (Some n) = not (is_at place (unit_named n 0 all))

abbrev pub repeated_from : List Placed → ℕ → List Placed → List ℕ
repeated_from all place [] = []
repeated_from all place (u ∷ us) =
    if is_repeated_name all place (imported_as place u.source) then place ∷ repeated_from all (suc place) us else repeated_from all (suc place) us

abbrev pub repeated_places : List Placed → List ℕ
repeated_places all = repeated_from all 0 all

-- a name is a standard library's
abbrev pub has_standard_name : Option LibraryName → Bool
has_standard_name None = false
has_standard_name (Some n) = is_some (standard n)
