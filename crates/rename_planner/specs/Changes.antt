-- The exports that are to change, as the code finds them: the last names of a unit are the external ones, in the order of its exports.
use Rattle.std.specs.Prelude.{ℕ, zero, suc, ◌-◌, nat_lt, ◌==◌, ◌||◌, List, [], ◌∷◌, ◌++◌, length, Option, Some, None, slice_get, if◌then◌else◌}
use Rattle.scheme_model.specs.declared.Occ.{Occ}
use Rattle.rename_model.specs.SameProgram.{ExportChange}
use Rattle.core_tree.specs.declared.units.NameUse.{NameUse}
use Rattle.core_tree.specs.declared.units.Unit.{Unit}
use Rattle.syntax_tree.specs.declared.units.Entry.{Entry}

abbrev pub place_in : Option NameUse → Option Occ
place_in None = None
place_in (Some n) = n.target.occ

-- where the name stands that is so many from the end
abbrev pub occ_from_end : List NameUse → (behind : ℕ) → Option Occ
occ_from_end ns behind = if behind == 0 || nat_lt (length ns) behind then None else place_in (slice_get ns (length ns - behind))

-- the new name of what stands at a place
abbrev pub named_at : (Occ → Option (List ℕ)) → Option Occ → Option (List ℕ)
named_at name None = None
named_at name (Some o) = name o

abbrev pub change_to : (unit : ℕ) → (old : List ℕ) → Option (List ℕ) → List ExportChange
change_to unit old None = []
change_to unit old (Some new) = record { unit = unit; old = old; new = new } ∷ []

abbrev pub change_told : (Occ → Option (List ℕ)) → (unit : ℕ) → (old : List ℕ) → Option Occ → List ExportChange
change_told name unit old occ = change_to unit old (named_at name occ)

-- those of exports, of which the last has the last name
abbrev pub changes_among : (Occ → Option (List ℕ)) → (unit : ℕ) → List NameUse → List Entry → List ExportChange
changes_among name unit ns [] = []
changes_among name unit ns (e ∷ es) = change_told name unit e.name (occ_from_end ns (suc (length es))) ++ changes_among name unit ns es

abbrev pub unit_changes : (Occ → Option (List ℕ)) → (unit : ℕ) → Unit → List ExportChange
unit_changes name unit u = changes_among name unit u.names u.exports

-- those of units, from a number on
abbrev pub all_changes : (Occ → Option (List ℕ)) → (place : ℕ) → List Unit → List ExportChange
all_changes name place [] = []
all_changes name place (u ∷ us) = unit_changes name place u ++ all_changes name (suc place) us
