-- The names that exports are asked to have, and exports as they are given.
use Rattle.std.specs.Prelude.{◌≡◌, ◌==◌, ◌&&◌, ℕ, List, [], ◌∷◌, map, Option, Some, None, if◌then◌else◌}
use Rattle.std.specs.Str.{bytes_eq}
use Rattle.std.specs.List.{flat_map}
use Rattle.scheme_model.specs.Entries.{Entry}
use Rattle.scheme_model.specs.Substitution.{Table}
use Rattle.scheme_model.specs.Program.{ExportSpec, UnitResult, Program, result_at}
use Rattle.rename_model.specs.Walks.{Point}
use Rattle.rename_model.specs.SameProgram as same
use Rattle.core_tree.specs.Names.{AllMatch}
use Rattle.core_tree.specs.Units.{externals}
use Rattle.program_differences.specs.declared.plan.ExportChange.{ExportChange}

abbrev pub change_as : ExportChange → same.ExportChange
change_as c = record { unit = c.unit; old = c.old; new = c.new }

abbrev pub changes_as : List ExportChange → List same.ExportChange
changes_as cs = map change_as cs

abbrev pub first_given : {A : Type 0} → Option A → Option A → Option A
first_given None other = other
first_given (Some a) other = Some a

-- the name that an export of a unit is asked to have, where it is
abbrev pub asked_at : ℕ → List ExportChange → List ℕ → Option (List ℕ)
asked_at u [] s = None
asked_at u (c ∷ cs) s = if (c.unit == u) && bytes_eq c.old s then Some c.new else asked_at u cs s

abbrev pub name_or : Option (List ℕ) → List ℕ → List ℕ
name_or None s = s
name_or (Some t) s = t

-- each export is given by the export declaration of its name, in their order
abbrev pub IsGiven : Entry → ExportSpec → Type 0
IsGiven e x = e.name ≡ x.outer.name

abbrev pub AreGiven : Program → UnitResult → Type 0
AreGiven p r = AllMatch IsGiven r.exports (externals p.table r)

abbrev pub ExportsAreGiven : Program → Type 0
ExportsAreGiven p = (n : ℕ) (r : UnitResult) → result_at p.units n ≡ Some r → AreGiven p r

-- the points of exports
abbrev pub all_exports : Table → (List ℕ → List ℕ) → List ExportSpec → List Entry → List Point
all_exports table asked xs es = flat_map (same.export_points table asked xs) es
