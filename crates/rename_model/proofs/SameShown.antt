-- Comparisons of programs in the notation of rows.
use Rattle.std.specs.Prelude.{ℕ, Bool, List, [], ◌∷◌, ◌++◌, map, Option, Some, None, if◌then◌else◌}
use Rattle.std.specs.List.{flat_map}
use Rattle.scheme_model.specs.declared.Occ.{Occ}
use Rattle.scheme_model.specs.Includes.{Document}
use Rattle.scheme_model.specs.Program.{UnitResult, Program, ExportSpec, program_of, units_of}
use Rattle.scheme_model.specs.Diagnostics.{Span}
use Rattle.scheme_model.specs.Sites.{name_at}
use Rattle.scheme_model.proofs.Shown.{Texts, alone}
use Rattle.scheme_model.proofs.ShownIncludes.{documents_from}
use Rattle.rename_model.specs.Reach.{holds_one, unit_numbers}
use Rattle.rename_model.specs.SameProgram.{ExportChange, Plan}
use Rattle.rename_model.specs.Difference.{Difference, difference_in, first_difference, is_renamed}

-- two programs, all units in reach, no export asked to change
abbrev difference_between : List Document → List Document → List Occ → Option Difference
difference_between old new members =
    difference_in (units_of old) (program_of old) (program_of new) (record { members = members; exports = [] }) (unit_numbers (program_of old).units)

abbrev pub difference_rows : Texts → Texts → List Occ → Option Difference
difference_rows old new members = difference_between (alone old) (alone new) members

-- the name that an occurrence gets
abbrev name_for : List (Occ × List ℕ) → Option Occ → Option (List ℕ)
name_for [] o = None
name_for (n ∷ ns) o = if is_renamed (n.0 ∷ []) o then Some n.1 else name_for ns o

abbrev change_of : ℕ → ExportSpec → Option (List ℕ) → List ExportChange
change_of unit x None = []
change_of unit x (Some s) = record { unit = unit; old = x.outer.name; new = s } ∷ []

abbrev changes_in : List (Occ × List ℕ) → UnitResult → List ExportChange
changes_in names r = flat_map (λ (x : ExportSpec). change_of r.unit.number x (name_for names x.outer.occ)) r.unit.exports

abbrev renamed_with : List Document → List Document → List (Occ × List ℕ) → Option Difference
renamed_with old new names = let p = program_of old in
    first_difference (units_of old) p (program_of new) (record { members = map (λ (n : Occ × List ℕ). n.0) names; exports = flat_map (changes_in names) p.units })

abbrev named_at : Option Occ → List ℕ → List (Occ × List ℕ)
named_at None s = []
named_at (Some o) s = (o, s) ∷ []

-- a program, and what it is once the identifiers that begin at these bytes of documents have these names, exports with them
abbrev renamed_between : List (List Span) → List Document → List Document → List ((ℕ × ℕ) × List ℕ) → Option Difference
renamed_between spans old new places =
    renamed_with old new (flat_map (λ (q : (ℕ × ℕ) × List ℕ). named_at (name_at spans (program_of old).units q.0.0 q.0.1) q.1) places)

abbrev pub renamed_rows : List (List Span) → Texts → Texts → List ((ℕ × ℕ) × List ℕ) → Option Difference
renamed_rows spans old new places = renamed_between spans (alone old) (alone new) places

-- ---- texts that include others

-- the same, by what strings mean
abbrev pub renamed_parts : List (List Span) → List (ℕ × List ℕ × ℕ) → Texts → Texts → List ((ℕ × ℕ) × List ℕ) → Option Difference
renamed_parts spans ms old new places = renamed_between spans (documents_from ms 0 old) (documents_from ms 0 new) places

-- which units hold an occurrence
abbrev pub held_rows : List (ℕ × List ℕ × ℕ) → Texts → Occ → List Bool
held_rows ms ds o = map (holds_one (o ∷ [])) (program_of (documents_from ms 0 ds)).units
