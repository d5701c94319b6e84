-- What the units of the code are (R7RS 5.1, 5.6.1).
use Rattle.std.specs.Prelude.{◌≡◌, ℕ, suc, List, [], ◌∷◌, not}
use Rattle.std.specs.Option.{option_map}
use Rattle.scheme_model.specs.Requirements.{LibraryName}
use Rattle.scheme_model.specs.IncludedUnits.{Placed, UnitSource}
use Rattle.scheme_model.specs.Program.{ImportSpec, ExportSpec, imported_as, forms_or_none, specs_from, exports_from}
use Rattle.import_sets.specs.Sets.{named, IsSetOf}
use Rattle.import_sets.specs.Given.{same_place}
use Rattle.unit_sources.specs.declared.units.ImportSpec as code_import
use Rattle.unit_sources.specs.declared.units.ExportSpec as code_export
use Rattle.unit_sources.specs.declared.units.UnitSource as code

-- a library's name is kept as a text, and names are told apart by their texts
abbrev pub TellsNames : (LibraryName → List ℕ) → Type 0
TellsNames spelled = (m n : LibraryName) → spelled m ≡ spelled n → m ≡ n

abbrev pub IsImport : (LibraryName → List ℕ) → code_import.ImportSpec → ImportSpec → Type 0
IsImport spelled c s = IsSetOf (λ t n. t ≡ spelled n) c.set s.set

abbrev pub AreImports : (LibraryName → List ℕ) → List code_import.ImportSpec → List ImportSpec → Type 0
AreImports spelled [] [] = Unit {0}
AreImports spelled [] (s ∷ ss) = ⊥
AreImports spelled (c ∷ cs) [] = ⊥
AreImports spelled (c ∷ cs) (s ∷ ss) = IsImport spelled c s × AreImports spelled cs ss

-- an export stands under another name where its two identifiers stand at two places
pub record IsExport (c : code_export.ExportSpec) (x : ExportSpec) : Type 0 where
  pub form : c.form ≡ x.form
  pub inner : named c.inner ≡ x.inner
  pub outer : named c.outer ≡ x.outer
  pub renamed : not (same_place c.inner.occ c.outer.occ) ≡ x.renamed

abbrev pub AreExports : List code_export.ExportSpec → List ExportSpec → Type 0
AreExports [] [] = Unit {0}
AreExports [] (x ∷ xs) = ⊥
AreExports (c ∷ cs) [] = ⊥
AreExports (c ∷ cs) (x ∷ xs) = IsExport c x × AreExports cs xs

-- the unit at a place; where no one imports it by a name, the code's unit has none
pub record IsUnit (spelled : LibraryName → List ℕ) (place : ℕ) (c : code.UnitSource) (u : UnitSource) : Type 0 where
  pub name : c.name ≡ option_map spelled (imported_as place u)
  pub imports : AreImports spelled c.imports (specs_from place 0 (forms_or_none u.forms))
  pub exports : AreExports c.exports (exports_from place 0 (forms_or_none u.forms))

-- the units from a place on
abbrev pub AreUnitsFrom : (LibraryName → List ℕ) → ℕ → List code.UnitSource → List Placed → Type 0
AreUnitsFrom spelled n [] [] = Unit {0}
AreUnitsFrom spelled n [] (u ∷ us) = ⊥
AreUnitsFrom spelled n (c ∷ cs) [] = ⊥
AreUnitsFrom spelled n (c ∷ cs) (u ∷ us) = IsUnit spelled n c u.source × AreUnitsFrom spelled (suc n) cs us

abbrev pub AreUnits : (LibraryName → List ℕ) → List code.UnitSource → List Placed → Type 0
AreUnits spelled cs us = AreUnitsFrom spelled 0 cs us
