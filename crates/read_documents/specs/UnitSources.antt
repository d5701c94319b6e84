-- The sources of units, as the code has them (R7RS 5.1, 5.2, 5.6.1).
use Rattle.std.specs.Prelude.{◌≡◌, ℕ, List, [], ◌∷◌, false, slice_get, Option, Some, None}
use Rattle.scheme_model.specs.Requirements.{LibraryName}
use Rattle.scheme_model.specs.IncludedUnits.{Placed}
use Rattle.scheme_model.specs.Program.{ImportSpec, ExportSpec, Prepared, prepared, prepare, WholeFault, fault_before}
use Rattle.datum_reader.specs.Looks.{bytes_of}
use Rattle.import_sets.specs.Sets.{IsSetOf}
use Rattle.unit_sources.specs.declared.units.ImportSpec as code_import
use Rattle.core_tree.specs.Names.{AllMatch}
use Rattle.core_tree.specs.Units.{kind_as}
use Rattle.unit_sources.specs.Sources.{AreExports}
use Rattle.unit_sources.specs.UnitsRead.{forms_of, AreLost}
use Rattle.unit_sources.specs.declared.units.UnitSource.{UnitSource}

-- an import set, with its unit and the bytes of the set and of its library's name
pub record IsSpec (spelled : LibraryName → List ℕ) (c : code_import.ImportSpec) (s : ImportSpec) : Type 0 where
  pub unit : c.unit ≡ s.unit
  pub set : IsSetOf (λ t n. t ≡ spelled n) c.set s.set
  pub whole : c.span ≡ bytes_of s.whole
  pub library : c.library ≡ bytes_of s.library

-- an export that isn't renamed has one identifier
abbrev pub HaveOneIfSame : List ExportSpec → Type 0
HaveOneIfSame [] = Unit {0}
HaveOneIfSame (x ∷ xs) = (x.renamed ≡ false → x.outer ≡ x.inner) × HaveOneIfSame xs

-- the source of a unit, whose imports are there unless it is broken
pub record IsSourceOf (spelled : LibraryName → List ℕ) (p : Prepared) (broken : Option WholeFault) (c : UnitSource) : Type 0 where
  pub kind : kind_as c.kind ≡ p.placed.source.kind
  pub forms : p.forms ≡ forms_of c.forms
  pub imports : broken ≡ None → AllMatch (IsSpec spelled) c.imports p.specs
  pub exports : AreExports c.exports p.exports
  pub single : HaveOneIfSame p.exports
  pub lost : AreLost c.lost p.placed.source.lost

-- each unit has one
abbrev pub AreSourcesOf : (LibraryName → List ℕ) → List Placed → List UnitSource → Type 0
AreSourcesOf spelled all cs = (n : ℕ) (u : Placed) (c : UnitSource) → slice_get all n ≡ Some u → slice_get cs n ≡ Some c → IsSourceOf spelled (prepared all n u) (fault_before all (prepare all 0 all) (prepared all n u)) c

-- each source is that of its unit, as it was read
abbrev pub AreReadOf : (LibraryName → List ℕ) → List Placed → List UnitSource → Type 0
AreReadOf spelled all cs = (n : ℕ) (u : Placed) (c : UnitSource) → slice_get all n ≡ Some u → slice_get cs n ≡ Some c → IsSourceOf spelled (prepared all n u) None c
