-- What a unit exports, and the faults of its exports, as the code has them (R7RS 5.6.1).
use Rattle.std.specs.Prelude.{◌≡◌, List, [], ◌∷◌, slice_get, Some}
use Rattle.scheme_model.specs.Program.{ExportSpec, ExportFault, NotDefined, SameExport, Exported}
use Rattle.syntax_tree.specs.Names.{Names}
use Rattle.syntax_tree.specs.Meant.{AreEntries}
use Rattle.unit_sources.specs.declared.fault.LibraryFault.TheVariants as fault
use Rattle.unit_sources.specs.declared.exporting.ExportFault as code_fault
use Rattle.unit_sources.specs.declared.exporting.Exports as code

-- the fault of the export at a place among these
abbrev pub IsFault : List ExportSpec → code_fault.ExportFault → ExportFault → Type 0
IsFault xs f (NotDefined x) = (slice_get xs f.place ≡ Some x) × (f.fault ≡ fault.NotDefined x.inner.name)
IsFault xs f (SameExport x) = (slice_get xs f.place ≡ Some x) × (f.fault ≡ fault.SameExport x.outer.name)

abbrev pub AreFaults : List ExportSpec → List code_fault.ExportFault → List ExportFault → Type 0
AreFaults xs [] [] = Unit {0}
AreFaults xs [] (g ∷ gs) = ⊥
AreFaults xs (f ∷ fs) [] = ⊥
AreFaults xs (f ∷ fs) (g ∷ gs) = IsFault xs f g × AreFaults xs fs gs

pub record AreExported (names : Names) (xs : List ExportSpec) (r : code.Exports) (e : Exported) : Type 0 where
  pub entries : AreEntries names r.entries e.entries
  pub faults : AreFaults xs r.faults e.faults
