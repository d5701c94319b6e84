use Rattle.std.proofs.Common.{◌≡◌, ◌++◌, List, length, drop}
use Rattle.scheme_model.specs.Program.{ExportSpec, ExportFault, UnitResult}
use Rattle.scheme_model.specs.Diagnostics.{bytes_of, export_diagnostics}
use Rattle.unit_sources.specs.Exports.{AreFaults}
use Rattle.unit_sources.specs.Sources.{AreExports}
use Rattle.core_tree.specs.Units.{export_errors}
use Rattle.read_documents.specs.Findings.{all_told, errors_in}
use Rattle.read_documents.specs.Places.{AreFoundIn, ArePlaces, spans_of}
use Rattle.read_documents.specs.Readings.{Read}
use Rattle.unit_imports.proofs.exported.exports_given.Given as goal

-- what is told so far, and the faults that are left
abbrev pub invariant-loop-fault : goal.invariant-loop-fault
invariant-loop-fault l = record {
  inside : AreFoundIn (length l.places.documents.now) l.initial.findings.items → AreFoundIn (length l.places.documents.now) l.findings.items;
  told : (xs : List ExportSpec) → AreExports l.specs xs → (gs : List ExportFault) → AreFaults xs l.fault-items gs → (reads : List Read) (us : List UnitResult) → ArePlaces l.places reads us →
      all_told l.findings.items ++ export_diagnostics (bytes_of (spans_of reads) us) l.unit (drop l.fault-index gs) ≡ all_told l.initial.findings.items ++ export_diagnostics (bytes_of (spans_of reads) us) l.unit gs;
  errors : (xs : List ExportSpec) → AreExports l.specs xs → (gs : List ExportFault) → AreFaults xs l.fault-items gs → errors_in l.findings.items ++ export_errors (drop l.fault-index gs) ≡ errors_in l.initial.findings.items ++ export_errors gs;
}
