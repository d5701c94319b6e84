-- The diagnostics of the open documents (LSP 3.17, Diagnostic): one of a document that doesn't read, and else those of the program
-- that stand in it, at positions of an encoding.
use Rattle.std.specs.Prelude.{◌≡◌, ℕ, suc, nat_lt, List, [], ◌∷◌, map, slice_get, Some, if◌then◌else◌}
use Rattle.std.specs.BTreeMap.{BTreeMap}
use Rattle.ls_base.specs.Positions.{position_of}
use Rattle.ls_base.specs.declared.encoding.Encoding.{Encoding}
use Rattle.ls_base.specs.declared.answers.Diagnostic as told
use Rattle.ls_base.specs.declared.places.Range.{Range}
use Rattle.scheme_model.specs.Faults.{Stop}
use Rattle.scheme_model.specs.Diagnostics.{Diagnostic, diagnostics_of}
use Rattle.document_store.specs.Texts.{Document}
use Rattle.read_documents.specs.Findings.{in_document, kept}
use Rattle.scheme_model.specs.DiagnosticTexts.{worded}
use Rattle.read_documents.specs.Readings.{Read, Reads, Stops, spans_in, program_in}

-- codes below 100 are errors, the others warnings
abbrev pub severity_of : ℕ → ℕ
severity_of code = if nat_lt code 100 then 1 else 2

-- bytes as positions
abbrev pub range_of : Encoding → List ℕ → (start end : ℕ) → Range
range_of encoding text start end = record { start = position_of encoding text start; end = position_of encoding text end }

-- a finding as the code keeps it: start, code and message, with its end
abbrev pub found_told : Encoding → List ℕ → (ℕ × ℕ × List ℕ) × ℕ → told.Diagnostic
found_told encoding text f = record { range = range_of encoding text f.0.0 f.1; code = f.0.1; severity = severity_of f.0.1; message = f.0.2 }

abbrev pub told_in : Encoding → List ℕ → Diagnostic → told.Diagnostic
told_in encoding text d = record { range = range_of encoding text d.start d.end; code = d.code; severity = severity_of d.code; message = d.text }

-- ---- documents

-- the lists of documents by what the code keeps of them
abbrev pub lists_told : Encoding → List (List ℕ × Document) → List (BTreeMap (ℕ × ℕ × List ℕ) ℕ) → List (List ℕ × List told.Diagnostic)
lists_told encoding [] ms = []
lists_told encoding (d ∷ ds) [] = []
lists_told encoding (d ∷ ds) (m ∷ ms) = (d.0, map (found_told encoding d.1.1) m.entries) ∷ lists_told encoding ds ms

abbrev pub of_stop : ℕ → Stop → Diagnostic
of_stop place f = record { document = place; start = f.start; end = f.end; code = f.number; text = worded f.number [] }

abbrev pub found_in : List Diagnostic → ℕ → Read → List Diagnostic
found_in all place (Reads uri ds spans) = in_document place all
found_in all place (Stops uri f) = of_stop place f ∷ []

-- the diagnostics of a document that is read so, among others
abbrev pub found_of : List Read → ℕ → Read → List Diagnostic
found_of rs place r = found_in (diagnostics_of (map spans_in rs) (program_in rs)) place r

-- the code keeps the diagnostics of documents that are read so
abbrev pub AreFoundOf : List Read → List (BTreeMap (ℕ × ℕ × List ℕ) ℕ) → Type 0
AreFoundOf rs ms = (n : ℕ) (m : BTreeMap (ℕ × ℕ × List ℕ) ℕ) (r : Read) → slice_get ms n ≡ Some m → slice_get rs n ≡ Some r → m.entries ≡ map kept (found_of rs n r)

-- a list, with the uri and the document that it is of
pub record Listed : Type 0 where
  pub uri : List ℕ
  pub document : Document
  pub list : List told.Diagnostic

abbrev pub lists_from : Encoding → List Read → ℕ → List (List ℕ × Document) → List Read → List Listed
lists_from encoding all place [] rs = []
lists_from encoding all place (d ∷ ds) [] = []
lists_from encoding all place (d ∷ ds) (r ∷ rs) = record { uri = d.0; document = d.1; list = map (told_in encoding d.1.1) (found_of all place r) } ∷ lists_from encoding all (suc place) ds rs

-- the lists of all documents, which are read so, in the order of their uris
abbrev pub lists_of : Encoding → List (List ℕ × Document) → List Read → List Listed
lists_of encoding ds rs = lists_from encoding rs 0 ds rs
