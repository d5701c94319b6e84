use Rattle.std.proofs.Common.{◌≡◌, ◌<◌, ◌++◌, ℕ, List, length, map, take, slice_get, Some}
use Rattle.scheme_model.specs.Included.{LostString}
use Rattle.unit_sources.specs.UnitsRead.{lost_as}
use Rattle.read_documents.specs.Places.{AreFoundIn}
use Rattle.program_findings.specs.LostFound.{lost_found}
use Rattle.program_findings.proofs.diagnosing.add_lost.Given as goal

-- what is found so far stands in the documents, and is that of the strings gone through
abbrev pub invariant-loop-string : goal.invariant-loop-string
invariant-loop-string l = record {
  inside : AreFoundIn (length l.places.documents.now) l.initial.findings.items → AreFoundIn (length l.places.documents.now) l.findings.items;
  exact : (ls : List LostString) → l.lost ≡ map lost_as ls → ((n : ℕ) (s : LostString) → slice_get ls n ≡ Some s → s.document < length l.places.documents.now) →
      l.findings.items ≡ l.initial.findings.items ++ map lost_found (take l.string-index ls);
}
