use Rattle.std.proofs.Common.{◌≡◌, ◌++◌, List, length, map}
use Rattle.scheme_model.specs.Program.{UnitResult}
use Rattle.scheme_model.specs.Diagnostics.{bytes_of}
use Rattle.read_documents.specs.Readings.{Read}
use Rattle.read_documents.specs.Places.{AreFoundIn, ArePlaces, spans_of}
use Rattle.unit_imports.proofs.HidingLaws.{all_hidden}
use Rattle.unit_imports.proofs.defined.add_hiding.Given as goal

-- what is found so far stands in the documents, and is that of the definitions gone through
abbrev pub invariant-loop-form : goal.invariant-loop-form
invariant-loop-form l = record {
  inside : AreFoundIn (length l.places.documents.now) l.initial.findings.items → AreFoundIn (length l.places.documents.now) l.findings.items;
  exact : (rs : List Read) (us : List UnitResult) → ArePlaces l.places rs us →
      l.findings.items ≡ l.initial.findings.items ++ all_hidden (bytes_of (spans_of rs) us) l.unit (map (λ form. form.now) l.forms) l.symbols l.joined.entries.items (map (λ b. b.now) l.yielded);
}
