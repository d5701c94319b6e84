use Rattle.std.proofs.Common.{List, length, map, drop}
use Rattle.scheme_model.specs.UnitExpansion.{Formed}
use Rattle.scheme_model.specs.Program.{UnitResult}
use Rattle.scheme_model.specs.Declarations.{forms_hold}
use Rattle.scheme_model.specs.Diagnostics.{bytes_of}
use Rattle.unit_sources.specs.UnitsRead.{forms_of}
use Rattle.syntax_tree.specs.Names.{KeepsNames}
use Rattle.syntax_tree.specs.declared.trees.Work.{Work}
use Rattle.core_tree.specs.Units.{FormsStand}
use Rattle.read_documents.specs.Readings.{Read}
use Rattle.read_documents.specs.Places.{AreFoundIn, ArePlaces, spans_of}
use Rattle.read_documents.proofs.DiagnosedLaws.{ToCome}
use Rattle.program_findings.proofs.diagnosing.add_faults.Given as goal

-- what is found so far stands in the documents, and the rest is of the forms to come
abbrev pub invariant-loop-place : goal.invariant-loop-place
invariant-loop-place l = record {
  inside : AreFoundIn (length l.places.documents.now) l.initial.findings.items → AreFoundIn (length l.places.documents.now) l.findings.items;
  exact : (rs : List Read) (us : List UnitResult) (work : Work) (fs : List Formed) → ArePlaces l.places rs us → KeepsNames work.symbols l.symbols → FormsStand work l.unit 0 (map (λ form. form.now) l.forms) fs →
      ToCome (bytes_of (spans_of rs) us) (forms_hold l.unit (forms_of l.sources)) work l.unit l.place (drop l.place (map (λ form. form.now) l.forms)) fs l.initial.findings.items l.findings.items;
}
