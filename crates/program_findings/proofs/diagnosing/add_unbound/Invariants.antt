use Rattle.std.proofs.Common.{◌≡◌, ◌++◌, List, length}
use Rattle.scheme_model.specs.Program.{UnitResult}
use Rattle.scheme_model.specs.Cores.{Target}
use Rattle.scheme_model.specs.Diagnostics.{bytes_of}
use Rattle.syntax_tree.specs.Names.{Names, KeepsNames}
use Rattle.core_tree.specs.Names.{AllMatch}
use Rattle.read_documents.specs.Readings.{Read}
use Rattle.read_documents.specs.Places.{AreFoundIn, ArePlaces, spans_of}
use Rattle.program_findings.specs.Unbound.{IsUnbound}
use Rattle.program_findings.proofs.UnboundFound.{all_unbound}
use Rattle.program_findings.proofs.diagnosing.add_unbound.Given as goal

-- what is found so far stands in the documents, and is that of the uses gone through
abbrev pub invariant-loop-target : goal.invariant-loop-target
invariant-loop-target l = record {
  inside : AreFoundIn (length l.places.documents.now) l.initial.findings.items → AreFoundIn (length l.places.documents.now) l.findings.items;
  exact : (rs : List Read) (us : List UnitResult) (names : Names) → ArePlaces l.places rs us → KeepsNames names l.symbols → (ms : List Target) → AllMatch (IsUnbound names) l.yielded ms →
      l.findings.items ≡ l.initial.findings.items ++ all_unbound (bytes_of (spans_of rs) us) ms;
}
