use Rattle.std.proofs.Common.{◌≡◌, ◌++◌, List, vec_len}
use Rattle.scheme_model.specs.Diagnostics.{Diagnostic}
use Rattle.read_documents.specs.Findings.{AreKept, all_told}
use Rattle.program_findings.proofs.sorted_findings.add.Given as goal

-- the documents stay as many, and what was gone through is kept behind what was there
abbrev pub invariant-loop-finding : goal.invariant-loop-finding
invariant-loop-finding l = (vec_len l.all ≡ vec_len l.initial.all) × ((ds : List Diagnostic) → AreKept ds l.initial.all.items → AreKept (ds ++ all_told l.yielded) l.all.items)
