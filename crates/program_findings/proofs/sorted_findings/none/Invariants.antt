use Rattle.std.proofs.Common.{◌≡◌, [], vec_len}
use Rattle.read_documents.specs.Findings.{AreKept}
use Rattle.program_findings.proofs.sorted_findings.none.Given as goal

-- as many as turns, all empty
abbrev pub invariant-loop : goal.invariant-loop
invariant-loop l = (vec_len l.all ≡ l.counter) × AreKept [] l.all.items
