use Rattle.std.proofs.Common.{◌<◌, ℕ, IfSome, take}
use Rattle.read_documents.specs.Findings.{IsFirst}
use Rattle.read_documents.specs.Places.{AreFoundIn}
use Rattle.program_findings.proofs.FirstLaws.{errors_to}
use Rattle.program_findings.proofs.sorted_findings.first_error.Given as goal

-- the first of those gone through, which stands in a document
abbrev pub invariant-loop-finding : goal.invariant-loop-finding
invariant-loop-finding l =
    IsFirst l.first (errors_to (take l.finding-index l.findings))
    × ((count : ℕ) → AreFoundIn count l.findings → IfSome l.first (λ f. f.0.document < count))
