use Rattle.std.proofs.Common.{◌≡◌, [], take}
use Rattle.read_documents.specs.Findings.{all_told}
use Rattle.read_documents.proofs.findings.none_placed.Given as goal

-- none so far
abbrev pub invariant-loop-finding : goal.invariant-loop-finding
invariant-loop-finding l = all_told (take l.finding-index l.findings) ≡ []
