use Rattle.std.proofs.Common.{◌≡◌, take}
use Rattle.std.specs.FinMap.{entries}
use Rattle.read_documents.specs.Listed.{lists_told}
use Rattle.program_answers.specs.Updates.{entries_shown}
use Rattle.program_answers.proofs.lists.lists.Given as goal

-- the lists of the documents gone through
abbrev pub invariant-loop-place : goal.invariant-loop-place
invariant-loop-place l = entries_shown l.lists ≡ lists_told l.encoding (take l.place (entries l.opened)) l.findings
