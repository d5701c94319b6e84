use Rattle.std.proofs.Common.{◌≡◌, ◌++◌, map}
use Rattle.read_documents.specs.Listed.{found_told}
use Rattle.program_answers.proofs.lists.list.Given as goal

-- the findings gone through are told
abbrev pub invariant-loop-start : goal.invariant-loop-start
invariant-loop-start l = l.list ++ map (found_told l.encoding l.text) l.start-iterator ≡ map (found_told l.encoding l.text) l.findings.entries
