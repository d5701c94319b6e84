use Rattle.std.proofs.Common.{◌≡◌, ◌++◌}
use Rattle.program_findings.proofs.sorted_findings.append.Given as goal

-- the findings gone through stand behind the others
abbrev pub invariant-loop-finding : goal.invariant-loop-finding
invariant-loop-finding l = l.all.items ≡ l.initial.all.items ++ l.yielded
