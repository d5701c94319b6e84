use Rattle.std.proofs.Common.{◌≡◌, take}
use Rattle.program_answers.proofs.lists.copy_of.Given as goal

-- the diagnostics gone through are copied
abbrev pub invariant-loop-diagnostic : goal.invariant-loop-diagnostic
invariant-loop-diagnostic l = l.copy ≡ take l.diagnostic-index l.list
