use Rattle.std.proofs.Common.{◌≡◌, ◌+◌, length}
use Rattle.generated_workspace.proofs.known.add_ranges.Given as goal

-- one for each that was gone through
abbrev pub invariant-loop-diagnostic : goal.invariant-loop-diagnostic
invariant-loop-diagnostic l = length l.ranges ≡ length l.initial.ranges + l.diagnostic-index
