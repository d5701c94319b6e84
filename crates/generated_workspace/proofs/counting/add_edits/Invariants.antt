use Rattle.std.proofs.Common.{◌≡◌, ◌+◌, length}
use Rattle.generated_workspace.proofs.counting.add_edits.Given as goal

-- one for each that was gone through
abbrev pub invariant-loop-edit : goal.invariant-loop-edit
invariant-loop-edit l = length l.ranges ≡ length l.initial.ranges + l.edit-index
