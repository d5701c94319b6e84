use Rattle.std.proofs.Common.{◌≡◌, ◌++◌, map}
use Rattle.program_leaves.specs.Leaves.{seen_of}
use Rattle.program_findings.specs.Unbound.{free_uses}
use Rattle.program_findings.proofs.unbound.in_leaves.Given as goal

abbrev pub invariant-loop-leaf : goal.invariant-loop-leaf
invariant-loop-leaf l = l.found.items ≡ l.initial.found.items ++ free_uses (map seen_of l.yielded)
