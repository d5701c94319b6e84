use Rattle.std.proofs.Common.{◌≡◌, ℕ, take}
use Rattle.std.specs.BTreeMap.{get}
use Rattle.std.specs.Ordering.{nat_cmp}
use Rattle.rules_check.specs.Lowest.{depth_by_number}
use Rattle.rules_check.proofs.rule.depths_of.Given as goal

abbrev pub invariant-loop-variable : goal.invariant-loop-variable
invariant-loop-variable l = (n : ℕ) → get nat_cmp l.depths n ≡ depth_by_number (take l.variable-index l.variables) n
