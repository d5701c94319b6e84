use Rattle.std.proofs.Common.{◌≡◌, ◌-◌, ℕ, length, drop}
use Rattle.std.specs.BTreeMap.{get}
use Rattle.std.specs.Ordering.{nat_cmp}
use Rattle.rules_build.specs.Values.{value_by_number}
use Rattle.rules_build.proofs.index.maps_of.Given as goal

abbrev pub invariant-loop-behind : goal.invariant-loop-behind
invariant-loop-behind l = (n : ℕ) → get nat_cmp l.values n ≡ value_by_number (drop (length l.bounds - l.behind) l.bounds) n
