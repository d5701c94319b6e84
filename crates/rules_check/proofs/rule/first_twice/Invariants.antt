use Rattle.std.proofs.Common.{◌≡◌, ℕ, List, [], drop}
use Rattle.std.specs.Prelude.{nat_eq}
use Rattle.std.specs.List.{list_any}
use Rattle.std.specs.BTreeSet.{contains}
use Rattle.std.specs.Ordering.{nat_cmp}
use Rattle.rules_check.specs.Lowest.{twice_by_number}
use Rattle.rules_check.proofs.rule.first_twice.Given as goal

abbrev pub invariant-loop-variable : goal.invariant-loop-variable
invariant-loop-variable l =
    (numbers : List ℕ) × (twice_by_number [] l.variables ≡ twice_by_number numbers (drop l.variable-index l.variables)) × ((q : ℕ) → contains nat_cmp l.seen q ≡ list_any (nat_eq q) numbers)
