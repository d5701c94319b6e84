use Rattle.std.proofs.Common.{◌≡◌, ℕ, List, [], drop}
use Rattle.std.specs.Prelude.{nat_eq}
use Rattle.std.specs.List.{list_any}
use Rattle.std.specs.BTreeSet.{contains}
use Rattle.std.specs.Ordering.{nat_cmp}
use Rattle.core_forms.specs.Numbers.{twice_by_number}
use Rattle.core_forms.proofs.names.twice_of_many.Given as goal

abbrev pub invariant-loop-name : goal.invariant-loop-name
invariant-loop-name l =
    (numbers : List ℕ) × (twice_by_number [] l.names ≡ twice_by_number numbers (drop l.name-index l.names)) × ((q : ℕ) → contains nat_cmp l.seen q ≡ list_any (nat_eq q) numbers)
