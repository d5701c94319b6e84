use Rattle.std.proofs.Common.{◌≡◌, ℕ, List, [], take, drop}
use Rattle.std.specs.Prelude.{nat_eq}
use Rattle.std.specs.List.{list_any}
use Rattle.core_forms.specs.Numbers.{has_number, twice_by_number}
use Rattle.core_forms.proofs.names.twice_of_few.Given as goal

-- the names up to here have these numbers, the latest first
abbrev pub invariant-loop-k : goal.invariant-loop-k
invariant-loop-k l =
    (numbers : List ℕ) × (twice_by_number [] l.names ≡ twice_by_number numbers (drop l.k l.names)) × ((q : ℕ) → has_number (take l.k l.names) q ≡ list_any (nat_eq q) numbers)
