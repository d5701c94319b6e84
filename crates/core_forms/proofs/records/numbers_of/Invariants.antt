use Rattle.std.proofs.Common.{◌≡◌, ℕ, take}
use Rattle.std.specs.BTreeSet.{contains}
use Rattle.std.specs.Ordering.{nat_cmp}
use Rattle.core_forms.specs.Numbers.{has_number}
use Rattle.core_forms.proofs.records.numbers_of.Given as goal

abbrev pub invariant-loop-name : goal.invariant-loop-name
invariant-loop-name l = (n : ℕ) → contains nat_cmp l.numbers n ≡ has_number (take l.name-index l.names) n
