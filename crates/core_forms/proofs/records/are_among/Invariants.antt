use Rattle.std.proofs.Common.{◌≡◌, ℕ, List, drop}
use Rattle.std.specs.BTreeSet.{contains}
use Rattle.std.specs.Ordering.{nat_cmp}
use Rattle.core_forms.specs.declared.shape.NamePart.{NamePart}
use Rattle.core_forms.specs.Numbers.{has_number, all_numbers}
use Rattle.core_forms.proofs.records.are_among.Given as goal

abbrev pub invariant-loop-name : goal.invariant-loop-name
invariant-loop-name l = (fields : List NamePart) → ((n : ℕ) → contains nat_cmp l.numbers n ≡ has_number fields n) → all_numbers l.names fields ≡ all_numbers (drop l.name-index l.names) fields
