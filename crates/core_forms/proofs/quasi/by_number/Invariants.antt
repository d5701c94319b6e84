use Rattle.std.proofs.Common.{◌≡◌, ℕ, take}
use Rattle.std.specs.BTreeMap.{get}
use Rattle.std.specs.Ordering.{nat_cmp}
use Rattle.core_forms.specs.Marks.{keyword_by_number}
use Rattle.core_forms.proofs.quasi.by_number.Given as goal

abbrev pub invariant-loop-mark : goal.invariant-loop-mark
invariant-loop-mark l = (n : ℕ) → get nat_cmp l.told n ≡ keyword_by_number (take l.mark-index l.marks) n
