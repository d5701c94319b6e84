use Rattle.std.proofs.Common.{◌≡◌, ℕ, take}
use Rattle.std.specs.BTreeMap.{get}
use Rattle.std.specs.Ordering.{nat_cmp}
use Rattle.program_leaves.specs.Variables.{place_among}
use Rattle.program_leaves.proofs.variables.places_of.Given as goal

abbrev pub invariant-loop-variable : goal.invariant-loop-variable
invariant-loop-variable l = (n : ℕ) → get nat_cmp l.places n ≡ place_among (take l.variable-index l.variables) n
