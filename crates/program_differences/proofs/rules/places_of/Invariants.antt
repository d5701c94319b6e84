use Rattle.std.proofs.Common.{◌≡◌, ℕ, take}
use Rattle.std.specs.BTreeMap.{get}
use Rattle.std.specs.Ordering.{nat_cmp}
use Rattle.program_differences.specs.Variables.{numbered}
use Rattle.program_differences.proofs.rules.places_of.Given as goal

abbrev pub invariant-loop-place : goal.invariant-loop-place
invariant-loop-place l = (n : ℕ) → get nat_cmp l.places n ≡ numbered 0 (take l.place l.variables) n
