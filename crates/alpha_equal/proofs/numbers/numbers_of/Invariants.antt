use Rattle.std.proofs.Common.{◌≡◌, drop}
use Rattle.std.specs.BTreeMap.{get}
use Rattle.std.specs.Prelude.{None}
use Rattle.program_leaves.specs.declared.sight.GlobalNo.{GlobalNo}
use Rattle.program_leaves.specs.Placed.{global_cmp, units_given}
use Rattle.alpha_equal.specs.Numbered.{number_after}
use Rattle.alpha_equal.proofs.numbers.numbers_of.Given as goal

abbrev pub invariant-loop-place : goal.invariant-loop-place
invariant-loop-place l = (k : GlobalNo) → number_after (units_given l.place (drop l.place l.units)) k (get global_cmp l.numbers k) ≡ number_after (units_given 0 l.units) k None
