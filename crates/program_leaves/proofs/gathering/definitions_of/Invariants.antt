use Rattle.std.proofs.Common.{◌≡◌, drop}
use Rattle.std.specs.BTreeMap.{get}
use Rattle.std.specs.Prelude.{None}
use Rattle.program_leaves.specs.declared.sight.GlobalNo.{GlobalNo}
use Rattle.program_leaves.specs.Placed.{global_cmp, units_given, given_after}
use Rattle.program_leaves.proofs.gathering.definitions_of.Given as goal

abbrev pub invariant-loop-place : goal.invariant-loop-place
invariant-loop-place l = (k : GlobalNo) → given_after (units_given l.place (drop l.place l.units)) k (get global_cmp l.definitions k) ≡ given_after (units_given 0 l.units) k None
