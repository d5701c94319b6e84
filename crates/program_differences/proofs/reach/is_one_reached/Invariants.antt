use Rattle.std.proofs.Common.{◌≡◌, drop}
use Rattle.program_differences.specs.Reached.{one_marked}
use Rattle.program_differences.proofs.reach.is_one_reached.Given as goal

abbrev pub invariant-loop-unit : goal.invariant-loop-unit
invariant-loop-unit l = one_marked l.reached (drop l.unit-index l.units) ≡ one_marked l.reached l.units
