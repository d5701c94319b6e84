use Rattle.std.proofs.Common.{◌≤◌, length, sym, arith}
use Rattle.program_differences.proofs.ReachLaws.{mark_set, mark_past}
use Rattle.program_differences.proofs.reach.reach_unit.Goals as goal

pub returns-then-place-len : goal.returns-then-place-len
returns-then-place-len c = sym (mark_set c.args.reached.now.items c.args.place)

pub returns-else-place-len : goal.returns-else-place-len
returns-else-place-len c = let past : length c.args.reached.now.items ≤ c.args.place = omega arith in sym (mark_past c.args.reached.now.items c.args.place past)
