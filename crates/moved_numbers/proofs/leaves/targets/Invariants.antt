use Rattle.std.proofs.Common.{◌≡◌, ◌++◌, map, take, drop}
use Rattle.std.specs.Vec.{SameBlock}
use Rattle.moves.specs.Numbers.{numbers_of}
use Rattle.moved_numbers.specs.Leaves.{target_as}
use Rattle.moved_numbers.proofs.leaves.targets.Given as goal

abbrev pub invariant-loop-i : goal.invariant-loop-i
invariant-loop-i l = record {
  items : l.all.items ≡ map (target_as (numbers_of l.moves)) (take l.i l.initial.all.items) ++ drop l.i l.initial.all.items;
  block : SameBlock l.initial.all l.all;
}
