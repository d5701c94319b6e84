use Rattle.std.proofs.Common.{◌≡◌, ◌++◌, map, take, drop}
use Rattle.moves.specs.Numbers.{numbers_of}
use Rattle.moved_entries.specs.Part.{leaf_as}
use Rattle.moved_entries.proofs.part.leaves.Given as goal

abbrev pub invariant-loop-i : goal.invariant-loop-i
invariant-loop-i l = l.all.items ≡ map (leaf_as (numbers_of l.moves)) (take l.i l.initial.all.items) ++ drop l.i l.initial.all.items
