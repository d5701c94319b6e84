use Rattle.std.proofs.Common.{◌≡◌, ◌++◌, map, take, drop}
use Rattle.moves.specs.Numbers.{numbers_of}
use Rattle.moved_entries.specs.Left.{name_as}
use Rattle.moved_entries.proofs.left.names.Given as goal

abbrev pub invariant-loop-i : goal.invariant-loop-i
invariant-loop-i l = l.all.items ≡ map (name_as (numbers_of l.moves)) (take l.i l.initial.all.items) ++ drop l.i l.initial.all.items
