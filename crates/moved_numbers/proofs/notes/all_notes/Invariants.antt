use Rattle.std.proofs.Common.{◌≡◌, ◌++◌, map, take, drop}
use Rattle.moves.specs.Numbers.{numbers_of}
use Rattle.moved_numbers.specs.Notes.{note_as}
use Rattle.moved_numbers.proofs.notes.all_notes.Given as goal

abbrev pub invariant-loop-i : goal.invariant-loop-i
invariant-loop-i l = l.all.items ≡ map (note_as (numbers_of l.moves)) (take l.i l.initial.all.items) ++ drop l.i l.initial.all.items
