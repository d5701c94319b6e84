use Rattle.std.proofs.Common.{◌≡◌, ◌++◌, map, take, drop}
use Rattle.unit_scopes.specs.Within.{note_within}
use Rattle.unit_scopes.proofs.asked.all_within.Given as goal

abbrev pub invariant-loop-at : goal.invariant-loop-at
invariant-loop-at l = l.notes ≡ map (note_within l.last) (take l.at l.fn.notes) ++ drop l.at l.fn.notes
