use Rattle.moved_numbers.specs.Standing.{UnitMoves}
use Rattle.moved_numbers.specs.Values.{unit_as}
use Rattle.moves.specs.Numbers.{numbers_of}
use Rattle.moved_numbers.proofs.Fronts.{IsFront, Becomes}
use Rattle.moved_numbers.proofs.program.all_units.Given as goal

abbrev pub invariant-loop-i : goal.invariant-loop-i
invariant-loop-i l = IsFront (Becomes (UnitMoves (numbers_of l.moves)) (unit_as (numbers_of l.moves))) l.initial.all.items l.all.items l.i
