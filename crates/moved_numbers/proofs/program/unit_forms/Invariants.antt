use Rattle.moved_numbers.specs.Standing.{FormMoves}
use Rattle.moves.specs.Numbers.{numbers_of}
use Rattle.moved_numbers.proofs.Fronts.{IsFront}
use Rattle.moved_numbers.proofs.program.unit_forms.Given as goal

abbrev pub invariant-loop-i : goal.invariant-loop-i
invariant-loop-i l = IsFront (FormMoves (numbers_of l.moves)) l.fn.all l.all l.i
