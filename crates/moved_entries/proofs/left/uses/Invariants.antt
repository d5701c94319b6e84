use Rattle.moves.specs.Numbers.{numbers_of}
use Rattle.moved_numbers.proofs.Fronts.{IsFront}
use Rattle.moved_entries.specs.Left.{UseMoves}
use Rattle.moved_entries.proofs.left.uses.Given as goal

abbrev pub invariant-loop-i : goal.invariant-loop-i
invariant-loop-i l = IsFront (UseMoves (numbers_of l.moves)) l.initial.all.items l.all.items l.i
