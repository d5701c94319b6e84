use Rattle.moves.specs.Numbers.{numbers_of}
use Rattle.moved_numbers.proofs.Fronts.{IsFront}
use Rattle.moved_entries.specs.Left.{KeptMoves}
use Rattle.moved_entries.proofs.left.items.Given as goal

abbrev pub invariant-loop-i : goal.invariant-loop-i
invariant-loop-i l = IsFront (λ x y. KeptMoves (numbers_of l.moves) x.kept y.kept) l.initial.all.items l.all.items l.i
