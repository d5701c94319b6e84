use Rattle.moved_numbers.specs.Values.{item_as}
use Rattle.moved_numbers.proofs.CoreLaws.{PartOn}
use Rattle.moves.specs.Numbers.{numbers_of}
use Rattle.moved_numbers.proofs.Fronts.{IsFront, Becomes}
use Rattle.moved_numbers.proofs.forms.all_parts.Given as goal

abbrev pub invariant-loop-i : goal.invariant-loop-i
invariant-loop-i l = IsFront (Becomes (λ x y. PartOn (numbers_of l.moves) x.part y.part) (item_as (numbers_of l.moves))) l.initial.all.items l.all.items l.i
