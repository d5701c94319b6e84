use Rattle.renumbering_laws.specs.Renumbering.{macro_use_as}
use Rattle.moved_numbers.specs.Standing.{StandsOn, UseStands}
use Rattle.moved_numbers.specs.Values.{use_as}
use Rattle.moves.specs.Numbers.{numbers_of}
use Rattle.moved_numbers.proofs.Fronts.{IsFront, Becomes}
use Rattle.moved_numbers.proofs.forms.all_uses.Given as goal

abbrev pub invariant-loop-i : goal.invariant-loop-i
invariant-loop-i l = IsFront (Becomes (StandsOn (numbers_of l.moves) UseStands (macro_use_as (numbers_of l.moves))) (use_as (numbers_of l.moves))) l.initial.all.items l.all.items l.i
