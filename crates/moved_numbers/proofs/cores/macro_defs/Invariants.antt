use Rattle.std.specs.Vec.{SameBlock}
use Rattle.core_tree.specs.Names.{IsMacro}
use Rattle.renumbering_laws.specs.Renumbering.{macro_of}
use Rattle.moved_numbers.specs.Standing.{StandsOn}
use Rattle.moved_numbers.specs.Values.{macro_as}
use Rattle.moves.specs.Numbers.{numbers_of}
use Rattle.moved_numbers.proofs.Fronts.{IsFront, Becomes}
use Rattle.moved_numbers.proofs.cores.macro_defs.Given as goal

abbrev pub invariant-loop-i : goal.invariant-loop-i
invariant-loop-i l = record {
  front : IsFront (Becomes (StandsOn (numbers_of l.moves) IsMacro (macro_of (numbers_of l.moves))) (macro_as (numbers_of l.moves))) l.initial.all.items l.all.items l.i;
  block : SameBlock l.initial.all l.all;
}
