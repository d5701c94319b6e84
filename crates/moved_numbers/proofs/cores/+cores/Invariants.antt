use Rattle.std.proofs.Common.{◌+◌, ◌*◌}
use Rattle.std.specs.Vec.{SameBlock}
use Rattle.moves.specs.Numbers.{numbers_of}
use Rattle.moved_numbers.specs.Values.{core_as, part_as, clause_as}
use Rattle.moved_numbers.proofs.Fronts.{IsFront, Becomes}
use Rattle.moved_numbers.proofs.CoreLaws.{CoreOn, ClauseOn, PartOn}
use Rattle.moved_numbers.proofs.cores.+cores.Given as goal

abbrev pub invariant-clauses-loop-i : goal.invariant-clauses-loop-i
invariant-clauses-loop-i l = record {
  unvisited : goal.unvisited-clauses-loop-i l;
  front : IsFront (Becomes (ClauseOn (numbers_of l.moves)) (clause_as (numbers_of l.moves))) l.initial.all.items l.all.items l.i;
  block : SameBlock l.initial.all l.all;
}

abbrev pub invariant-cores-loop-i : goal.invariant-cores-loop-i
invariant-cores-loop-i l = record {
  unvisited : goal.unvisited-cores-loop-i l;
  front : IsFront (Becomes (CoreOn (numbers_of l.moves)) (core_as (numbers_of l.moves))) l.initial.all.items l.all.items l.i;
  block : SameBlock l.initial.all l.all;
}

abbrev pub invariant-parts-loop-i : goal.invariant-parts-loop-i
invariant-parts-loop-i l = record {
  unvisited : goal.unvisited-parts-loop-i l;
  front : IsFront (Becomes (PartOn (numbers_of l.moves)) (part_as (numbers_of l.moves))) l.initial.all.items l.all.items l.i;
  block : SameBlock l.initial.all l.all;
}

abbrev pub decreases-core : goal.decreases-core
decreases-core l = 4 * goal.size-core l + 1

abbrev pub decreases-moved : goal.decreases-moved
decreases-moved l = 4 * goal.size-moved l

abbrev pub decreases-cores : goal.decreases-cores
decreases-cores l = 4 * goal.size-cores l + 2

abbrev pub decreases-clause : goal.decreases-clause
decreases-clause l = 4 * goal.size-clause l + 2

abbrev pub decreases-clauses : goal.decreases-clauses
decreases-clauses l = 4 * goal.size-clauses l + 3

abbrev pub decreases-part : goal.decreases-part
decreases-part l = 4 * goal.size-part l + 2

abbrev pub decreases-parts : goal.decreases-parts
decreases-parts l = 4 * goal.size-parts l + 3
