use Rattle.std.proofs.Common.{◌≡◌}
use Rattle.moves.specs.Numbers.{numbers_of}
use Rattle.moves.proofs.NodeLaws.{AreMoved}
use Rattle.moves.proofs.works.renumber_trees.Given as goal

abbrev pub invariant-loop-number : goal.invariant-loop-number
invariant-loop-number l = record {
  nodes : AreMoved (numbers_of l.moves) l.initial.trees.nodes l.trees.nodes l.number;
  identity : l.trees.identity ≡ l.initial.trees.identity;
  regions : l.trees.regions ≡ l.initial.trees.regions;
  counts : l.trees.counts ≡ l.initial.trees.counts;
  spare : l.trees.spare ≡ l.initial.trees.spare;
}
