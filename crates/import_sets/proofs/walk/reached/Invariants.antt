use Rattle.std.proofs.Common.{◌+◌, List, vec_len}
use Rattle.scheme_model.specs.Program.{Prepared}
use Rattle.import_sets.specs.Graphs.{IsGraph, marks, unmarked}
use Rattle.import_sets.proofs.WalkLaws.{IsSafe, IsWalk}
use Rattle.import_sets.proofs.walk.reached.Given as goal

abbrev pub invariant-loop-place : goal.invariant-loop-place
invariant-loop-place l = record {
  safe : IsSafe l.graph (marks l.marked.items l.left.items);
  walk : (ps : List Prepared) → IsGraph l.graph ps → IsWalk ps l.start (marks l.marked.items l.left.items);
}

abbrev pub decreases-loop-place : goal.decreases-loop-place
decreases-loop-place l = unmarked l.marked.items + vec_len l.left
