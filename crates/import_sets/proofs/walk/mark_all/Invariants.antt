use Rattle.std.proofs.Common.{◌≡◌, drop, vec_len}
use Rattle.import_sets.specs.Graphs.{marks, mark_all}
use Rattle.import_sets.proofs.walk.mark_all.Given as goal

-- what is left to be marked leads to the same marks
abbrev pub invariant-loop-place : goal.invariant-loop-place
invariant-loop-place l = record {
  rest : mark_all (marks l.marked.items l.left.items) (drop l.place-index l.places) ≡ mark_all (marks l.initial.marked.items l.initial.left.items) l.places;
  size : vec_len l.marked ≡ vec_len l.initial.marked;
}
