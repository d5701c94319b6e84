use Rattle.std.proofs.Common.{◌≡◌, drop, vec_len}
use Rattle.import_sets.specs.Graphs.{add_to}
use Rattle.import_sets.proofs.turns.add_to.Given as goal

abbrev pub invariant-loop-place : goal.invariant-loop-place
invariant-loop-place l = record {
  rest : add_to l.rows.items l.unit (drop l.place-index l.places) ≡ add_to l.initial.rows.items l.unit l.places;
  size : vec_len l.rows ≡ vec_len l.initial.rows;
}
