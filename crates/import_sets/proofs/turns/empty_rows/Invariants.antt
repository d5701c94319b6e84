use Rattle.std.proofs.Common.{◌≡◌, ℕ, [], vec_len}
use Rattle.import_sets.specs.Graphs.{row}
use Rattle.import_sets.proofs.turns.empty_rows.Given as goal

abbrev pub invariant-loop-made : goal.invariant-loop-made
invariant-loop-made l = record {
  size : vec_len l.rows ≡ l.made;
  empty : (n : ℕ) → row l.rows.items n ≡ [];
}
