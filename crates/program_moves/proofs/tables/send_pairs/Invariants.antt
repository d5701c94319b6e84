use Rattle.std.proofs.Common.{◌≡◌, ℕ, ◌≤◌, length, take}
use Rattle.moves.specs.Numbers.{moved}
use Rattle.scheme_model.specs.Program.{prelude_unit}
use Rattle.program_moves.specs.Permutations.{AreInverse}
use Rattle.program_moves.specs.Sent.{renumbering_of}
use Rattle.program_moves.proofs.tables.send_pairs.Given as goal

abbrev pub invariant-loop-place : goal.invariant-loop-place
invariant-loop-place l = record {
  inverse : AreInverse l.numbers.forth.items l.numbers.back.items;
  length : length l.numbers.forth.items ≡ length l.initial.numbers.forth.items;
  sent : (u : ℕ) → u ≤ prelude_unit → moved l.numbers.forth.items u ≡ (renumbering_of (take l.place l.pairs)).unit u;
}
