use Rattle.std.proofs.Common.{◌≡◌, ℕ, ◌+◌, ◌<◌, ◌≤◌, length}
use Rattle.moves.specs.Numbers.{moved}
use Rattle.program_moves.specs.Permutations.{AreInverse}
use Rattle.program_moves.proofs.tables.send_behind.Given as goal

abbrev pub invariant-loop-number : goal.invariant-loop-number
invariant-loop-number l = record {
  inverse : AreInverse l.numbers.forth.items l.numbers.back.items;
  length : length l.numbers.forth.items ≡ length l.initial.numbers.forth.items;
  sent : (n : ℕ) → n < l.number → moved l.numbers.forth.items n ≡ l.size + n;
  between : (n : ℕ) → l.number ≤ n → n < l.size → moved l.numbers.forth.items n ≡ n;
}
