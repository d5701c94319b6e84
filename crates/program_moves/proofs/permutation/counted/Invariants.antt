use Rattle.std.proofs.Common.{◌≡◌, ℕ, length}
use Rattle.moves.specs.Numbers.{moved}
use Rattle.program_moves.proofs.permutation.counted.Given as goal

abbrev pub invariant-loop-number : goal.invariant-loop-number
invariant-loop-number l = record {
  length : length l.numbers.items ≡ l.number;
  same : (n : ℕ) → moved l.numbers.items n ≡ n;
}
