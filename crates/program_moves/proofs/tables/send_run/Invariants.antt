use Rattle.std.proofs.Common.{◌≡◌, ℕ, ◌+◌, ◌<◌, length}
use Rattle.moves.specs.Numbers.{moved}
use Rattle.program_moves.specs.Permutations.{AreInverse}
use Rattle.program_moves.specs.Sent.{Outside}
use Rattle.program_moves.proofs.tables.send_run.Given as goal

abbrev pub invariant-loop-place : goal.invariant-loop-place
invariant-loop-place l = record {
  inverse : AreInverse l.numbers.forth.items l.numbers.back.items;
  length : length l.numbers.forth.items ≡ length l.initial.numbers.forth.items;
  sent : (i : ℕ) → i < l.place → moved l.numbers.forth.items (l.from + i) ≡ l.to + i;
  others : (n : ℕ) → Outside l.from l.place n → Outside l.to l.place (moved l.initial.numbers.forth.items n) → moved l.numbers.forth.items n ≡ moved l.initial.numbers.forth.items n;
}
