use Rattle.std.proofs.Common.{◌≡◌, ℕ, ◌≤◌, ◌<◌, false, length, slice_get, Some}
use Rattle.moves.specs.Numbers.{moved}
use Rattle.scheme_model.specs.Program.{prelude_unit}
use Rattle.program_moves.specs.Permutations.{AreInverse}
use Rattle.program_moves.specs.Sent.{renumbering_of, is_home}
use Rattle.program_moves.specs.declared.tables.Home.{Home}
use Rattle.program_moves.proofs.tables.send_homes.Given as goal

abbrev pub invariant-loop-place : goal.invariant-loop-place
invariant-loop-place l = record {
  inverse : AreInverse l.numbers.forth.items l.numbers.back.items;
  length : length l.numbers.forth.items ≡ length l.initial.numbers.forth.items;
  homes : (i : ℕ) (h : Home) → i < l.place → slice_get l.homes i ≡ Some h → moved l.numbers.forth.items h.before ≡ h.after;
  others : (u : ℕ) → u ≤ prelude_unit → is_home l.homes u ≡ false → moved l.numbers.forth.items u ≡ (renumbering_of l.pairs).unit u;
}
