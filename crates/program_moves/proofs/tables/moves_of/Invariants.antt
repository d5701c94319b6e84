use Rattle.std.proofs.Common.{◌≡◌, ℕ, ◌<◌, true, false, length}
use Rattle.moves.specs.Numbers.{moved, forms_at, IsPermutation}
use Rattle.program_moves.specs.Sent.{renumbering_of, is_home, IsForm}
use Rattle.program_moves.proofs.tables.moves_of.Given as goal

abbrev pub invariant-loop-unit : goal.invariant-loop-unit
invariant-loop-unit l = record {
  length : length l.forms.items ≡ l.unit;
  permutes : (u : ℕ) → u < l.unit → IsPermutation (forms_at l.forms.items u);
  home : (u : ℕ) → u < l.unit → is_home l.homes u ≡ true → (f : ℕ) → moved (forms_at l.forms.items u) f ≡ f;
  sent : (u : ℕ) → u < l.unit → is_home l.homes u ≡ false → (f : ℕ) → IsForm l.pairs u f → moved (forms_at l.forms.items u) f ≡ (renumbering_of l.pairs).form u f;
}
