use Rattle.std.proofs.Common.{◌≡◌, ℕ, ◌<◌, length}
use Rattle.moves.specs.Numbers.{moved, forms_at}
use Rattle.moves.proofs.numbers.Moves.inverse.Given as goal

abbrev pub invariant-loop-unit : goal.invariant-loop-unit
invariant-loop-unit l = record {
  length : length l.forms.items ≡ l.unit;
  back : (v : ℕ) → v < l.unit → (f : ℕ) → moved (forms_at l.forms.items v) (moved (forms_at l.self.forms.items (moved l.units.items v)) f) ≡ f;
}
