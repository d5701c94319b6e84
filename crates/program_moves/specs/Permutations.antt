-- Tables of new numbers and of old ones.
use Rattle.std.specs.Prelude.{◌≡◌, ℕ, ◌<◌, ◌≤◌, ◌^◌, List, length}
use Rattle.moves.specs.Numbers.{moved}

-- each leads back from the other, and numbers below their length stay below it
pub record AreInverse (new old : List ℕ) : Type 0 where
  pub few : length new ≤ 2 ^ 32
  pub lengths : length old ≡ length new
  pub new_within : (n : ℕ) → n < length new → moved new n < length new
  pub old_within : (n : ℕ) → n < length new → moved old n < length new
  pub back : (n : ℕ) → n < length new → moved old (moved new n) ≡ n
  pub there : (n : ℕ) → n < length new → moved new (moved old n) ≡ n
