-- A list in which each item becomes another at its place.
use Rattle.std.specs.Prelude.{◌≡◌, ℕ, List, length, slice_get, Some}

pub record Changes {A : Type 0} (R : ℕ → A → A → Type 0) (old new : List A) : Type 0 where
  pub size : length new ≡ length old
  pub each : (n : ℕ) (y : A) → slice_get new n ≡ Some y → (x : A) × ((slice_get old n ≡ Some x) × R n x y)
