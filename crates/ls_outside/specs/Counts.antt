-- How a count of faults goes on.
use Rattle.std.specs.Prelude.{◌≡◌, ◌⊎◌, ℕ, ◌-◌, ◌^◌, ◌<◌, ◌≤◌}

-- the count rose, or stands at its last value, that of 64 bits
abbrev pub Rose : ℕ → ℕ → Type 0
Rose before now = (before < now) ⊎ (now ≡ 2 ^ 64 - 1)

-- a call failed: the count didn't fall, and rose
pub record Fails (before now : ℕ) : Type 0 where
  pub kept : before ≤ now
  pub rose : Rose before now
