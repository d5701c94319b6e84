-- What contracts see of slots: the values in them, and how many more can be filled without memory.
use Rattle.std.specs.Prelude.{◌≡◌, ◌⊎◌, ℕ, ◌<◌, List, [], ◌∷◌, ◌++◌, length, Option, Some, None, is_some, count_by, slice_index_or, slice_set, refl}
use Rattle.std.specs.Coded.{Coded, code_by, coded×, coded_ℕ, coded_list, coded_option}

-- each slot by its number: its value, or nothing
pub record SlotList (T : Type 0) : Type 0 where
  pub slots : List (Option T)
  pub spare : ℕ

abbrev pub slots_code : {T : Type 0} → Coded T → Coded (SlotList T)
slots_code {T} code =
    code_by (List (Option T) × ℕ) (coded× (coded_list (coded_option code)) coded_ℕ) (λ s. (s.slots, s.spare)) (λ p. record { slots = p.0; spare = p.1 }) (λ _. refl)

module _ {T : Type 0} where
  -- the value in a slot, and nothing behind the last one
  abbrev pub at : List (Option T) → ℕ → Option T
  at slots n = slice_index_or slots n None

  -- a slot that was vacant gets the value, or a new one where none was
  abbrev pub IsFilled : List (Option T) → List (Option T) → ℕ → T → Type 0
  IsFilled old new n value =
      ((n < length old) × (at old n ≡ None) × (new ≡ slice_set old n (Some value)))
      ⊎ ((n ≡ length old) × (count_by is_some old ≡ length old) × (new ≡ old ++ Some value ∷ []))
