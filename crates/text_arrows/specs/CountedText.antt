-- The macro uses that are counted of a text alone (R7RS 4.3).
use Rattle.std.specs.Prelude.{◌≡◌, ℕ, ◌+◌, List, [], ◌∷◌}
use Rattle.std.specs.Str.{IsUtf8}
use Rattle.read_documents.specs.Readings.{Read, uses_in}
use Rattle.text_arrows.specs.Printed.{IsReadAlone}

-- those of the program that a text alone is. A text that isn't UTF-8 is no program
pub record CountsAlone (text : List ℕ) (before now : ℕ) : Type 0 where
  pub opened : IsUtf8 text → (r : Read) → IsReadAlone text r → now ≡ before + uses_in (r ∷ [])
  pub refused : ¬ IsUtf8 text → now ≡ before
