-- What contracts see of the lines of a text.
use Rattle.std.specs.Prelude.{ℕ, List}
use Rattle.text_positions.specs.declared.marks.Mark.{Mark}

-- where lines begin, and the marks within them
pub record Table : Type 0 where
  pub starts : List ℕ
  pub marks : List Mark
