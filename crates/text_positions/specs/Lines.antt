-- Where the lines of a text begin, and what is marked within them.
use Rattle.std.specs.Prelude.{◌≡◌, ◌<◌, ◌^◌, ℕ, ◌+◌, List, [], ◌∷◌, length, drop}
use Rattle.std.specs.List.{All}
use Rattle.std.specs.Str.{chars}
use Rattle.ls_base.specs.Positions.{Line, lines_of, full_bytes}
use Rattle.text_positions.specs.Marks.{IsMark, InOrder, EachIsNear}
use Rattle.text_positions.specs.Table.{Table}
use Rattle.text_positions.specs.Walks.{first_line}

-- the offsets at which lines begin, of which the first begins at the offset given
abbrev pub starts_from : ℕ → List Line → List ℕ
starts_from at [] = []
starts_from at (l ∷ lines) = at ∷ starts_from (at + full_bytes l) lines

-- the offsets at which the lines of a text of UTF-8 bytes begin
abbrev pub line_starts : List ℕ → List ℕ
line_starts text = starts_from 0 (lines_of (chars text))

-- these are the line starts of this text, which is shorter than 2 ^ 32 bytes, and marks within its lines, in its order:
-- a mark, or the start of the line, is near each place of each line
pub record AreLinesOf (lines : Table) (text : List ℕ) : Type 0 where
  pub short : length text < 2 ^ 32
  pub starts : lines.starts ≡ line_starts text
  pub marks : All (IsMark text) lines.marks
  pub order : InOrder lines.marks
  pub near : All (λ start. EachIsNear lines.marks start (first_line (drop start text))) lines.starts
