-- What the walks over a text and the search in the table of line starts find.
use Rattle.std.specs.Prelude.{◌≡◌, ◌<◌, ◌≤◌, ◌⊎◌, ◌==◌, ◌||◌, ◌&&◌, ℕ, suc, Bool, false, not, List, [], ◌∷◌, length, slice_index}
use Rattle.std.specs.Str.{chars}
use Rattle.ls_base.specs.Positions.{Line, lines_of}

-- the character is a line feed or a carriage return
abbrev pub EndsLine : ℕ → Type 0
EndsLine c = (c ≡ 10) ⊎ (c ≡ 13)

-- the characters begin with a line feed
abbrev pub begins_with_feed : List ℕ → Bool
begins_with_feed [] = false
begins_with_feed (c ∷ cs) = c == 10

-- a line ends behind the first character c of c ∷ cs: a carriage return before a line feed ends none
abbrev pub ends_behind : ℕ → List ℕ → Bool
ends_behind c cs = c == 10 || (c == 13 && not (begins_with_feed cs))

-- the characters of the first of these lines, without its end
abbrev pub first_chars : List Line → List ℕ
first_chars [] = []
first_chars (l ∷ lines) = l.chars

-- the characters of the first line of a text of UTF-8 bytes, without its end
abbrev pub first_line : List ℕ → List ℕ
first_line text = first_chars (lines_of (chars text))

-- line k is the last that begins at an offset or before it
pub record IsLineAt (starts : List ℕ) (offset k : ℕ) : Type 0 where
  pub there : k < length starts
  pub begun : slice_index starts k ≤ offset
  pub last : suc k < length starts → offset < slice_index starts (suc k)
