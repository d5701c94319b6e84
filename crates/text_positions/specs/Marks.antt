-- What a mark within a line says of a text.
use Rattle.std.specs.Prelude.{◌≡◌, ◌<◌, ◌≤◌, ◌⊎◌, ◌+◌, ℕ, Bool, ◌||◌, ◌&&◌, ◌==◌, if◌then◌else◌, nat_lt, nat_le, ◌/◌, List, [], ◌∷◌, ◌++◌, length, slice_index_or, take, drop, sum_by}
use Rattle.std.specs.List.{Contains}
use Rattle.std.specs.Str.{IsCharBoundary}
use Rattle.ls_base.specs.Positions.{units_of, byte_count}
use Rattle.ls_base.specs.declared.encoding.Encoding.{Encoding}
use Rattle.ls_base.specs.declared.encoding.Encoding.TheVariants.{Utf8, Utf16, Utf32}
use Rattle.text_positions.specs.Walks.{first_line}
use Rattle.text_positions.specs.declared.marks.Mark.{Mark}

-- the units of an encoding before a mark in its line
abbrev pub units_before : Encoding → Mark → ℕ
units_before Utf8 m = m.utf8
units_before Utf16 m = m.utf16
units_before Utf32 m = m.utf32

-- nothing of the line that begins at an offset stands before the mark
pub record IsLineBegin (start : ℕ) (m : Mark) : Type 0 where
  pub line : m.start ≡ start
  pub units : (e : Encoding) → units_before e m ≡ 0

-- the mark next stands behind the character c, which stands at the mark m
pub record IsPast (c : ℕ) (m next : Mark) : Type 0 where
  pub line : next.start ≡ m.start
  pub units : (e : Encoding) → units_before e next ≡ units_before e m + units_of e c

-- a mark at next too, where a stretch of 256 bytes of the line ends behind here and not behind next
abbrev pub with_mark : Mark → Mark → List Mark → List Mark
with_mark here next marks = if nat_lt (here.utf8 / 256) (next.utf8 / 256) then marks ++ next ∷ [] else marks

-- the characters of a line before what is left of it have the units that the mark counts
pub record CountsTo (m : Mark) (line left : List ℕ) : Type 0 where
  pub front : List ℕ
  pub whole : line ≡ front ++ left
  pub units : (e : Encoding) → units_before e m ≡ sum_by (units_of e) front

-- the text may be cut at the mark, and so many units of its line stand before it
pub record IsMark (text : List ℕ) (m : Mark) : Type 0 where
  pub boundary : IsCharBoundary text (m.start + m.utf8)
  pub counts : CountsTo m (first_line (drop m.start text)) (first_line (drop (m.start + m.utf8) text))

-- m is in an earlier line than n, or in the same line with no more units of any encoding before it
abbrev pub StandsBefore : Mark → Mark → Type 0
StandsBefore m n = (m.start < n.start) ⊎ ((m.start ≡ n.start) × ((e : Encoding) → units_before e m ≤ units_before e n))

-- the marks stand in the order of the text
abbrev pub InOrder : List Mark → Type 0
InOrder marks = (i j : ℕ) (d : Mark) → i ≤ j → j < length marks → StandsBefore (slice_index_or marks i d) (slice_index_or marks j d)

-- the mark is in an earlier line than the one that begins there, or in that line with at most so many units before it
abbrev pub is_reached : ℕ → ℕ → Encoding → Mark → Bool
is_reached start units e m = nat_lt m.start start || (m.start == start && nat_le (units_before e m) units)

-- a mark of the line that begins there, or its start, stands less than 256 bytes before the place behind so many of its bytes
pub record IsNear (marks : List Mark) (start bytes : ℕ) : Type 0 where
  pub mark : Mark
  pub known : IsLineBegin start mark ⊎ Contains marks mark
  pub line : mark.start ≡ start
  pub before : mark.utf8 ≤ bytes
  pub near : bytes < mark.utf8 + 256

-- so it is at each place of the line, which has these characters
abbrev pub EachIsNear : List Mark → ℕ → List ℕ → Type 0
EachIsNear marks start line = (i : ℕ) → i ≤ length line → IsNear marks start (byte_count (take i line))
