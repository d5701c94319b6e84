-- Positions in a text (LSP 3.17, Position): lines end with a line feed, a carriage return, or both in this order;
-- a position counts the units before a place in its line, which are those of the encoding that was agreed
-- (LSP 3.17, PositionEncodingKind); offsets count bytes.
use Rattle.std.specs.Prelude.{ℕ, zero, suc, ◌+◌, ◌-◌, List, [], ◌∷◌, sum_by, nat_le, nat_lt, ◌==◌, if◌then◌else◌}
use Rattle.std.specs.Char.{len_utf8}
use Rattle.std.specs.Str.{chars}
use Rattle.ls_base.specs.declared.encoding.Encoding.{Encoding}
use Rattle.ls_base.specs.declared.encoding.Encoding.TheVariants.{Utf8, Utf16, Utf32}
use Rattle.ls_base.specs.declared.places.Pos.{Pos}

-- a line: its characters, and those that end it, of which the last line has none
pub record Line : Type 0 where
  pub chars : List ℕ
  pub ending : List ℕ

-- an empty line with this end, before others
abbrev pub ended : List ℕ → List Line → List Line
ended ending lines = record { chars = []; ending = ending } ∷ lines

-- a carriage return before a text with these lines: a line feed that follows at once belongs to it
abbrev pub returned : List ℕ → List Line → List Line
returned [] lines = ended (13 ∷ []) lines
returned (c ∷ cs) [] = ended (13 ∷ []) []
returned (c ∷ cs) (l ∷ lines) = if c == 10 then ended (13 ∷ l.ending) lines else ended (13 ∷ []) (l ∷ lines)

-- a character at the front of the first line
abbrev pub longer : ℕ → List Line → List Line
longer c [] = record { chars = c ∷ []; ending = [] } ∷ []
longer c (l ∷ lines) = record { chars = c ∷ l.chars; ending = l.ending } ∷ lines

-- the lines of a text
abbrev pub lines_of : List ℕ → List Line
lines_of [] = ended [] []
lines_of (c ∷ cs) =
    if c == 10 then ended (10 ∷ []) (lines_of cs)
    else if c == 13 then returned cs (lines_of cs)
    else longer c (lines_of cs)

-- the units of a character: its UTF-8 bytes, its UTF-16 length, or one
abbrev pub units_of : Encoding → ℕ → ℕ
units_of Utf8 c = len_utf8 c
units_of Utf16 c = if nat_lt c 65536 then 1 else 2
units_of Utf32 c = 1

abbrev pub byte_count : List ℕ → ℕ
byte_count cs = sum_by len_utf8 cs

-- the bytes of a line with its end
abbrev pub full_bytes : Line → ℕ
full_bytes l = byte_count l.chars + byte_count l.ending

-- the bytes of the longest front of a line with at most so many units
abbrev pub bytes_within : (ℕ → ℕ) → ℕ → List ℕ → ℕ
bytes_within units n [] = 0
bytes_within units n (c ∷ cs) = if nat_le (units c) n then len_utf8 c + bytes_within units (n - units c) cs else 0

-- the units of the longest front of a line with at most so many bytes
abbrev pub units_within : (ℕ → ℕ) → ℕ → List ℕ → ℕ
units_within units bytes [] = 0
units_within units bytes (c ∷ cs) = if nat_le (len_utf8 c) bytes then units c + units_within units (bytes - len_utf8 c) cs else 0

-- the offset of a line and a character; a line past the last means the end of the text
abbrev pub offset_in : (ℕ → ℕ) → List Line → ℕ → ℕ → ℕ
offset_in units [] line character = 0
offset_in units (l ∷ lines) zero character = bytes_within units character l.chars
offset_in units (l ∷ lines) (suc line) character = full_bytes l + offset_in units lines line character

-- the position one line further down
abbrev pub below : Pos → Pos
below p = record { line = 1 + p.line; character = p.character }

-- the position of an offset: inside a line end it is the end of the line, inside a character the character's start,
-- past the text the end of the text
abbrev pub position_in : (ℕ → ℕ) → List Line → ℕ → Pos
position_in units [] offset = record { line = 0; character = 0 }
position_in units (l ∷ []) offset = record { line = 0; character = units_within units offset l.chars }
position_in units (l ∷ m ∷ lines) offset =
    if nat_lt offset (full_bytes l) then record { line = 0; character = units_within units offset l.chars }
    else below (position_in units (m ∷ lines) (offset - full_bytes l))

-- the offset of a position in a text of UTF-8 bytes
abbrev pub offset_of : Encoding → List ℕ → Pos → ℕ
offset_of encoding text pos = offset_in (units_of encoding) (lines_of (chars text)) pos.line pos.character

-- the position of an offset in a text of UTF-8 bytes
abbrev pub position_of : Encoding → List ℕ → ℕ → Pos
position_of encoding text offset = position_in (units_of encoding) (lines_of (chars text)) offset
