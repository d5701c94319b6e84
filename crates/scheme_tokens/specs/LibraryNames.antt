-- Libraries' names (R7RS 5.6.1): their texts, and which of them can be read from a text.
use Rattle.std.specs.Prelude.{◌≡◌, ℕ, List, [], ◌∷◌, ◌++◌, true, false}
use Rattle.std.specs.List.{list_all}
use Rattle.std.specs.Char.{is_ascii_digit}
use Rattle.std.specs.Str.{chars, encode_utf8_all}
use Rattle.scheme_tokens.specs.Mirror.Spelled.{spelled}
use Rattle.scheme_model.specs.Requirements.{LibraryPart, Symbol, Digits, LibraryName}
use Rattle.scheme_tokens.specs.Symbols.{IsEncoded}

-- ---- texts

-- a symbol as it is written, with bars where it needs them; a numeral as it stands
abbrev pub part_text : LibraryPart → List ℕ
part_text (Symbol s) = encode_utf8_all (spelled (chars s) false)
part_text (Digits s) = s

-- parts, each behind a space
abbrev pub behind_spaces : LibraryName → List ℕ
behind_spaces [] = []
behind_spaces (p ∷ ps) = 32 ∷ (part_text p ++ behind_spaces ps)

-- parts with one space between each two
abbrev pub with_spaces : LibraryName → List ℕ
with_spaces [] = []
with_spaces (p ∷ ps) = part_text p ++ behind_spaces ps

-- in parentheses
abbrev pub library_text : LibraryName → List ℕ
library_text n = 40 ∷ (with_spaces n ++ 41 ∷ [])

-- ---- proper names

-- a symbol is the bytes of its characters; digits are digits
abbrev pub IsProperPart : LibraryPart → Type 0
IsProperPart (Symbol s) = IsEncoded s
IsProperPart (Digits s) = list_all is_ascii_digit s ≡ true

abbrev pub AreProper : LibraryName → Type 0
AreProper [] = Unit {0}
AreProper (p ∷ ps) = IsProperPart p × AreProper ps

-- what a name has that is read: a part at least, and proper ones
abbrev pub IsProper : LibraryName → Type 0
IsProper [] = ⊥
IsProper (p ∷ ps) = AreProper (p ∷ ps)
