-- How a name is written (R7RS 7.1.1, identifier and symbol element).
use Rattle.std.specs.Prelude.{◌≡◌, ◌⊎◌, ℕ, ◌/◌, ◌%◌, Bool, true, false, ◌||◌, ◌==◌, nat_lt, List, [], ◌∷◌, ◌++◌, if◌then◌else◌}
use Rattle.std.specs.List.{flat_map}
use Rattle.std.specs.Char.{digit_char}
use Rattle.scheme_tokens.specs.Lexical.{Atomic, Name, IsToken}

-- the shortest small hex digits of a number below 256
abbrev pub hex_digits : ℕ → List ℕ
hex_digits n = if nat_lt n 16 then digit_char n ∷ [] else digit_char (n / 16) ∷ digit_char (n % 16) ∷ []

-- `\x`, the digits of a code, and `;`
abbrev pub hex_escape : ℕ → List ℕ
hex_escape code = 92 ∷ 120 ∷ (hex_digits code ++ 59 ∷ [])

-- a character between bars: a bar, a backslash and what has no shape are escaped
abbrev pub in_bars : ℕ → List ℕ
in_bars c =
    if c == 124 then 92 ∷ 124 ∷ []
    else if c == 92 || (nat_lt c 32 || c == 127) then hex_escape c
    else c ∷ []

abbrev pub barred : List ℕ → List ℕ
barred name = 124 ∷ (flat_map in_bars name ++ 124 ∷ [])

-- between bars where they are asked for, or where the characters as they are don't spell the name
abbrev pub IsSpelling : List ℕ → Bool → List ℕ → Type 0
IsSpelling name true text = text ≡ barred name
IsSpelling name false text =
    ((text ≡ name) × IsToken (Atomic (Name name false)) name []) ⊎ ((text ≡ barred name) × ¬ IsToken (Atomic (Name name false)) name [])
