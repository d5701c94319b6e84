-- Words: what runs up to a delimiter (R7RS 7.1.1).
use Rattle.std.specs.Prelude.{ℕ, Bool, true, false, ◌&&◌, ◌||◌, ◌==◌, List, [], ◌∷◌, codes, if◌then◌else◌}
use Rattle.std.specs.List.{list_all}
use Rattle.std.specs.Char.{is_ascii_digit, to_ascii_lowercase}
use Rattle.scheme_tokens.specs.Lexical.{is_one_of, is_sign, is_initial, is_subsequent, is_sign_subsequent, is_dot_subsequent}
pub use Rattle.scheme_tokens.specs.Lexical.{byte_count, is_inside}

-- the longest front of characters that pass a test, and what follows it
abbrev pub front_of : (ℕ → Bool) → List ℕ → List ℕ
front_of p [] = []
front_of p (c ∷ cs) = if p c then c ∷ front_of p cs else []

abbrev pub behind : (ℕ → Bool) → List ℕ → List ℕ
behind p [] = []
behind p (c ∷ cs) = if p c then behind p cs else c ∷ cs

-- the word at the front of a text, and what follows it
abbrev pub word_of : List ℕ → List ℕ
word_of text = front_of is_inside text

abbrev pub behind_word : List ℕ → List ℕ
behind_word text = behind is_inside text

-- the same characters
abbrev pub is_text : List ℕ → List ℕ → Bool
is_text [] [] = true
is_text [] (d ∷ ds) = false
is_text (c ∷ cs) [] = false
is_text (c ∷ cs) (d ∷ ds) = c == d && is_text cs ds

-- these small letters stand at the front, in either case
abbrev pub begins_with : List ℕ → List ℕ → Bool
begins_with [] cs = true
begins_with (d ∷ ds) [] = false
begins_with (d ∷ ds) (c ∷ cs) = to_ascii_lowercase c == d && begins_with ds cs

-- these small letters, in either case
abbrev pub spells : List ℕ → List ℕ → Bool
spells [] [] = true
spells [] (c ∷ cs) = false
spells (d ∷ ds) [] = false
spells (d ∷ ds) (c ∷ cs) = to_ascii_lowercase c == d && spells ds cs

abbrev pub starts_digit : List ℕ → Bool
starts_digit [] = false
starts_digit (c ∷ cs) = is_ascii_digit c

-- a dot and a digit
abbrev pub starts_fraction : List ℕ → Bool
starts_fraction [] = false
starts_fraction (c ∷ cs) = c == 46 && starts_digit cs

-- behind a sign: a digit, a dot and a digit, or one of the words for what is no decimal
abbrev pub is_signed : List ℕ → Bool
is_signed cs = starts_digit cs || (starts_fraction cs || (begins_with (codes "inf.0") cs || (begins_with (codes "nan.0") cs || spells (codes "i") cs)))

-- behind a `#`: a radix or an exactness
abbrev pub starts_prefix : List ℕ → Bool
starts_prefix [] = false
starts_prefix (c ∷ cs) = is_one_of (codes "bodxei") (to_ascii_lowercase c)

-- a numeral, told by how it begins; the rest of its characters are kept as they are
unfoldable pub is_numeral : List ℕ → Bool
is_numeral [] = false
is_numeral (c ∷ cs) =
    if is_sign c then is_signed cs
    else if c == 46 then starts_digit cs
    else if c == 35 then starts_prefix cs
    else is_ascii_digit c

-- behind a dot of a peculiar identifier
abbrev pub goes_on_dot : List ℕ → Bool
goes_on_dot [] = false
goes_on_dot (c ∷ cs) = is_dot_subsequent c && list_all is_subsequent cs

-- behind a sign of a peculiar identifier, which may stand alone
abbrev pub goes_on_sign : List ℕ → Bool
goes_on_sign [] = true
goes_on_sign (c ∷ cs) = if c == 46 then goes_on_dot cs else is_sign_subsequent c && list_all is_subsequent cs

-- an identifier without bars
unfoldable pub is_identifier : List ℕ → Bool
is_identifier [] = false
is_identifier (c ∷ cs) =
    if is_sign c then goes_on_sign cs
    else if c == 46 then goes_on_dot cs
    else is_initial c && list_all is_subsequent cs
