-- Tokens (R7RS 7.1.1): which one begins a text, and what follows it.
use Rattle.std.specs.Prelude.{ℕ, true, false, ◌||◌, ◌&&◌, ◌==◌, List, [], ◌∷◌, Option, Some, None, Result, Ok, Err, codes, if◌then◌else◌}
use Rattle.std.specs.List.{list_all}
use Rattle.std.specs.Char.{is_ascii_digit, to_ascii_lowercase}
use Rattle.scheme_tokens.specs.Lexical.{is_hex_digit}
use Rattle.scheme_tokens.specs.Mirror.Words.{word_of, behind_word, is_text, spells, is_numeral, is_identifier}
use Rattle.scheme_tokens.specs.Mirror.Quoted.{Fault, bad_token, label, directive, ◌>>=◌, hex_scalar, quoted}
pub use Rattle.scheme_tokens.specs.Lexical.{Leaf, Name, Numeral, Quoted, Character, Truth, Mark, Quote, Quasi, Unquote, Splice, TokenKind, Paren, VectorParen, BytesParen, Close, Dot, Skip, Marked, Atomic}

-- a word that begins with no `#`; numerals go before identifiers
unfoldable pub word_kind : List ℕ → Result TokenKind Fault
word_kind word =
    if is_numeral word then Ok (Atomic (Numeral word))
    else if is_identifier word then Ok (Atomic (Name word false))
    else if is_text word (codes ".") then Ok Dot
    else Err bad_token

-- a word that begins with `#`
unfoldable pub hash_kind : List ℕ → Result TokenKind Fault
hash_kind word =
    if spells (codes "#t") word || spells (codes "#true") word then Ok (Atomic (Truth true))
    else if spells (codes "#f") word || spells (codes "#false") word then Ok (Atomic (Truth false))
    else if is_numeral word then Ok (Atomic (Numeral word))
    else Err bad_token

-- the character that a name tells
unfoldable pub named : List ℕ → Option ℕ
named name =
    if is_text name (codes "alarm") then Some 7
    else if is_text name (codes "backspace") then Some 8
    else if is_text name (codes "delete") then Some 127
    else if is_text name (codes "escape") then Some 27
    else if is_text name (codes "newline") then Some 10
    else if is_text name (codes "null") then Some 0
    else if is_text name (codes "return") then Some 13
    else if is_text name (codes "space") then Some 32
    else if is_text name (codes "tab") then Some 9
    else None

-- the character that is told behind `#\`: by itself, by its code or by its name
unfoldable pub character_of : ℕ → List ℕ → Option ℕ
character_of c [] = Some c
character_of c (d ∷ ds) =
    if to_ascii_lowercase c == 120 && list_all is_hex_digit (d ∷ ds) then hex_scalar (d ∷ ds)
    else named (c ∷ d ∷ ds)

abbrev pub character : Option ℕ → Result TokenKind Fault
character None = Err bad_token
character (Some c) = Ok (Atomic (Character c))

-- a kind, with the text behind it
abbrev pub before : List ℕ → Result TokenKind Fault → Result (TokenKind × List ℕ) Fault
before rest kind = kind >>= λ k. Ok (k, rest)

-- behind `#\`: a character, and the word that follows it
abbrev pub behind_hash_slash : List ℕ → Result (TokenKind × List ℕ) Fault
behind_hash_slash [] = Err bad_token
behind_hash_slash (c ∷ cs) = before (behind_word cs) (character (character_of c (word_of cs)))

-- the text behind a bytevector's opening, whose parenthesis delimits the word before it
abbrev pub behind_bytes : List ℕ → List ℕ → Option (List ℕ)
behind_bytes word [] = None
behind_bytes word (c ∷ cs) = if c == 40 && spells (codes "#u8") word then Some cs else None

abbrev pub bytes_or : Option (List ℕ) → Result (TokenKind × List ℕ) Fault → Result (TokenKind × List ℕ) Fault
bytes_or None other = other
bytes_or (Some rest) other = Ok (BytesParen, rest)

-- a word that begins with `#`, before the rest of the text
abbrev pub hash_word : List ℕ → List ℕ → Result (TokenKind × List ℕ) Fault
hash_word word rest = bytes_or (behind_bytes word rest) (before rest (hash_kind word))

-- what begins with `#`, behind it
unfoldable pub hash_token : List ℕ → Result (TokenKind × List ℕ) Fault
hash_token [] = Err bad_token
hash_token (c ∷ cs) =
    if c == 40 then Ok (VectorParen, cs)
    else if c == 59 then Ok (Skip, cs)
    else if c == 92 then behind_hash_slash cs
    else if c == 33 then Err directive
    else if is_ascii_digit c then Err label
    else hash_word (word_of (35 ∷ c ∷ cs)) (behind_word (35 ∷ c ∷ cs))

-- what begins with `,`, behind it
abbrev pub unquote_token : List ℕ → Result (TokenKind × List ℕ) Fault
unquote_token [] = Ok (Marked Unquote, [])
unquote_token (c ∷ cs) = if c == 64 then Ok (Marked Splice, cs) else Ok (Marked Unquote, c ∷ cs)

abbrev pub string_token : List ℕ → Result (TokenKind × List ℕ) Fault
string_token text = quoted 34 text >>= λ found. Ok (Atomic (Quoted found.0), found.1)

abbrev pub bar_token : List ℕ → Result (TokenKind × List ℕ) Fault
bar_token text = quoted 124 text >>= λ found. Ok (Atomic (Name found.0 true), found.1)

-- any other word
abbrev pub word_token : List ℕ → Result (TokenKind × List ℕ) Fault
word_token text = before (behind_word text) (word_kind (word_of text))

-- the token that begins a text, and the text behind it; or why none does
unfoldable pub token : List ℕ → Result (TokenKind × List ℕ) Fault
token [] = Err bad_token
token (c ∷ cs) =
    if c == 40 then Ok (Paren, cs)
    else if c == 41 then Ok (Close, cs)
    else if c == 39 then Ok (Marked Quote, cs)
    else if c == 96 then Ok (Marked Quasi, cs)
    else if c == 44 then unquote_token cs
    else if c == 34 then string_token cs
    else if c == 124 then bar_token cs
    else if c == 35 then hash_token cs
    else word_token (c ∷ cs)
