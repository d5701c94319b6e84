-- The lexical syntax (R7RS 7.1.1): which characters are intertoken space, which spell which token before the rest of a
-- text, and which texts are which tokens. Characters are code points.
use Rattle.std.specs.Prelude.{ℕ, Bool, true, false, ◌&&◌, ◌||◌, ◌==◌, List, [], ◌∷◌, nat_lt, codes, if◌then◌else◌, ◌≡◌, map, sum_by, not, ◌++◌, ◌⊎◌, ◌+◌, ◌*◌}
use Rattle.std.specs.Char.{is_whitespace, is_ascii, is_ascii_alphabetic, is_ascii_digit, digit_value, len_utf8, to_ascii_lowercase}
use Rattle.unicode.specs.GeneralCategory.{general_category}
use Rattle.unicode.specs.declared.properties.GeneralCategory.{GeneralCategory}
use Rattle.unicode.specs.declared.properties.GeneralCategory.TheVariants.{UppercaseLetter, LowercaseLetter, TitlecaseLetter, ModifierLetter, OtherLetter, NonspacingMark, SpacingMark, EnclosingMark, DecimalNumber, LetterNumber, OtherNumber, ConnectorPunctuation, DashPunctuation, OpenPunctuation, ClosePunctuation, InitialPunctuation, FinalPunctuation, OtherPunctuation, MathSymbol, CurrencySymbol, ModifierSymbol, OtherSymbol, SpaceSeparator, LineSeparator, ParagraphSeparator, Control, Format, Surrogate, PrivateUse, Unassigned}
use Rattle.std.specs.List.{list_all, fold}

-- ---- classes of characters: a character is its code point; beyond ASCII its general category (Unicode) tells

-- one of these characters
abbrev pub is_one_of : List ℕ → ℕ → Bool
is_one_of [] c = false
is_one_of (d ∷ ds) c = c == d || is_one_of ds c

-- what ends a word, as the end of the text does: white space, `"` and these
unfoldable pub is_delimiter : ℕ → Bool
is_delimiter c = is_whitespace c || (c == 34 || is_one_of (codes "|();") c)

-- `\n` or `\r`
abbrev pub is_line_end : ℕ → Bool
is_line_end c = c == 10 || c == 13

-- a space or a tab
abbrev pub is_blank : ℕ → Bool
is_blank c = c == 32 || c == 9

abbrev pub is_sign : ℕ → Bool
is_sign c = c == 43 || c == 45

abbrev pub is_hex_digit : ℕ → Bool
is_hex_digit c = nat_lt (digit_value c) 16

-- the code of a character: no surrogate, and none past the last
abbrev pub is_scalar : ℕ → Bool
is_scalar c = nat_lt c 0xD800 || (nat_lt 0xDFFF c && nat_lt c 0x11_0000)

-- where in an identifier characters of a general category may stand
pub data Standing : Type 0 where
  anywhere : Standing
  behind_first : Standing
  nowhere : Standing

abbrev pub standing_of : GeneralCategory → Standing
standing_of UppercaseLetter = anywhere
standing_of LowercaseLetter = anywhere
standing_of TitlecaseLetter = anywhere
standing_of ModifierLetter = anywhere
standing_of OtherLetter = anywhere
standing_of NonspacingMark = anywhere
standing_of SpacingMark = behind_first
standing_of EnclosingMark = behind_first
standing_of DecimalNumber = behind_first
standing_of LetterNumber = anywhere
standing_of OtherNumber = anywhere
standing_of ConnectorPunctuation = anywhere
standing_of DashPunctuation = anywhere
standing_of OpenPunctuation = nowhere
standing_of ClosePunctuation = nowhere
standing_of InitialPunctuation = nowhere
standing_of FinalPunctuation = nowhere
standing_of OtherPunctuation = anywhere
standing_of MathSymbol = anywhere
standing_of CurrencySymbol = anywhere
standing_of ModifierSymbol = anywhere
standing_of OtherSymbol = anywhere
standing_of SpaceSeparator = nowhere
standing_of LineSeparator = nowhere
standing_of ParagraphSeparator = nowhere
standing_of Control = nowhere
standing_of Format = nowhere
standing_of Surrogate = nowhere
standing_of PrivateUse = anywhere
standing_of Unassigned = nowhere

abbrev pub is_anywhere : Standing → Bool
is_anywhere anywhere = true
is_anywhere behind_first = false
is_anywhere nowhere = false

abbrev pub is_somewhere : Standing → Bool
is_somewhere anywhere = true
is_somewhere behind_first = true
is_somewhere nowhere = false

-- what an identifier may begin with; U+200C and U+200D are the joiners
unfoldable pub is_initial : ℕ → Bool
is_initial c =
    if is_ascii c then is_ascii_alphabetic c || is_one_of (codes "!$%&*/:<=>?^_~") c
    else is_one_of (0x200C ∷ 0x200D ∷ []) c || is_anywhere (standing_of (general_category c))

-- what an identifier may go on with
unfoldable pub is_subsequent : ℕ → Bool
is_subsequent c =
    if is_ascii c then is_initial c || (is_ascii_digit c || is_one_of (codes "+-.@") c)
    else is_initial c || is_somewhere (standing_of (general_category c))

abbrev pub is_sign_subsequent : ℕ → Bool
is_sign_subsequent c = is_initial c || (is_sign c || c == 64)

abbrev pub is_dot_subsequent : ℕ → Bool
is_dot_subsequent c = is_sign_subsequent c || c == 46

-- ---- characters in a row: their bytes, where those of a class end, and words

-- the bytes of characters as UTF-8
abbrev pub byte_count : List ℕ → ℕ
byte_count cs = sum_by len_utf8 cs

-- characters of a class end before this: another comes, or the end of the text
abbrev pub Ends : (ℕ → Bool) → List ℕ → Type 0
Ends p [] = Unit {0}
Ends p (c ∷ cs) = p c ≡ false

abbrev pub is_inside : ℕ → Bool
is_inside c = if is_delimiter c then false else true

-- no delimiter is in the word, and one follows it, or the end of the text
abbrev pub IsWord : List ℕ → List ℕ → Type 0
IsWord word rest = (list_all is_inside word ≡ true) × Ends is_inside rest

-- these small letters, each in either case
abbrev pub Spells : List ℕ → List ℕ → Type 0
Spells letters cs = map to_ascii_lowercase cs ≡ letters

-- ---- intertoken space: white space, comments to the end of a line, and nested comments

-- two characters that open a nested comment, `#|`, or close one, `|#`
abbrev pub is_mark : ℕ → ℕ → Bool
is_mark c d = (c == 35 && d == 124) || (c == 124 && d == 35)

-- behind the `#|` of a comment: characters of which none begins a mark, other such comments, and `|#`
pub data IsNested : List ℕ → Type 0 where
  closed : IsNested (124 ∷ 35 ∷ [])
  plain : (c d : ℕ) (cs : List ℕ) → is_mark c d ≡ false → IsNested (d ∷ cs) → IsNested (c ∷ d ∷ cs)
  inner : (cs ds : List ℕ) → IsNested cs → IsNested ds → IsNested (35 ∷ 124 ∷ (cs ++ ds))

abbrev pub is_in_line : ℕ → Bool
is_in_line c = not (is_line_end c)

-- these characters are intertoken space, before the rest of the text
pub data IsSpace : List ℕ → List ℕ → Type 0 where
  none : (rest : List ℕ) → IsSpace [] rest
  white : (c : ℕ) (gap rest : List ℕ) → is_whitespace c ≡ true → IsSpace gap rest → IsSpace (c ∷ gap) rest
  line : (comment gap rest : List ℕ) → list_all is_in_line comment ≡ true → Ends is_in_line (gap ++ rest) → IsSpace gap rest → IsSpace (59 ∷ (comment ++ gap)) rest
  nested : (comment gap rest : List ℕ) → IsNested comment → IsSpace gap rest → IsSpace (35 ∷ 124 ∷ (comment ++ gap)) rest

-- ---- kinds of tokens

-- an atom that one token spells; `bars` tells of a name that it stands between bars
pub data Leaf : Type 0 where
  Name : (name : List ℕ) (bars : Bool) → Leaf
  Numeral : (text : List ℕ) → Leaf
  Quoted : (text : List ℕ) → Leaf
  Character : ℕ → Leaf
  Truth : Bool → Leaf

-- a mark that abbreviates a list with the datum after it: ' ` , ,@
pub data Mark : Type 0 where
  Quote : Mark
  Quasi : Mark
  Unquote : Mark
  Splice : Mark

-- what else stands alone: ( #( #u8( ) . and #;
pub data TokenKind : Type 0 where
  Paren : TokenKind
  VectorParen : TokenKind
  BytesParen : TokenKind
  Close : TokenKind
  Dot : TokenKind
  Skip : TokenKind
  Marked : Mark → TokenKind
  Atomic : Leaf → TokenKind

-- ---- identifiers

-- an identifier without bars: an initial and subsequents, or a peculiar one
pub data IsBare : List ℕ → Type 0 where
  ordinary : (c : ℕ) (cs : List ℕ) → is_initial c ≡ true → list_all is_subsequent cs ≡ true → IsBare (c ∷ cs)
  sign : (s : ℕ) → is_sign s ≡ true → IsBare (s ∷ [])
  signed : (s c : ℕ) (cs : List ℕ) → is_sign s ≡ true → is_sign_subsequent c ≡ true → list_all is_subsequent cs ≡ true → IsBare (s ∷ c ∷ cs)
  signed_dot : (s c : ℕ) (cs : List ℕ) → is_sign s ≡ true → is_dot_subsequent c ≡ true → list_all is_subsequent cs ≡ true → IsBare (s ∷ 46 ∷ c ∷ cs)
  dot : (c : ℕ) (cs : List ℕ) → is_dot_subsequent c ≡ true → list_all is_subsequent cs ≡ true → IsBare (46 ∷ c ∷ cs)

-- ---- what stands between bars or quotation marks

-- a letter behind `\`, and the character that it means
pub data IsMnemonic : ℕ → ℕ → Type 0 where
  alarm : IsMnemonic 97 7
  backspace : IsMnemonic 98 8
  tab : IsMnemonic 116 9
  line_feed : IsMnemonic 110 10
  return : IsMnemonic 114 13
  mark : IsMnemonic 34 34
  backslash : IsMnemonic 92 92
  bar : IsMnemonic 124 124

-- the number that hex digits write
abbrev pub hex_value : List ℕ → ℕ
hex_value digits = fold (λ n c. 16 * n + digit_value c) 0 digits

-- hex digits, one at least, that write the code of a character
pub record IsCode (digits : List ℕ) (c : ℕ) : Type 0 where
  pub some : ¬ (digits ≡ [])
  pub all : list_all is_hex_digit digits ≡ true
  pub value : hex_value digits ≡ c
  pub scalar : is_scalar c ≡ true

-- a line end, before the rest: `\n`, `\r\n` or `\r`
pub data IsLineEnd : List ℕ → List ℕ → Type 0 where
  feed : (rest : List ℕ) → IsLineEnd (10 ∷ []) rest
  return_feed : (rest : List ℕ) → IsLineEnd (13 ∷ 10 ∷ []) rest
  return : (rest : List ℕ) → Ends (λ c. c == 10) rest → IsLineEnd (13 ∷ []) rest

-- a character that means itself up to a closing mark; `"` closes strings, in which line ends don't
abbrev pub is_plain : ℕ → ℕ → Bool
is_plain close c = not (c == close || (c == 92 || (close == 34 && is_line_end c)))

-- one element up to a closing mark, and the characters that it means, before the rest: a plain character, an escape by a
-- letter or by hex digits; in a string also a line end, which means `\n`, and a folded one, which means nothing
pub data IsElement (close : ℕ) : List ℕ → List ℕ → List ℕ → Type 0 where
  itself : (c : ℕ) (rest : List ℕ) → is_plain close c ≡ true → IsElement close (c ∷ []) (c ∷ []) rest
  letter : (c m : ℕ) (rest : List ℕ) → IsMnemonic c m → IsElement close (92 ∷ c ∷ []) (m ∷ []) rest
  code : (x c : ℕ) (digits rest : List ℕ) → to_ascii_lowercase x ≡ 120 → IsCode digits c → IsElement close (92 ∷ x ∷ (digits ++ 59 ∷ [])) (c ∷ []) rest
  line_end : (ending rest : List ℕ) → close ≡ 34 → IsLineEnd ending rest → IsElement close ending (10 ∷ []) rest
  folded : (before ending behind rest : List ℕ) → close ≡ 34 → list_all is_blank before ≡ true → IsLineEnd ending (behind ++ rest) → list_all is_blank behind ≡ true → Ends is_blank rest →
      IsElement close (92 ∷ (before ++ (ending ++ behind))) [] rest

-- elements up to a closing mark and with it, and what they mean
pub data IsElements (close : ℕ) : List ℕ → List ℕ → Type 0 where
  closed : IsElements close (close ∷ []) []
  next : (one rest meant more : List ℕ) → IsElement close one meant rest → IsElements close rest more → IsElements close (one ++ rest) (meant ++ more)

-- ---- booleans, characters, numerals

abbrev pub IsTruth : Bool → List ℕ → Type 0
IsTruth true glyphs = Spells (codes "#t") glyphs ⊎ Spells (codes "#true") glyphs
IsTruth false glyphs = Spells (codes "#f") glyphs ⊎ Spells (codes "#false") glyphs

pub data IsCharacterName : List ℕ → ℕ → Type 0 where
  alarm : IsCharacterName (codes "alarm") 7
  backspace : IsCharacterName (codes "backspace") 8
  delete : IsCharacterName (codes "delete") 127
  escape : IsCharacterName (codes "escape") 27
  newline : IsCharacterName (codes "newline") 10
  null : IsCharacterName (codes "null") 0
  return : IsCharacterName (codes "return") 13
  space : IsCharacterName (codes "space") 32
  tab : IsCharacterName (codes "tab") 9

-- what stands behind `#\`, and the character that it tells
pub data IsCharacter : List ℕ → ℕ → Type 0 where
  itself : (c : ℕ) → IsCharacter (c ∷ []) c
  code : (x c : ℕ) (digits : List ℕ) → to_ascii_lowercase x ≡ 120 → IsCode digits c → IsCharacter (x ∷ digits) c
  named : (name : List ℕ) (c : ℕ) → IsCharacterName name c → IsCharacter name c

-- a numeral begins with a digit; a sign, a dot or both before one; a radix or an exactness; or it is a sign and `inf.0`,
-- `nan.0` or `i`. What else stands in it isn't looked at
pub data IsNumeral : List ℕ → Type 0 where
  digit : (c : ℕ) (cs : List ℕ) → is_ascii_digit c ≡ true → IsNumeral (c ∷ cs)
  point : (c : ℕ) (cs : List ℕ) → is_ascii_digit c ≡ true → IsNumeral (46 ∷ c ∷ cs)
  signed : (s c : ℕ) (cs : List ℕ) → is_sign s ≡ true → is_ascii_digit c ≡ true → IsNumeral (s ∷ c ∷ cs)
  signed_point : (s c : ℕ) (cs : List ℕ) → is_sign s ≡ true → is_ascii_digit c ≡ true → IsNumeral (s ∷ 46 ∷ c ∷ cs)
  prefixed : (c : ℕ) (cs : List ℕ) → is_one_of (codes "bodxei") (to_ascii_lowercase c) ≡ true → IsNumeral (35 ∷ c ∷ cs)
  infinite : (s : ℕ) (cs more : List ℕ) → is_sign s ≡ true → Spells (codes "inf.0") cs → IsNumeral (s ∷ (cs ++ more))
  no_number : (s : ℕ) (cs more : List ℕ) → is_sign s ≡ true → Spells (codes "nan.0") cs → IsNumeral (s ∷ (cs ++ more))
  imaginary : (s : ℕ) (cs : List ℕ) → is_sign s ≡ true → Spells (codes "i") cs → IsNumeral (s ∷ cs)

-- ---- tokens

-- these characters spell the atom, before the rest of the text
abbrev pub IsLeaf : Leaf → List ℕ → List ℕ → Type 0
IsLeaf (Name name true) glyphs rest = (cs : List ℕ) × (glyphs ≡ 124 ∷ cs) × IsElements 124 cs name
IsLeaf (Name name false) glyphs rest = (glyphs ≡ name) × IsBare name × (¬ IsNumeral name) × IsWord name rest
IsLeaf (Numeral text) glyphs rest = (glyphs ≡ text) × IsNumeral text × IsWord text rest
IsLeaf (Quoted text) glyphs rest = (cs : List ℕ) × (glyphs ≡ 34 ∷ cs) × IsElements 34 cs text
IsLeaf (Character c) glyphs rest = (d : ℕ) × (word : List ℕ) × (glyphs ≡ 35 ∷ 92 ∷ d ∷ word) × IsCharacter (d ∷ word) c × IsWord word rest
IsLeaf (Truth b) glyphs rest = IsTruth b glyphs × IsWord glyphs rest

-- these characters spell the token, before the rest of the text
abbrev pub IsToken : TokenKind → List ℕ → List ℕ → Type 0
IsToken Paren glyphs rest = glyphs ≡ codes "("
IsToken VectorParen glyphs rest = glyphs ≡ codes "#("
IsToken BytesParen glyphs rest = (glyphs ≡ codes "#u8(") ⊎ (glyphs ≡ codes "#U8(")
IsToken Close glyphs rest = glyphs ≡ codes ")"
IsToken Dot glyphs rest = (glyphs ≡ codes ".") × Ends is_inside rest
IsToken Skip glyphs rest = glyphs ≡ codes "#;"
IsToken (Marked Quote) glyphs rest = glyphs ≡ codes "'"
IsToken (Marked Quasi) glyphs rest = glyphs ≡ codes "`"
IsToken (Marked Unquote) glyphs rest = (glyphs ≡ codes ",") × Ends (λ c. c == 64) rest
IsToken (Marked Splice) glyphs rest = glyphs ≡ codes ",@"
IsToken (Atomic leaf) glyphs rest = IsLeaf leaf glyphs rest

-- ---- texts: tokens with intertoken space before, between and behind them. Offsets count bytes

-- a token and its bytes in the text
pub record Token : Type 0 where
  pub kind : TokenKind
  pub start : ℕ
  pub end : ℕ

-- the first token of a text that begins at a place: intertoken space, the token's characters, and the rest of the text
pub record First (at : ℕ) (t : Token) (text : List ℕ) : Type 0 where
  pub gap : List ℕ
  pub glyphs : List ℕ
  pub rest : List ℕ
  pub whole : text ≡ gap ++ (glyphs ++ rest)
  pub space : IsSpace gap (glyphs ++ rest)
  pub token : IsToken t.kind glyphs rest
  pub starts : t.start ≡ at + byte_count gap
  pub ends : t.end ≡ t.start + byte_count glyphs

-- a text that begins at a place is these tokens with intertoken space
abbrev pub IsSpelledFrom : ℕ → List Token → List ℕ → Type 0
IsSpelledFrom at [] text = IsSpace text []
IsSpelledFrom at (t ∷ ts) text = (first : First at t text) × IsSpelledFrom t.end ts first.rest

-- a byte order mark at the front of a text is space: its bytes, and what follows it
abbrev pub mark_bytes : List ℕ → ℕ
mark_bytes [] = 0
mark_bytes (c ∷ cs) = if c == 0xFEFF then 3 else 0

abbrev pub behind_mark : List ℕ → List ℕ
behind_mark [] = []
behind_mark (c ∷ cs) = if c == 0xFEFF then cs else c ∷ cs

-- a text is these tokens
abbrev pub IsSpelled : List Token → List ℕ → Type 0
IsSpelled ts text = IsSpelledFrom (mark_bytes text) ts (behind_mark text)

-- a text that is one identifier token and nothing else
abbrev pub IsIdentifier : List ℕ → List ℕ → Type 0
IsIdentifier name text = (bars : Bool) × IsToken (Atomic (Name name bars)) text []
