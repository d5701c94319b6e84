-- One text of each kind of token, and one for each fault: the definitions say of them what a reader expects.
use Rattle.std.proofs.Common.{ℕ, [], ◌∷◌, true, false, refl}
use Rattle.std.specs.Prelude.{codes}
use Rattle.scheme_tokens.specs.Lexical.{is_delimiter, is_initial, is_subsequent, TokenKind, Paren, VectorParen, BytesParen, Close, Dot, Skip, Marked, Quote, Quasi, Unquote, Splice, Atomic, Name, Numeral, Quoted, Character, Truth, Token, IsSpelled}
use Rattle.scheme_tokens.specs.Faults.{Fault, bad_token, open_string, open_bar, open_comment, label, directive, FaultAt}
use Rattle.scheme_tokens.specs.Stopping.{IsStop}
use Rattle.scheme_tokens.specs.Mirror.Words.{is_numeral, is_identifier}
use Rattle.scheme_tokens.specs.Mirror.Quoted.{elements, element, escape}
use Rattle.scheme_tokens.specs.Mirror.Gaps.{behind_gap}
use Rattle.scheme_tokens.specs.Mirror.Tokens.{token, word_kind, hash_kind, hash_token, named, character_of}
use Rattle.scheme_tokens.specs.Mirror.Reading.{next}
use Rattle.scheme_tokens.proofs.Same.Reading.{read_spelled}
use Rattle.scheme_tokens.proofs.Same.Stops.{read_stops}

abbrev at : TokenKind → ℕ → ℕ → Token
at k start end = record { kind = k; start = start; end = end }

abbrev fault_at : Fault → ℕ → ℕ → FaultAt
fault_at f start end = record { fault = f; start = start; end = end }

-- `a mark, space, a nested comment, names`
names : IsSpelled (at (Atomic (Name (codes "a") false)) 14 15 ∷ at (Atomic (Name (codes "A") true)) 15 22 ∷ []) (65279 ∷ 32 ∷ 35 ∷ 124 ∷ 98 ∷ 35 ∷ 124 ∷ 99 ∷ 124 ∷ 35 ∷ 124 ∷ 35 ∷ 97 ∷ 124 ∷ 92 ∷ 120 ∷ 52 ∷ 49 ∷ 59 ∷ 124 ∷ [])
unfolding next behind_gap token word_kind hash_kind hash_token is_numeral is_identifier is_initial is_subsequent is_delimiter elements element escape named character_of
names = read_spelled (at (Atomic (Name (codes "a") false)) 14 15 ∷ at (Atomic (Name (codes "A") true)) 15 22 ∷ []) (65279 ∷ 32 ∷ 35 ∷ 124 ∷ 98 ∷ 35 ∷ 124 ∷ 99 ∷ 124 ∷ 35 ∷ 124 ∷ 35 ∷ 97 ∷ 124 ∷ 92 ∷ 120 ∷ 52 ∷ 49 ∷ 59 ∷ 124 ∷ []) (124 ∷ 92 ∷ 120 ∷ 52 ∷ 49 ∷ 59 ∷ 124 ∷ [], refl, ([], refl, refl))

-- `1x +.5 #b1 -inf.0 +i`
numerals : IsSpelled (at (Atomic (Numeral (codes "1x"))) 0 2 ∷ at (Atomic (Numeral (codes "+.5"))) 3 6 ∷ at (Atomic (Numeral (codes "#b1"))) 7 10 ∷ at (Atomic (Numeral (codes "-inf.0"))) 11 17 ∷ at (Atomic (Numeral (codes "+i"))) 18 20 ∷ []) (49 ∷ 120 ∷ 32 ∷ 43 ∷ 46 ∷ 53 ∷ 32 ∷ 35 ∷ 98 ∷ 49 ∷ 32 ∷ 45 ∷ 105 ∷ 110 ∷ 102 ∷ 46 ∷ 48 ∷ 32 ∷ 43 ∷ 105 ∷ [])
unfolding next behind_gap token word_kind hash_kind hash_token is_numeral is_identifier is_initial is_subsequent is_delimiter elements element escape named character_of
numerals = read_spelled (at (Atomic (Numeral (codes "1x"))) 0 2 ∷ at (Atomic (Numeral (codes "+.5"))) 3 6 ∷ at (Atomic (Numeral (codes "#b1"))) 7 10 ∷ at (Atomic (Numeral (codes "-inf.0"))) 11 17 ∷ at (Atomic (Numeral (codes "+i"))) 18 20 ∷ []) (49 ∷ 120 ∷ 32 ∷ 43 ∷ 46 ∷ 53 ∷ 32 ∷ 35 ∷ 98 ∷ 49 ∷ 32 ∷ 45 ∷ 105 ∷ 110 ∷ 102 ∷ 46 ∷ 48 ∷ 32 ∷ 43 ∷ 105 ∷ []) (32 ∷ 43 ∷ 46 ∷ 53 ∷ 32 ∷ 35 ∷ 98 ∷ 49 ∷ 32 ∷ 45 ∷ 105 ∷ 110 ∷ 102 ∷ 46 ∷ 48 ∷ 32 ∷ 43 ∷ 105 ∷ [], refl, (32 ∷ 35 ∷ 98 ∷ 49 ∷ 32 ∷ 45 ∷ 105 ∷ 110 ∷ 102 ∷ 46 ∷ 48 ∷ 32 ∷ 43 ∷ 105 ∷ [], refl, (32 ∷ 45 ∷ 105 ∷ 110 ∷ 102 ∷ 46 ∷ 48 ∷ 32 ∷ 43 ∷ 105 ∷ [], refl, (32 ∷ 43 ∷ 105 ∷ [], refl, ([], refl, refl)))))

-- `a folded line, a line end and an escape in a string`
strings : IsSpelled (at (Atomic (Quoted (97 ∷ 98 ∷ 10 ∷ 99 ∷ 10 ∷ []))) 0 13 ∷ []) (34 ∷ 97 ∷ 92 ∷ 32 ∷ 10 ∷ 32 ∷ 98 ∷ 13 ∷ 10 ∷ 99 ∷ 92 ∷ 110 ∷ 34 ∷ [])
unfolding next behind_gap token word_kind hash_kind hash_token is_numeral is_identifier is_initial is_subsequent is_delimiter elements element escape named character_of
strings = read_spelled (at (Atomic (Quoted (97 ∷ 98 ∷ 10 ∷ 99 ∷ 10 ∷ []))) 0 13 ∷ []) (34 ∷ 97 ∷ 92 ∷ 32 ∷ 10 ∷ 32 ∷ 98 ∷ 13 ∷ 10 ∷ 99 ∷ 92 ∷ 110 ∷ 34 ∷ []) ([], refl, refl)

-- `#\x #\x41 #\space #\(`
characters : IsSpelled (at (Atomic (Character 120)) 0 3 ∷ at (Atomic (Character 65)) 4 9 ∷ at (Atomic (Character 32)) 10 17 ∷ at (Atomic (Character 40)) 18 21 ∷ []) (35 ∷ 92 ∷ 120 ∷ 32 ∷ 35 ∷ 92 ∷ 120 ∷ 52 ∷ 49 ∷ 32 ∷ 35 ∷ 92 ∷ 115 ∷ 112 ∷ 97 ∷ 99 ∷ 101 ∷ 32 ∷ 35 ∷ 92 ∷ 40 ∷ [])
unfolding next behind_gap token word_kind hash_kind hash_token is_numeral is_identifier is_initial is_subsequent is_delimiter elements element escape named character_of
characters = read_spelled (at (Atomic (Character 120)) 0 3 ∷ at (Atomic (Character 65)) 4 9 ∷ at (Atomic (Character 32)) 10 17 ∷ at (Atomic (Character 40)) 18 21 ∷ []) (35 ∷ 92 ∷ 120 ∷ 32 ∷ 35 ∷ 92 ∷ 120 ∷ 52 ∷ 49 ∷ 32 ∷ 35 ∷ 92 ∷ 115 ∷ 112 ∷ 97 ∷ 99 ∷ 101 ∷ 32 ∷ 35 ∷ 92 ∷ 40 ∷ []) (32 ∷ 35 ∷ 92 ∷ 120 ∷ 52 ∷ 49 ∷ 32 ∷ 35 ∷ 92 ∷ 115 ∷ 112 ∷ 97 ∷ 99 ∷ 101 ∷ 32 ∷ 35 ∷ 92 ∷ 40 ∷ [], refl, (32 ∷ 35 ∷ 92 ∷ 115 ∷ 112 ∷ 97 ∷ 99 ∷ 101 ∷ 32 ∷ 35 ∷ 92 ∷ 40 ∷ [], refl, (32 ∷ 35 ∷ 92 ∷ 40 ∷ [], refl, ([], refl, refl))))

-- `#T#false is one bad word; with a space two booleans`
booleans : IsSpelled (at (Atomic (Truth true)) 0 2 ∷ at (Atomic (Truth false)) 3 9 ∷ []) (35 ∷ 84 ∷ 32 ∷ 35 ∷ 102 ∷ 97 ∷ 108 ∷ 115 ∷ 101 ∷ [])
unfolding next behind_gap token word_kind hash_kind hash_token is_numeral is_identifier is_initial is_subsequent is_delimiter elements element escape named character_of
booleans = read_spelled (at (Atomic (Truth true)) 0 2 ∷ at (Atomic (Truth false)) 3 9 ∷ []) (35 ∷ 84 ∷ 32 ∷ 35 ∷ 102 ∷ 97 ∷ 108 ∷ 115 ∷ 101 ∷ []) (32 ∷ 35 ∷ 102 ∷ 97 ∷ 108 ∷ 115 ∷ 101 ∷ [], refl, ([], refl, refl))

-- `marks and a comment to the end`
marks : IsSpelled (at (Paren) 0 1 ∷ at (VectorParen) 1 3 ∷ at (BytesParen) 3 7 ∷ at (Close) 7 8 ∷ at (Marked Quote) 8 9 ∷ at (Marked Quasi) 9 10 ∷ at (Marked Unquote) 10 11 ∷ at (Marked Splice) 11 13 ∷ at (Skip) 13 15 ∷ at (Dot) 16 17 ∷ []) (40 ∷ 35 ∷ 40 ∷ 35 ∷ 85 ∷ 56 ∷ 40 ∷ 41 ∷ 39 ∷ 96 ∷ 44 ∷ 44 ∷ 64 ∷ 35 ∷ 59 ∷ 32 ∷ 46 ∷ 32 ∷ 59 ∷ 99 ∷ [])
unfolding next behind_gap token word_kind hash_kind hash_token is_numeral is_identifier is_initial is_subsequent is_delimiter elements element escape named character_of
marks = read_spelled (at (Paren) 0 1 ∷ at (VectorParen) 1 3 ∷ at (BytesParen) 3 7 ∷ at (Close) 7 8 ∷ at (Marked Quote) 8 9 ∷ at (Marked Quasi) 9 10 ∷ at (Marked Unquote) 10 11 ∷ at (Marked Splice) 11 13 ∷ at (Skip) 13 15 ∷ at (Dot) 16 17 ∷ []) (40 ∷ 35 ∷ 40 ∷ 35 ∷ 85 ∷ 56 ∷ 40 ∷ 41 ∷ 39 ∷ 96 ∷ 44 ∷ 44 ∷ 64 ∷ 35 ∷ 59 ∷ 32 ∷ 46 ∷ 32 ∷ 59 ∷ 99 ∷ []) (35 ∷ 40 ∷ 35 ∷ 85 ∷ 56 ∷ 40 ∷ 41 ∷ 39 ∷ 96 ∷ 44 ∷ 44 ∷ 64 ∷ 35 ∷ 59 ∷ 32 ∷ 46 ∷ 32 ∷ 59 ∷ 99 ∷ [], refl, (35 ∷ 85 ∷ 56 ∷ 40 ∷ 41 ∷ 39 ∷ 96 ∷ 44 ∷ 44 ∷ 64 ∷ 35 ∷ 59 ∷ 32 ∷ 46 ∷ 32 ∷ 59 ∷ 99 ∷ [], refl, (41 ∷ 39 ∷ 96 ∷ 44 ∷ 44 ∷ 64 ∷ 35 ∷ 59 ∷ 32 ∷ 46 ∷ 32 ∷ 59 ∷ 99 ∷ [], refl, (39 ∷ 96 ∷ 44 ∷ 44 ∷ 64 ∷ 35 ∷ 59 ∷ 32 ∷ 46 ∷ 32 ∷ 59 ∷ 99 ∷ [], refl, (96 ∷ 44 ∷ 44 ∷ 64 ∷ 35 ∷ 59 ∷ 32 ∷ 46 ∷ 32 ∷ 59 ∷ 99 ∷ [], refl, (44 ∷ 44 ∷ 64 ∷ 35 ∷ 59 ∷ 32 ∷ 46 ∷ 32 ∷ 59 ∷ 99 ∷ [], refl, (44 ∷ 64 ∷ 35 ∷ 59 ∷ 32 ∷ 46 ∷ 32 ∷ 59 ∷ 99 ∷ [], refl, (35 ∷ 59 ∷ 32 ∷ 46 ∷ 32 ∷ 59 ∷ 99 ∷ [], refl, (32 ∷ 46 ∷ 32 ∷ 59 ∷ 99 ∷ [], refl, (32 ∷ 59 ∷ 99 ∷ [], refl, refl))))))))))

-- `a{ b: shown up to the space`
bad_word : IsStop ([]) (fault_at bad_token 0 2) (97 ∷ 123 ∷ 32 ∷ 98 ∷ [])
unfolding next behind_gap token word_kind hash_kind hash_token is_numeral is_identifier is_initial is_subsequent is_delimiter elements element escape named character_of
bad_word = read_stops ([]) (fault_at bad_token 0 2) (97 ∷ 123 ∷ 32 ∷ 98 ∷ []) refl

-- `#\spac)`
bad_character : IsStop ([]) (fault_at bad_token 0 6) (35 ∷ 92 ∷ 115 ∷ 112 ∷ 97 ∷ 99 ∷ 41 ∷ [])
unfolding next behind_gap token word_kind hash_kind hash_token is_numeral is_identifier is_initial is_subsequent is_delimiter elements element escape named character_of
bad_character = read_stops ([]) (fault_at bad_token 0 6) (35 ∷ 92 ∷ 115 ∷ 112 ∷ 97 ∷ 99 ∷ 41 ∷ []) refl

-- `(a "\q")`
bad_escape : IsStop (at (Paren) 0 1 ∷ at (Atomic (Name (codes "a") false)) 1 2 ∷ []) (fault_at bad_token 3 6) (40 ∷ 97 ∷ 32 ∷ 34 ∷ 92 ∷ 113 ∷ 34 ∷ 41 ∷ [])
unfolding next behind_gap token word_kind hash_kind hash_token is_numeral is_identifier is_initial is_subsequent is_delimiter elements element escape named character_of
bad_escape = read_stops (at (Paren) 0 1 ∷ at (Atomic (Name (codes "a") false)) 1 2 ∷ []) (fault_at bad_token 3 6) (40 ∷ 97 ∷ 32 ∷ 34 ∷ 92 ∷ 113 ∷ 34 ∷ 41 ∷ []) (97 ∷ 32 ∷ 34 ∷ 92 ∷ 113 ∷ 34 ∷ 41 ∷ [], refl, (32 ∷ 34 ∷ 92 ∷ 113 ∷ 34 ∷ 41 ∷ [], refl, refl))

-- `"\x110000`
great_escape : IsStop ([]) (fault_at bad_token 0 9) (34 ∷ 92 ∷ 120 ∷ 49 ∷ 49 ∷ 48 ∷ 48 ∷ 48 ∷ 48 ∷ [])
unfolding next behind_gap token word_kind hash_kind hash_token is_numeral is_identifier is_initial is_subsequent is_delimiter elements element escape named character_of
great_escape = read_stops ([]) (fault_at bad_token 0 9) (34 ∷ 92 ∷ 120 ∷ 49 ∷ 49 ∷ 48 ∷ 48 ∷ 48 ∷ 48 ∷ []) refl

-- `"a\x1`
string_open : IsStop ([]) (fault_at open_string 0 1) (34 ∷ 97 ∷ 92 ∷ 120 ∷ 49 ∷ [])
unfolding next behind_gap token word_kind hash_kind hash_token is_numeral is_identifier is_initial is_subsequent is_delimiter elements element escape named character_of
string_open = read_stops ([]) (fault_at open_string 0 1) (34 ∷ 97 ∷ 92 ∷ 120 ∷ 49 ∷ []) refl

-- `|a\`
bar_open : IsStop ([]) (fault_at open_bar 0 1) (124 ∷ 97 ∷ 92 ∷ [])
unfolding next behind_gap token word_kind hash_kind hash_token is_numeral is_identifier is_initial is_subsequent is_delimiter elements element escape named character_of
bar_open = read_stops ([]) (fault_at open_bar 0 1) (124 ∷ 97 ∷ 92 ∷ []) refl

-- `a #| |`
comment_open : IsStop (at (Atomic (Name (codes "a") false)) 0 1 ∷ []) (fault_at open_comment 2 4) (97 ∷ 32 ∷ 35 ∷ 124 ∷ 32 ∷ 124 ∷ [])
unfolding next behind_gap token word_kind hash_kind hash_token is_numeral is_identifier is_initial is_subsequent is_delimiter elements element escape named character_of
comment_open = read_stops (at (Atomic (Name (codes "a") false)) 0 1 ∷ []) (fault_at open_comment 2 4) (97 ∷ 32 ∷ 35 ∷ 124 ∷ 32 ∷ 124 ∷ []) (32 ∷ 35 ∷ 124 ∷ 32 ∷ 124 ∷ [], refl, refl)

-- `#0=a b`
a_label : IsStop ([]) (fault_at label 0 4) (35 ∷ 48 ∷ 61 ∷ 97 ∷ 32 ∷ 98 ∷ [])
unfolding next behind_gap token word_kind hash_kind hash_token is_numeral is_identifier is_initial is_subsequent is_delimiter elements element escape named character_of
a_label = read_stops ([]) (fault_at label 0 4) (35 ∷ 48 ∷ 61 ∷ 97 ∷ 32 ∷ 98 ∷ []) refl

-- `#!x y`
a_directive : IsStop ([]) (fault_at directive 0 3) (35 ∷ 33 ∷ 120 ∷ 32 ∷ 121 ∷ [])
unfolding next behind_gap token word_kind hash_kind hash_token is_numeral is_identifier is_initial is_subsequent is_delimiter elements element escape named character_of
a_directive = read_stops ([]) (fault_at directive 0 3) (35 ∷ 33 ∷ 120 ∷ 32 ∷ 121 ∷ []) refl
