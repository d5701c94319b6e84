-- How a text is read as tokens, with gaps before, between and behind them (R7RS 7.1.1). A text is a list of characters;
-- places in it count bytes.
use Rattle.std.specs.Prelude.{◌≡◌, ℕ, ◌-◌, Bool, List, [], ◌∷◌, Option, Some, None, Result, Ok, Err, drop}
use Rattle.scheme_tokens.specs.Mirror.Words.{byte_count, behind_word}
use Rattle.scheme_tokens.specs.Mirror.Quoted.{Fault, bad_token, open_string, open_bar, open_comment, label, directive}
use Rattle.scheme_tokens.specs.Mirror.Gaps.{between, behind_gap}
use Rattle.scheme_tokens.specs.Mirror.Tokens.{TokenKind, Atomic, Name, token}
pub use Rattle.scheme_tokens.specs.Lexical.{Token, behind_mark}
pub use Rattle.scheme_tokens.specs.Faults.{FaultAt}

-- where the rest of a text of so many bytes begins
abbrev pub place : ℕ → List ℕ → ℕ
place size rest = size - byte_count rest

-- behind the first character of a text, up to the next delimiter
abbrev pub behind_bad : List ℕ → List ℕ
behind_bad text = behind_word (drop 1 text)

-- behind the characters that a fault at the front of a text is shown at: the opening mark, or up to a delimiter
abbrev pub behind_fault : Fault → List ℕ → List ℕ
behind_fault bad_token text = behind_bad text
behind_fault open_string text = drop 1 text
behind_fault open_bar text = drop 1 text
behind_fault open_comment text = drop 2 text
behind_fault label text = behind_bad text
behind_fault directive text = behind_bad text

abbrev pub fault_at : ℕ → Fault → List ℕ → FaultAt
fault_at size fault text = record { fault = fault; start = place size text; end = place size (behind_fault fault text) }

-- what comes next in a text: a token with the text behind it; or nothing more, because of a fault or because all is read
pub data Next : Type 0 where
  found : Token → List ℕ → Next
  ended : Option FaultAt → Next

abbrev pub next_token : ℕ → List ℕ → Result (TokenKind × List ℕ) Fault → Next
next_token size text (Ok t) = found (record { kind = t.0; start = place size text; end = place size t.1 }) t.1
next_token size text (Err fault) = ended (Some (fault_at size fault text))

abbrev pub at_front : ℕ → List ℕ → Next
at_front size [] = ended None
at_front size (c ∷ cs) = next_token size (c ∷ cs) (token (c ∷ cs))

abbrev pub next_behind : ℕ → Result (List ℕ) (List ℕ) → Next
next_behind size (Ok text) = at_front size text
next_behind size (Err start) = ended (Some (fault_at size open_comment start))

unfoldable pub next : ℕ → List ℕ → Next
next size text = next_behind size (behind_gap between text)

-- the rest of a text of so many bytes has these tokens, and then it ends, or a fault comes
abbrev pub Reads : ℕ → List Token → Option FaultAt → List ℕ → Type 0
Reads size [] end text = next size text ≡ ended end
Reads size (t ∷ ts) end text = (rest : List ℕ) × (next size text ≡ found t rest) × Reads size ts end rest

-- a text has these tokens, and then it ends, or a fault comes
abbrev pub IsRead : List Token → Option FaultAt → List ℕ → Type 0
IsRead ts end text = Reads (byte_count text) ts end (behind_mark text)

-- the text is these tokens with gaps
abbrev pub IsSpelled : List Token → List ℕ → Type 0
IsSpelled ts text = IsRead ts None text

-- a text that is one identifier token and nothing else
abbrev pub IsIdentifier : List ℕ → List ℕ → Type 0
IsIdentifier name text = (bars : Bool) × (token text ≡ Ok (Atomic (Name name bars), []))
