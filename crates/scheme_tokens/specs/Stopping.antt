-- Where the reading of a text stops (R7RS 7.1.1): at the first character with which no tokens can go on, or at the end.
use Rattle.std.specs.Prelude.{◌≡◌, ℕ, ◌+◌, Bool, false, ◌&&◌, ◌==◌, List, [], ◌∷◌, ◌++◌, Option, Some, None, if◌then◌else◌}
use Rattle.std.specs.Char.{is_ascii_digit}
use Rattle.scheme_tokens.specs.Lexical.{byte_count, IsWord, IsNested, IsSpace, TokenKind, IsToken, Token, First, mark_bytes, behind_mark, IsSpelled}
use Rattle.scheme_tokens.specs.Faults.{Fault, bad_token, open_string, open_bar, open_comment, label, directive, FaultAt}

-- with more characters behind them, these are a text of tokens
abbrev pub CanGoOn : List ℕ → Type 0
CanGoOn cs = (more : List ℕ) × (ts : List Token) × IsSpelled ts (cs ++ more)

-- these characters can go on, and with the next one behind them they can't; or none is behind them, and they aren't tokens
abbrev pub StopsBetween : List ℕ → List ℕ → Type 0
StopsBetween before [] = CanGoOn before × ((ts : List Token) → ¬ IsSpelled ts before)
StopsBetween before (c ∷ behind) = CanGoOn before × ¬ CanGoOn (before ++ c ∷ [])

-- ---- what is written there

-- the first tokens of a text that begins at a place, and the place and the rest of the text behind them
abbrev pub Begins : ℕ → List Token → List ℕ → ℕ → List ℕ → Type 0
Begins at [] text place rest = (place ≡ at) × (rest ≡ text)
Begins at (t ∷ ts) text place rest = (first : First at t text) × Begins t.end ts first.rest place rest

-- what is begun and not ended, before the characters behind it: nothing, a token, or a nested comment
pub data IsBegun : List ℕ → List ℕ → Type 0 where
  nothing : (behind : List ℕ) → IsBegun [] behind
  token : (begun more rest behind : List ℕ) (k : TokenKind) → IsToken k (begun ++ more) rest → ((j : TokenKind) → ¬ IsToken j begun behind) → IsBegun begun behind
  comment : (m : ℕ) (cs more : List ℕ) → IsNested (cs ++ m ∷ more) → IsBegun (35 ∷ 124 ∷ cs) []

-- ---- why, and where it is shown

abbrev pub begins_bar : List ℕ → Bool
begins_bar [] = false
begins_bar (c ∷ cs) = c == 124

-- a text may not end behind what is begun: a string, a name between bars, a nested comment, or any other token
abbrev pub unended : List ℕ → Fault
unended [] = bad_token
unended (c ∷ cs) =
    if c == 34 then open_string
    else if c == 124 then open_bar
    else if c == 35 && begins_bar cs then open_comment
    else bad_token

-- a character may not follow what is begun: behind `#` it makes a directive or a label
abbrev pub refused : List ℕ → ℕ → Fault
refused [] c = bad_token
refused (b ∷ []) c =
    if b == 35 && c == 33 then directive
    else if b == 35 && is_ascii_digit c then label
    else bad_token
refused (b ∷ d ∷ ds) c = bad_token

abbrev pub because : List ℕ → List ℕ → Fault
because begun [] = unended begun
because begun (c ∷ behind) = refused begun c

-- one character, and those behind it up to a delimiter
abbrev pub RunsOn : List ℕ → List ℕ → Type 0
RunsOn shown rest = (c : ℕ) × (word : List ℕ) × (shown ≡ c ∷ word) × IsWord word rest

-- the characters that a fault is shown at, before the rest: the mark that opens, or a run up to a delimiter
abbrev pub IsShown : Fault → List ℕ → List ℕ → Type 0
IsShown bad_token shown rest = RunsOn shown rest
IsShown open_string shown rest = (c : ℕ) × (shown ≡ c ∷ [])
IsShown open_bar shown rest = (c : ℕ) × (shown ≡ c ∷ [])
IsShown open_comment shown rest = (c : ℕ) × (d : ℕ) × (shown ≡ c ∷ d ∷ [])
IsShown label shown rest = RunsOn shown rest
IsShown directive shown rest = RunsOn shown rest

-- ---- where a text stops

-- a text has these tokens, and then it stops at a fault
pub record IsStop (ts : List Token) (f : FaultAt) (text : List ℕ) : Type 0 where
  pub before : List ℕ
  pub behind : List ℕ
  pub whole : text ≡ before ++ behind
  pub stops : StopsBetween before behind
  pub place : ℕ
  pub gap : List ℕ
  pub begun : List ℕ
  pub tokens : Begins (mark_bytes text) ts (behind_mark text) place (gap ++ (begun ++ behind))
  pub space : IsSpace gap (begun ++ behind)
  pub is_begun : IsBegun begun behind
  pub because : f.fault ≡ because begun behind
  pub starts : f.start ≡ place + byte_count gap
  pub shown : List ℕ
  pub rest : List ℕ
  pub split : begun ++ behind ≡ shown ++ rest
  pub shows : IsShown f.fault shown rest
  pub ends : f.end ≡ f.start + byte_count shown

-- a text has these tokens, and then it ends, or it stops at a fault
abbrev pub IsRead : List Token → Option FaultAt → List ℕ → Type 0
IsRead ts None text = IsSpelled ts text
IsRead ts (Some fault) text = IsStop ts fault text

abbrev pub Stops : FaultAt → List ℕ → Type 0
Stops fault text = (ts : List Token) × IsStop ts fault text
