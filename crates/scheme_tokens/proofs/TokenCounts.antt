-- A text has no more tokens than bytes.
use Rattle.std.proofs.Common.{◌≡◌, ℕ, ◌≤◌, ◌<◌, length, List, [], ◌∷◌, Bool, true, false, cond, Option, None, Result, Ok, Err, subst, arith, ◌==◌}
use Rattle.std.proofs.lemmas.Str.{length-le-encodes}
use Rattle.scheme_tokens.specs.Mirror.Words.{byte_count}
use Rattle.scheme_tokens.specs.Mirror.Quoted.{Fault}
use Rattle.scheme_tokens.specs.Mirror.Gaps.{between, behind_gap}
use Rattle.scheme_tokens.specs.Mirror.Tokens.{TokenKind, token}
use Rattle.scheme_tokens.specs.Mirror.Reading.{Token, FaultAt, Next, found, ended, next_token, at_front, next_behind, next, Reads, behind_mark}
use Rattle.scheme_tokens.specs.Lexical.{IsSpelled}
use Rattle.scheme_tokens.proofs.Fronts.{byte_count-encodes}
use Rattle.scheme_tokens.proofs.GapLengths.{Leaves, gap_leaves}
use Rattle.scheme_tokens.proofs.QuotedLengths.{Rests}
use Rattle.scheme_tokens.proofs.TokenLengths.{token_rests}
use Rattle.scheme_tokens.proofs.Same.Reading.{spelled_read}

-- what comes next leaves fewer characters
abbrev Fewer : ℕ → Next → Type 0
Fewer n (found t rest) = length rest < n
Fewer n (ended end) = Unit {0}

token_fewer : (size n m : ℕ) (text : List ℕ) (r : Result (TokenKind × List ℕ) Fault) → n < m → Rests n r → Fewer m (next_token size text r)
token_fewer size n m text (Ok t) h k = omega arith
token_fewer size n m text (Err fault) h k = tt

front_fewer : (size m : ℕ) (text : List ℕ) → length text ≤ m → Fewer m (at_front size text)
front_fewer size m [] h = tt
front_fewer size m (c ∷ cs) h = token_fewer size (length cs) m (c ∷ cs) (token (c ∷ cs)) (omega arith) (token_rests c cs)

behind_fewer : (size m : ℕ) (r : Result (List ℕ) (List ℕ)) → Leaves m r → Fewer m (next_behind size r)
behind_fewer size m (Ok text) h = front_fewer size m text h
behind_fewer size m (Err start) h = tt

next_fewer : (size : ℕ) (text : List ℕ) → Fewer (length text) (next size text)
unfolding next
next_fewer size text = behind_fewer size (length text) (behind_gap between text) (gap_leaves between text)

pub next_shorter : (size : ℕ) (text rest : List ℕ) (t : Token) → next size text ≡ found t rest → length rest < length text
next_shorter size text rest t e = subst (Fewer (length text)) e (next_fewer size text)

-- so a text has at most as many tokens as characters
pub reads_few : (size : ℕ) (ts : List Token) (end : Option FaultAt) (text : List ℕ) → Reads size ts end text → length ts ≤ length text
reads_few size [] end text h = omega arith
reads_few size (t ∷ ts) end text h = omega (arith, next_shorter size text h.0 t h.1, reads_few size ts end h.0 h.2)

mark_shorter : (b : Bool) (c : ℕ) (cs : List ℕ) → length (cond b cs (c ∷ cs)) ≤ length (c ∷ cs)
mark_shorter true c cs = omega arith
mark_shorter false c cs = omega arith

unmarked_shorter : (text : List ℕ) → length (behind_mark text) ≤ length text
unmarked_shorter [] = omega arith
unmarked_shorter (c ∷ cs) = mark_shorter (c == 0xFEFF) c cs

-- and as bytes
pub few_tokens : (ts : List Token) (text : List ℕ) → IsSpelled ts text → length ts ≤ byte_count text
few_tokens ts text h = omega (arith, reads_few (byte_count text) ts None (behind_mark text) (spelled_read ts text h), unmarked_shorter text, length-le-encodes text, byte_count-encodes text)
