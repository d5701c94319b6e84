-- Each text is read as tokens up to its end, or stops.
use Rattle.std.proofs.Common.{◌≡◌, ℕ, zero, suc, ◌≤◌, length, List, [], ◌∷◌, Option, refl, arith}
use Rattle.scheme_tokens.specs.Lexical.{byte_count, Token, behind_mark}
use Rattle.scheme_tokens.specs.Faults.{FaultAt}
use Rattle.scheme_tokens.specs.Stopping.{IsRead}
use Rattle.scheme_tokens.specs.Mirror.Reading.{Next, found, ended, next, Reads}
use Rattle.scheme_tokens.proofs.Readings.{is_read}
use Rattle.scheme_tokens.proofs.TokenCounts.{next_shorter}

read_when : (most size : ℕ) (text : List ℕ) (n : Next) → next size text ≡ n → length text ≤ suc most → ((rest : List ℕ) → length rest ≤ most → (ts : List Token) × (end : Option FaultAt) × Reads size ts end rest) →
    (ts : List Token) × (end : Option FaultAt) × Reads size ts end text
read_when most size text (ended end) e h more = ([], end, e)
read_when most size text (found t rest) e h more =
    let r = more rest (omega (arith, next_shorter size text rest t e)) in
    (t ∷ r.0, r.1, (rest, e, r.2))

read_none : (size : ℕ) (text : List ℕ) (n : Next) → next size text ≡ n → length text ≤ 0 → (ts : List Token) × (end : Option FaultAt) × Reads size ts end text
read_none size text (ended end) e h = ([], end, e)
read_none size text (found t rest) e h = absurd (omega (arith, next_shorter size text rest t e))

read_most : (most size : ℕ) (text : List ℕ) → length text ≤ most → (ts : List Token) × (end : Option FaultAt) × Reads size ts end text
read_most zero size text h = read_none size text (next size text) refl h
read_most (suc most) size text h = read_when most size text (next size text) refl h (read_most most size)

pub every_text : (text : List ℕ) → (ts : List Token) × (end : Option FaultAt) × IsRead ts end text
every_text text =
    let body = behind_mark text in
    let r = read_most (length body) (byte_count text) body (omega arith) in
    (r.0, r.1, is_read r.0 r.1 text r.2)
