-- The tokens of a text stand one behind another, and a text begins with one token at most.
use Rattle.std.proofs.Common.{◌≡◌, ℕ, ◌+◌, ◌<◌, ◌≤◌, List, [], ◌∷◌, ◌++◌, length, Option, Some, None, Result, Ok, Err, refl, sym, ap, ◌∙◌, subst, arith, ◌==◌, Bool, true, false, cond, inl, inr}
use Rattle.std.specs.Prelude.{◌⊎◌}
use Rattle.std.specs.Char.{len_utf8}
use Rattle.std.proofs.lemmas.List.{length-append, append_cancel_right}
use Rattle.std.proofs.lemmas.List.Sums.{sum_by-append, sum_by-cons}
use Rattle.std.proofs.lemmas.Str.{length-le-encodes}
use Rattle.scheme_tokens.specs.Lexical.{byte_count, TokenKind, Atomic, Name, IsToken, Token, First, IsSpelledFrom, Ends, is_inside, mark_bytes, behind_mark}
use Rattle.scheme_tokens.specs.Faults.{FaultAt}
use Rattle.scheme_tokens.specs.Spelling.{barred, IsSpelling}
use Rattle.scheme_tokens.specs.Stopping.{Begins, IsRead}
use Rattle.scheme_tokens.specs.Apart.{AreApart}
use Rattle.scheme_tokens.specs.Mirror.Tokens as mirror
use Rattle.scheme_tokens.specs.Mirror.Quoted.{Fault}
use Rattle.scheme_tokens.proofs.Fronts.{byte_count-encodes}
use Rattle.scheme_tokens.proofs.QuotedLengths.{Rests}
use Rattle.scheme_tokens.proofs.TokenLengths.{token_rests}
use Rattle.scheme_tokens.proofs.Same.TokensRead.{token_read}
use Rattle.scheme_tokens.proofs.Same.Spelling.{spelled_back, barred_token}

-- ---- a token takes some bytes

no_token : (k : TokenKind) (rest : List ℕ) → mirror.token [] ≡ Ok (k, rest) → ⊥
unfolding mirror.token
no_token k rest h = cc

some_glyphs : (k : TokenKind) (glyphs rest text : List ℕ) → glyphs ++ rest ≡ text → mirror.token text ≡ Ok (k, rest) → 0 < length glyphs
some_glyphs k glyphs rest [] e h = absurd (no_token k rest h)
some_glyphs k glyphs rest (c ∷ cs) e h =
    let fewer : length rest ≤ length cs = subst (Rests (length cs)) h (token_rests c cs) in
    omega (arith, fewer, length-append glyphs rest, ap length e)

token_bytes : (k : TokenKind) (glyphs rest : List ℕ) → IsToken k glyphs rest → 0 < byte_count glyphs
token_bytes k glyphs rest h =
    omega (arith, some_glyphs k glyphs rest (glyphs ++ rest) refl (token_read k glyphs rest h), length-le-encodes glyphs, byte_count-encodes glyphs)

-- ---- tokens one behind another

ends_behind : (at : ℕ) (t : Token) (text : List ℕ) (first : First at t text) → (at ≤ t.start) × (t.start < t.end) × (t.end + byte_count first.rest ≡ at + byte_count text)
ends_behind at t text first =
    let some = token_bytes t.kind first.glyphs first.rest first.token in
    let whole : byte_count text ≡ byte_count first.gap + (byte_count first.glyphs + byte_count first.rest) =
    ap byte_count first.whole ∙ sum_by-append len_utf8 first.gap (first.glyphs ++ first.rest) ∙ ap (λ (n : ℕ). byte_count first.gap + n) (sum_by-append len_utf8 first.glyphs first.rest) in
    (omega (arith, first.starts), omega (arith, first.ends, some), omega (arith, first.starts, first.ends, whole))

spelled_apart : (at : ℕ) (ts : List Token) (text : List ℕ) → IsSpelledFrom at ts text → AreApart at ts (at + byte_count text)
spelled_apart at [] text h = omega arith
spelled_apart at (t ∷ ts) text h =
    let e = ends_behind at t text h.0 in
    (e.0, e.1, subst (λ (to : ℕ). AreApart t.end ts to) e.2 (spelled_apart t.end ts h.0.rest h.1))

begun_apart : (at : ℕ) (ts : List Token) (text : List ℕ) (place : ℕ) (rest : List ℕ) → Begins at ts text place rest → AreApart at ts (at + byte_count text)
begun_apart at [] text place rest h = omega arith
begun_apart at (t ∷ ts) text place rest h =
    let e = ends_behind at t text h.0 in
    (e.0, e.1, subst (λ (to : ℕ). AreApart t.end ts to) e.2 (begun_apart t.end ts h.0.rest place rest h.1))

apart_from : (low at to : ℕ) (ts : List Token) → low ≤ at → AreApart at ts to → AreApart low ts to
apart_from low at to [] h a = omega arith
apart_from low at to (t ∷ ts) h a = (omega (arith, h, a.0), a.1, a.2)

mark_whole : (text : List ℕ) → mark_bytes text + byte_count (behind_mark text) ≡ byte_count text
mark_whole [] = refl
mark_whole (c ∷ cs) = go (c == 0xFEFF) refl
  where
    go : (b : Bool) → (c == 0xFEFF) ≡ b → cond b 3 0 + byte_count (cond b cs (c ∷ cs)) ≡ byte_count (c ∷ cs)
    go true e = sym (sum_by-cons len_utf8 0xFEFF cs) ∙ ap (λ (n : ℕ). byte_count (n ∷ cs)) (sym (is_mark e))
      where
        is_mark : (c == 0xFEFF) ≡ true → c ≡ 0xFEFF
        is_mark h = grind (arith)
    go false e = omega arith

pub tokens_apart : (text : List ℕ) (ts : List Token) (end : Option FaultAt) → IsRead ts end text → AreApart 0 ts (byte_count text)
tokens_apart text ts None h =
    apart_from 0 (mark_bytes text) (byte_count text) ts (omega arith) (subst (λ (to : ℕ). AreApart (mark_bytes text) ts to) (mark_whole text) (spelled_apart (mark_bytes text) ts (behind_mark text) h))
tokens_apart text ts (Some f) h =
    apart_from 0 (mark_bytes text) (byte_count text) ts (omega arith)
    (subst (λ (to : ℕ). AreApart (mark_bytes text) ts to) (mark_whole text) (begun_apart (mark_bytes text) ts (behind_mark text) h.place (h.gap ++ (h.begun ++ h.behind)) h.tokens))

-- ---- the first token

abbrev answer : TokenKind → List ℕ → Result (TokenKind × List ℕ) Fault
answer k r = Ok (k, r)

told_once : (k j : TokenKind) (r s : List ℕ) → answer k r ≡ answer j s → (k ≡ j) × (r ≡ s)
told_once k j r s h = (ap (kind_in k) h, ap (rest_in r) h)
  where
    kind_in : TokenKind → Result (TokenKind × List ℕ) Fault → TokenKind
    kind_in k (Ok p) = p.0
    kind_in k (Err e) = k

    rest_in : List ℕ → Result (TokenKind × List ℕ) Fault → List ℕ
    rest_in r (Ok p) = p.1
    rest_in r (Err e) = r

pub one_first : (k j : TokenKind) (glyphs others rest behind : List ℕ) → glyphs ++ rest ≡ others ++ behind → IsToken k glyphs rest → IsToken j others behind → (k ≡ j) × (glyphs ≡ others)
one_first k j glyphs others rest behind e h l =
    let told = told_once k j rest behind (sym (token_read k glyphs rest h) ∙ ap mirror.token e ∙ token_read j others behind l) in
    (told.0, append_cancel_right glyphs others rest (e ∙ ap (λ (q : List ℕ). others ++ q) (sym told.1)))

-- ---- a name that is written, before more

before_more : (name text rest : List ℕ) (b : Bool) → IsToken (Atomic (Name name b)) text [] → (b ≡ true) ⊎ Ends is_inside rest → IsToken (Atomic (Name name b)) text rest
before_more name text rest true h k = h
before_more name text rest false h (inl e) = cc
before_more name text rest false h (inr e) = (h.0, h.1, h.2, (h.3.0, e))

pub spelled_before : (name text rest : List ℕ) (bars : Bool) → IsSpelling name bars text → (text ≡ barred name) ⊎ Ends is_inside rest → (b : Bool) × IsToken (Atomic (Name name b)) text rest
spelled_before name text rest bars h (inr e) = let back = spelled_back name text bars h in (back.0, before_more name text rest back.0 back.1 (inr e))
spelled_before name text rest bars h (inl e) = (true, before_more name text rest true (barred_token name text e) (inl refl))
