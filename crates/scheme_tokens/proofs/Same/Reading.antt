-- The code reads a text as tokens exactly where the text is these tokens with intertoken space.
use Rattle.std.proofs.Common.{◌≡◌, ℕ, ◌+◌, List, [], ◌∷◌, ◌++◌, Some, None, Result, Ok, Err, Bool, true, false, cond, refl, sym, ap, ◌∙◌, subst, append-nil, arith, ◌==◌}
use Rattle.std.specs.Char.{is_whitespace, len_utf8}
use Rattle.std.proofs.lemmas.Bool.{cond-false, and_parts, or_left, eqb-true, false_from_ne_true}
use Rattle.std.proofs.lemmas.List.Sums.{sum_by-append, sum_by-cons}
use Rattle.scheme_tokens.specs.Lexical.{is_delimiter, byte_count, is_inside, IsSpace, TokenKind, Atomic, Name, IsToken, Token, First, IsSpelledFrom, mark_bytes, behind_mark, IsSpelled, IsIdentifier}
use Rattle.scheme_tokens.specs.Faults.{Fault}
use Rattle.scheme_tokens.specs.Mirror.Words.{word_of, behind_word, is_numeral}
use Rattle.scheme_tokens.specs.Mirror.Gaps.{between, behind_gap, opens}
use Rattle.scheme_tokens.specs.Mirror.Tokens.{token, word_token, word_kind, hash_token, hash_kind, before}
use Rattle.scheme_tokens.specs.Mirror.Reading as mirror
use Rattle.scheme_tokens.specs.Mirror.Reading.{place, Next, found, ended, next_token, at_front, next_behind, next, fault_at, Reads}
use Rattle.scheme_tokens.proofs.GapLaws.{between_none, between_token}
use Rattle.scheme_tokens.proofs.TokenLaws.{word_kind-none}
use Rattle.scheme_tokens.proofs.Same.Gaps.{space_passed}
use Rattle.scheme_tokens.proofs.Same.GapsFound.{Ended, gap_told}
use Rattle.scheme_tokens.proofs.Same.Tokens as tokens
use Rattle.scheme_tokens.proofs.Same.Tokens.{token_told}
use Rattle.scheme_tokens.proofs.Same.TokensRead.{word_first, token_read}

-- ---- no space stands where a token is read

pub no_token : (r : Result (TokenKind × List ℕ) Fault) (f : Fault) (t : TokenKind × List ℕ) → r ≡ Err f → r ≡ Ok t → ⊥
no_token r f t e h = cc

-- where a delimiter stands first no word does
none_kind : (c : ℕ) (cs : List ℕ) (t : TokenKind × List ℕ) (r : Result TokenKind Fault) → ((k : TokenKind) → r ≡ Ok k → ⊥) → before cs r ≡ Ok t → ⊥
none_kind c cs t (Ok k) h e = h k refl
none_kind c cs t (Err f) h e = cc

at_delimiter : (c : ℕ) (cs : List ℕ) (t : TokenKind × List ℕ) → is_inside c ≡ false → word_token (c ∷ cs) ≡ Ok t → ⊥
at_delimiter c cs t h e =
    none_kind c (behind_word (c ∷ cs)) t (word_kind (word_of (c ∷ cs))) (λ k f. word_kind-none (word_of (c ∷ cs)) k (cond-false (is_inside c) (c ∷ word_of cs) [] h) f) e

white_outside : (c : ℕ) → is_whitespace c ≡ true → is_inside c ≡ false
unfolding is_delimiter
white_outside c h = ap (λ (b : Bool). cond b false true) (or_left (is_whitespace c) _ h)

semicolon_outside : (c : ℕ) → (c == 59) ≡ true → is_inside c ≡ false
unfolding is_delimiter
semicolon_outside c h = ap is_inside (eqb-true c 59 h)

pub not_white : (c : ℕ) (cs : List ℕ) (t : TokenKind × List ℕ) → token (c ∷ cs) ≡ Ok t → is_whitespace c ≡ false
not_white c cs t h = false_from_ne_true (is_whitespace c) (λ e. at_delimiter c cs t (white_outside c e) (sym (word_first is_whitespace c cs e refl) ∙ h))

pub not_semicolon : (c : ℕ) (cs : List ℕ) (t : TokenKind × List ℕ) → token (c ∷ cs) ≡ Ok t → (c == 59) ≡ false
not_semicolon c cs t h = false_from_ne_true (c == 59) (λ e. at_delimiter c cs t (semicolon_outside c e) (sym (word_first (λ q. q == 59) c cs e refl) ∙ h))

pub comment_no_token : (cs : List ℕ) → token (35 ∷ 124 ∷ cs) ≡ Err Fault.bad_token
unfolding token hash_token hash_kind is_delimiter is_numeral
comment_no_token cs = refl

pub not_opening : (c d : ℕ) (cs ds : List ℕ) (t : TokenKind × List ℕ) → token (c ∷ cs) ≡ Ok t → cs ≡ d ∷ ds → opens c d ≡ false
not_opening c d cs ds t h e = false_from_ne_true (opens c d) (λ o.
    let parts = and_parts (c == 35) (d == 124) o in
    no_token (token (c ∷ cs)) Fault.bad_token t ((λ i. token (eqb-true c 35 parts.0 i ∷ (e ∙ ap (λ (q : ℕ). q ∷ ds) (eqb-true d 124 parts.1)) i)) ∙ comment_no_token ds) h)

pub none_token : token [] ≡ Err Fault.bad_token
unfolding token
none_token = refl

pub token_here : (text : List ℕ) (t : TokenKind × List ℕ) → token text ≡ Ok t → behind_gap between text ≡ Ok text
token_here [] t h = between_none
token_here (c ∷ cs) t h = between_token c (c ∷ cs) cs refl (not_white c cs t h) (not_semicolon c cs t h) (λ d ds e. not_opening c d cs ds t h e)

-- ---- what comes next

pub byte_count-append : (cs ds : List ℕ) → byte_count (cs ++ ds) ≡ byte_count cs + byte_count ds
byte_count-append cs ds = sum_by-append len_utf8 cs ds

-- what comes next in a text that begins at a place
abbrev pub NextTold : ℕ → ℕ → List ℕ → Next → Type 0
NextTold at size text (found t rest) = (first : First at t text) × (first.rest ≡ rest) × (t.end + byte_count rest ≡ size)
NextTold at size text (ended None) = IsSpace text []
NextTold at size text (ended (Some f)) = Unit {0}

-- a text that begins at a place: the bytes before it and its own are those of all
pub two_counts : (at size : ℕ) (text front : List ℕ) (gap : List ℕ) → at + byte_count text ≡ size → text ≡ gap ++ front → place size front ≡ at + byte_count gap
two_counts at size text front gap e w =
    let sum = byte_count-append gap front in
    let whole = ap byte_count w in
    omega (arith, e, sum, whole)

pub end_count : (at size : ℕ) (text front glyphs rest gap : List ℕ) → at + byte_count text ≡ size → text ≡ gap ++ front → front ≡ glyphs ++ rest → place size rest ≡ place size front + byte_count glyphs
end_count at size text front glyphs rest gap e w v =
    let sum = byte_count-append gap front in
    let whole = ap byte_count w in
    let more = byte_count-append glyphs rest in
    let part = ap byte_count v in
    omega (arith, e, sum, whole, more, part)

pub rest_count : (at size : ℕ) (text front glyphs rest gap : List ℕ) → at + byte_count text ≡ size → text ≡ gap ++ front → front ≡ glyphs ++ rest → place size rest + byte_count rest ≡ size
rest_count at size text front glyphs rest gap e w v =
    let sum = byte_count-append gap front in
    let whole = ap byte_count w in
    let more = byte_count-append glyphs rest in
    let part = ap byte_count v in
    omega (arith, e, sum, whole, more, part)

token_next : (at size : ℕ) (text front gap : List ℕ) (r : Result (TokenKind × List ℕ) Fault) → at + byte_count text ≡ size → text ≡ gap ++ front → IsSpace gap front → tokens.Told front r → NextTold at size text (next_token size front r)
token_next at size text front gap (Ok t) e w s told = (
  record {
    gap = gap;
    glyphs = told.0;
    rest = t.1;
    whole = w ∙ ap (λ (q : List ℕ). gap ++ q) told.1;
    space = subst (IsSpace gap) told.1 s;
    token = told.2;
    starts = two_counts at size text front gap e w;
    ends = end_count at size text front told.0 t.1 gap e w told.1;
  },
  refl,
  rest_count at size text front told.0 t.1 gap e w told.1,
)
token_next at size text front gap (Err f) e w s told = tt

front_next : (at size : ℕ) (text front gap : List ℕ) → at + byte_count text ≡ size → text ≡ gap ++ front → IsSpace gap front → NextTold at size text (at_front size front)
front_next at size text [] gap e w s = subst (λ (q : List ℕ). IsSpace q []) (sym (w ∙ append-nil gap)) s
front_next at size text (c ∷ cs) gap e w s = token_next at size text (c ∷ cs) gap (token (c ∷ cs)) e w s (token_told (c ∷ cs))

behind_next : (at size : ℕ) (text : List ℕ) (r : Result (List ℕ) (List ℕ)) → at + byte_count text ≡ size → Ended text r → NextTold at size text (next_behind size r)
behind_next at size text (Ok front) e told =
    let s = told.0 in
    front_next at size text front s.0 e s.1 s.2
behind_next at size text (Err start) e told = tt

pub next_told : (at size : ℕ) (text : List ℕ) → at + byte_count text ≡ size → NextTold at size text (next size text)
unfolding next
next_told at size text e = behind_next at size text (behind_gap between text) e (gap_told between text)

-- ---- a first token is what comes next

front_read : (size : ℕ) (front : List ℕ) (t : TokenKind × List ℕ) → token front ≡ Ok t → at_front size front ≡ next_token size front (Ok t)
front_read size [] t h = absurd (no_token (token []) Fault.bad_token t none_token h)
front_read size (c ∷ cs) t h = ap (next_token size (c ∷ cs)) h

next_read : (size : ℕ) (text gap front : List ℕ) (t : TokenKind × List ℕ) → text ≡ gap ++ front → IsSpace gap front → token front ≡ Ok t → next size text ≡ next_token size front (Ok t)
unfolding next
next_read size text gap front t w s h =
    ap (λ (q : List ℕ). next_behind size (behind_gap between q)) w ∙ ap (next_behind size) (space_passed s ∙ token_here front t h) ∙ front_read size front t h

pub first_next : (at size : ℕ) (t : Token) (text : List ℕ) → at + byte_count text ≡ size → (first : First at t text) → (next size text ≡ found t first.rest) × (t.end + byte_count first.rest ≡ size)
first_next at size t text e first =
    let front = first.glyphs ++ first.rest in
    let start = two_counts at size text front first.gap e first.whole in
    let stop = end_count at size text front first.glyphs first.rest first.gap e first.whole refl in (
      next_read size text first.gap front (t.kind, first.rest) first.whole first.space (token_read t.kind first.glyphs first.rest first.token)
          ∙ (λ i. found (record { kind = t.kind; start = (start ∙ sym first.starts) i; end = (stop ∙ ap (λ (n : ℕ). n + byte_count first.glyphs) (start ∙ sym first.starts) ∙ sym first.ends) i }) first.rest),
      ap (λ (n : ℕ). n + byte_count first.rest) (first.ends ∙ ap (λ (n : ℕ). n + byte_count first.glyphs) (first.starts ∙ sym start) ∙ sym stop)
          ∙ rest_count at size text front first.glyphs first.rest first.gap e first.whole refl,
    )

pub space_next : (size : ℕ) (text : List ℕ) → IsSpace text [] → next size text ≡ ended None
unfolding next
space_next size text s = ap (λ (q : List ℕ). next_behind size (behind_gap between q)) (sym (append-nil text)) ∙ ap (next_behind size) (space_passed s ∙ between_none)

-- ---- texts

pub spelled_reads : (at size : ℕ) (ts : List Token) (text : List ℕ) → at + byte_count text ≡ size → IsSpelledFrom at ts text → Reads size ts None text
spelled_reads at size [] text e h = space_next size text h
spelled_reads at size (t ∷ ts) text e h =
    let step = first_next at size t text e h.0 in
    (h.0.rest, step.0, spelled_reads t.end size ts h.0.rest step.1 h.1)

pub reads_spelled : (at size : ℕ) (ts : List Token) (text : List ℕ) → at + byte_count text ≡ size → Reads size ts None text → IsSpelledFrom at ts text
reads_spelled at size [] text e h = subst (NextTold at size text) h (next_told at size text e)
reads_spelled at size (t ∷ ts) text e h =
    let told = subst (NextTold at size text) h.1 (next_told at size text e) in
    (told.0, subst (IsSpelledFrom t.end ts) (sym told.1) (reads_spelled t.end size ts h.0 told.2 h.2))

marked_when : (c : ℕ) (cs : List ℕ) (b : Bool) → (c == 0xFEFF) ≡ b → cond b 3 0 + byte_count (cond b cs (c ∷ cs)) ≡ byte_count (c ∷ cs)
marked_when c cs true e = sym (ap (λ (q : ℕ). byte_count (q ∷ cs)) (eqb-true c 0xFEFF e) ∙ sum_by-cons len_utf8 0xFEFF cs)
marked_when c cs false e = omega arith

pub mark_counted : (text : List ℕ) → mark_bytes text + byte_count (behind_mark text) ≡ byte_count text
mark_counted [] = omega arith
mark_counted (c ∷ cs) = marked_when c cs (c == 0xFEFF) refl

-- a text is these tokens exactly where the code reads them
pub spelled_read : (ts : List Token) (text : List ℕ) → IsSpelled ts text → mirror.IsSpelled ts text
spelled_read ts text h = spelled_reads (mark_bytes text) (byte_count text) ts (behind_mark text) (mark_counted text) h

pub read_spelled : (ts : List Token) (text : List ℕ) → mirror.IsSpelled ts text → IsSpelled ts text
read_spelled ts text h = reads_spelled (mark_bytes text) (byte_count text) ts (behind_mark text) (mark_counted text) h

-- ---- one identifier

pub same_kind : (k : TokenKind) (rest : List ℕ) (r : Result (TokenKind × List ℕ) Fault) → tokens.Told rest r → r ≡ Ok (k, []) → IsToken k rest []
same_kind k rest r told e = let t = subst (tokens.Told rest) e told in subst (λ (q : List ℕ). IsToken k q []) (sym (t.1 ∙ append-nil t.0)) t.2

pub identifier_told : (name text : List ℕ) → mirror.IsIdentifier name text → IsIdentifier name text
identifier_told name text h = (h.0, same_kind (Atomic (Name name h.0)) text (token text) (token_told text) h.1)

pub identifier_read : (name text : List ℕ) → IsIdentifier name text → mirror.IsIdentifier name text
identifier_read name text h = (h.0, ap token (sym (append-nil text)) ∙ token_read (Atomic (Name name h.0)) text [] h.1)
