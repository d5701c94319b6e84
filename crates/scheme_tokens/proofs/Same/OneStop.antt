-- A text stops in one way, and there the code stops reading.
use Rattle.std.proofs.Common.{◌≡◌, ℕ, ◌+◌, ◌≤◌, List, [], ◌∷◌, ◌++◌, length, Some, None, Result, Ok, Err, true, false, refl, sym, ap, ◌∙◌, subst, append_assoc, append-nil, arith, ◌==◌, ◌⊎◌, inl, inr}
use Rattle.std.specs.Prelude.{codes}
use Rattle.std.specs.List.{list_all}
use Rattle.std.specs.Char.{is_whitespace}
use Rattle.scheme_tokens.specs.Lexical.{is_delimiter, Ends, is_inside, byte_count, is_mark, IsNested, IsSpace, TokenKind, Atomic, Truth, IsToken, Token, First, IsSpelledFrom, mark_bytes, behind_mark, IsSpelled}
use Rattle.std.proofs.lemmas.Bool.{false_from_ne_true, and_parts, eqb-true}
use Rattle.std.proofs.lemmas.List.{append_cancel_right, append_cancel_left, length-append}
use Rattle.scheme_tokens.specs.Faults.{Fault, bad_token, open_string, open_bar, open_comment, label, directive, FaultAt}
use Rattle.scheme_tokens.specs.Stopping.{CanGoOn, StopsBetween, Begins, IsBegun, because, RunsOn, IsShown, IsStop}
use Rattle.scheme_tokens.specs.Mirror.Words.{front_of}
use Rattle.scheme_tokens.specs.Mirror.Gaps.{between, block, opens, behind_gap}
use Rattle.scheme_tokens.specs.Mirror.Tokens.{token}
use Rattle.scheme_tokens.specs.Mirror.Reading.{Next, found, ended, next, Reads}
use Rattle.scheme_tokens.proofs.GapLaws.{nested_step}
use Rattle.scheme_tokens.proofs.TokenLengths.{token_rests}
use Rattle.scheme_tokens.proofs.QuotedLengths.{Rests}
use Rattle.scheme_tokens.proofs.Same.Ends.{front-all, EndsLike, like_nothing, like_first, like_behind}
use Rattle.scheme_tokens.proofs.Same.Gaps.{space_passed}
use Rattle.scheme_tokens.proofs.Same.GapsFound.{Dark, dark_gap, target, Told, gap_told}
use Rattle.scheme_tokens.proofs.Same.TokensRead.{token_read}
use Rattle.scheme_tokens.proofs.Same.Reading.{no_token, none_token, token_here, comment_no_token, not_white, not_semicolon, not_opening, first_next, NextTold, next_told, mark_counted}
use Rattle.scheme_tokens.proofs.Same.Scanned.{cons_head, cons_tail, cons_none, two_fronts}
use Rattle.scheme_tokens.proofs.Same.Frames.{space_frame, space_joined, token_frame, begins_fronted, begins_spelled, mark_split}
use Rattle.scheme_tokens.proofs.Same.Stops.{regroup, like_text, like_same, one_token, comment_space, begins_reads, read_stops}

-- ---- nested comments

true_false : true ≡ false → ⊥
true_false e = cc

two_tails : (cs ds es fs : List ℕ) → 35 ∷ 124 ∷ (cs ++ ds) ≡ 35 ∷ 124 ∷ (es ++ fs) → cs ++ ds ≡ es ++ fs
two_tails cs ds es fs e = cc

marked : (c d : ℕ) → (c ≡ 35) × (d ≡ 124) ⊎ (c ≡ 124) × (d ≡ 35) → is_mark c d ≡ false → ⊥
marked c d (inl h) k = true_false ((λ i. is_mark (sym h.0 i) (sym h.1 i)) ∙ k)
marked c d (inr h) k = true_false ((λ i. is_mark (sym h.0 i) (sym h.1 i)) ∙ k)

-- a text begins with one comment at most
nested_once : {cs : List ℕ} → IsNested cs → {es : List ℕ} → IsNested es → (ds fs : List ℕ) → cs ++ ds ≡ es ++ fs → cs ≡ es
nested_once IsNested.closed IsNested.closed ds fs e = refl
nested_once IsNested.closed (IsNested.plain c d es apart more) ds fs e =
    absurd (marked c d (inr (sym (cons_head 124 c (35 ∷ ds) (d ∷ es ++ fs) e), sym (cons_head 35 d ds (es ++ fs) (cons_tail 124 c (35 ∷ ds) (d ∷ es ++ fs) e)))) apart)
nested_once IsNested.closed (IsNested.inner es gs first more) ds fs e = cc
nested_once (IsNested.plain c d cs apart more) IsNested.closed ds fs e =
    absurd (marked c d (inr (cons_head c 124 (d ∷ cs ++ ds) (35 ∷ fs) e, cons_head d 35 (cs ++ ds) fs (cons_tail c 124 (d ∷ cs ++ ds) (35 ∷ fs) e))) apart)
nested_once (IsNested.plain c d cs apart more) (IsNested.plain g h es other rest) ds fs e =
    (λ i. cons_head c g (d ∷ cs ++ ds) (h ∷ es ++ fs) e i ∷ nested_once more rest ds fs (cons_tail c g (d ∷ cs ++ ds) (h ∷ es ++ fs) e) i)
nested_once (IsNested.plain c d cs apart more) (IsNested.inner es gs first rest) ds fs e =
    absurd (marked c d (inl (cons_head c 35 (d ∷ cs ++ ds) (124 ∷ ((es ++ gs) ++ fs)) e, cons_head d 124 (cs ++ ds) ((es ++ gs) ++ fs) (cons_tail c 35 (d ∷ cs ++ ds) (124 ∷ ((es ++ gs) ++ fs)) e))) apart)
nested_once (IsNested.inner cs hs first more) IsNested.closed ds fs e = cc
nested_once (IsNested.inner cs hs first more) (IsNested.plain c d es apart rest) ds fs e =
    absurd (marked c d (inl (sym (cons_head 35 c (124 ∷ ((cs ++ hs) ++ ds)) (d ∷ es ++ fs) e), sym (cons_head 124 d ((cs ++ hs) ++ ds) (es ++ fs) (cons_tail 35 c (124 ∷ ((cs ++ hs) ++ ds)) (d ∷ es ++ fs) e)))) apart)
nested_once (IsNested.inner cs hs first more) (IsNested.inner es gs second rest) ds fs e =
    let whole = sym (append_assoc cs hs ds) ∙ two_tails (cs ++ hs) ds (es ++ gs) fs e ∙ append_assoc es gs fs in
    let same = nested_once first second (hs ++ ds) (gs ++ fs) whole in
    let tail = append_cancel_left es (hs ++ ds) (gs ++ fs) (ap (λ (q : List ℕ). q ++ (hs ++ ds)) (sym same) ∙ whole) in
    (λ i. 35 ∷ 124 ∷ (same i ++ nested_once more rest ds fs tail i))

-- ---- nothing is spelled behind a stop

no_spelling : (before behind : List ℕ) → StopsBetween before behind → (us : List Token) → IsSpelled us (before ++ behind) → ⊥
no_spelling before [] h us k = h.1 us (subst (IsSpelled us) (append-nil before) k)
no_spelling before (c ∷ cs) h us k = h.1 (cs, us, subst (IsSpelled us) (sym (append_assoc before (c ∷ []) cs)) k)

can_go_on : (before behind : List ℕ) → StopsBetween before behind → CanGoOn before
can_go_on before [] h = h.0
can_go_on before (c ∷ cs) h = h.0

-- no longer front of the text can go on
no_longer : (before behind others : List ℕ) (c : ℕ) (cs : List ℕ) → StopsBetween before behind → behind ≡ c ∷ (cs ++ others) → CanGoOn (before ++ c ∷ cs) → ⊥
no_longer before [] others c cs h e k = cons_none c (cs ++ others) (sym e)
no_longer before (b ∷ bs) others c cs h e k =
    h.1 (cs ++ k.0, k.1, subst (IsSpelled k.1) (append_assoc before (c ∷ cs) k.0 ∙ ap (λ (q : ℕ). before ++ q ∷ (cs ++ k.0)) (sym (cons_head b c bs (cs ++ others) e)) ∙ sym (append_assoc before (b ∷ []) (cs ++ k.0))) k.2)

one_place_when : (before behind others rest z : List ℕ) → StopsBetween before behind → CanGoOn others → others ≡ before ++ z → behind ≡ z ++ rest → others ≡ before
one_place_when before behind others rest [] h k e f = e ∙ append-nil before
one_place_when before behind others rest (c ∷ cs) h k e f = absurd (no_longer before behind rest c cs h f (subst CanGoOn e k))

-- a text stops at one place
one_place : (before behind others rest : List ℕ) → StopsBetween before behind → StopsBetween others rest → before ++ behind ≡ others ++ rest → before ≡ others
one_place before behind others rest h k e = elim (two_fronts before behind others rest e) [
  | inl z ↦ one_place_when others rest before behind z.0 k (can_go_on before behind h) z.1 (sym (append_cancel_left others (z.0 ++ behind) rest (sym (append_assoc others z.0 behind) ∙ ap (λ (q : List ℕ). q ++ behind) (sym z.1) ∙ e)))
  | inr z ↦ sym (one_place_when before behind others rest z.0 h (can_go_on others rest k) z.1 (append_cancel_left before behind (z.0 ++ rest) (e ∙ ap (λ (q : List ℕ). q ++ rest) z.1 ∙ append_assoc before z.0 rest)))
]

-- ---- the tokens before a stop

pub begins_counted : (at size : ℕ) (ts : List Token) (text : List ℕ) (place : ℕ) (rest : List ℕ) → at + byte_count text ≡ size → Begins at ts text place rest → place + byte_count rest ≡ size
begins_counted at size [] text place rest e h = (λ i. h.0 i + byte_count (h.1 i)) ∙ e
begins_counted at size (t ∷ ts) text place rest e h = begins_counted t.end size ts h.0.rest place rest (first_next at size t text e h.0).1 h.1

-- no space stands where a token is read
token_dark : (text : List ℕ) (t : TokenKind × List ℕ) → token text ≡ Ok t → Dark text
token_dark [] t h = tt
token_dark (c ∷ []) t h = (not_white c [] t h, not_semicolon c [] t h)
token_dark (c ∷ d ∷ ds) t h = (not_white c (d ∷ ds) t h, not_semicolon c (d ∷ ds) t h, not_opening c d (d ∷ ds) ds t h refl)

-- the gap before a text is nothing, or the text is a comment that isn't closed
abbrev Whole : List ℕ → Type 0
Whole text = (behind_gap between text ≡ Ok text) ⊎ (behind_gap between text ≡ Err text)

unclosed : (m : ℕ) (cs more : List ℕ) → IsNested (cs ++ m ∷ more) → (r : Result (List ℕ) (List ℕ)) → Told (block (35 ∷ 124 ∷ cs) 0) cs r → r ≡ Err (35 ∷ 124 ∷ cs)
unclosed m cs more h r (inl p) =
    let one = nested_once p.3 h (p.1 ++ m ∷ more) [] (sym (append_assoc p.0 p.1 (m ∷ more)) ∙ ap (λ (q : List ℕ). q ++ m ∷ more) (sym p.2) ∙ sym (append-nil (cs ++ m ∷ more))) in
    absurd (omega (arith, ap length one, ap length p.2, length-append p.0 p.1, length-append cs (m ∷ more)))
unclosed m cs more h r (inr o) = o.0

comment_whole : (m : ℕ) (cs more : List ℕ) → IsNested (cs ++ m ∷ more) → Whole ((35 ∷ 124 ∷ cs) ++ [])
comment_whole m cs more h =
    subst Whole (sym (append-nil (35 ∷ 124 ∷ cs))) (inr (nested_step cs ∙ unclosed m cs more h (behind_gap (block (35 ∷ 124 ∷ cs) 0) cs) (gap_told (block (35 ∷ 124 ∷ cs) 0) cs)))

rest_length : List ℕ → Result (TokenKind × List ℕ) Fault → ℕ
rest_length cs (Ok t) = length t.1
rest_length cs (Err g) = length cs

short_rest : (k j : TokenKind) (text cs ds : List ℕ) → token text ≡ Ok (k, cs) → token text ≡ Ok (j, ds) → length ds ≡ length cs
unfolding rest_length
short_rest k j text cs ds e f = ap (rest_length cs) (sym f ∙ e)

no_glyphs : (k : TokenKind) (rest : List ℕ) → token rest ≡ Ok (k, rest) → ⊥
no_glyphs k [] e = no_token (token []) bad_token (k, []) none_token e
no_glyphs k (c ∷ cs) e = let shorter : length (c ∷ cs) ≤ length cs = subst (Rests (length cs)) e (token_rests c cs) in absurd (omega arith)

-- ---- what is begun

-- no space and no token goes on behind what is begun
abbrev NoSpace : List ℕ → List ℕ → Type 0
NoSpace begun behind = (c : ℕ) (cs more : List ℕ) → behind ≡ c ∷ cs → IsSpace (begun ++ c ∷ more) [] → ⊥

abbrev NoToken : List ℕ → List ℕ → Type 0
NoToken begun behind = (c : ℕ) (cs more : List ℕ) (k : TokenKind) → behind ≡ c ∷ cs → IsToken k (begun ++ c ∷ more) [] → ⊥

inside_t : list_all is_inside (codes "#t") ≡ true
unfolding is_delimiter
inside_t = refl

semicolon_space : (c : ℕ) → (c == 59) ≡ true → IsSpace (c ∷ []) []
semicolon_space c e = subst (λ (q : ℕ). IsSpace (q ∷ []) []) (sym (eqb-true c 59 e)) (IsSpace.line [] [] [] refl tt (IsSpace.none []))

hash_token : (c : ℕ) → (c == 35) ≡ true → IsToken (Atomic (Truth true)) (c ∷ 116 ∷ []) []
hash_token c e = subst (λ (q : ℕ). IsToken (Atomic (Truth true)) (q ∷ 116 ∷ []) []) (sym (eqb-true c 35 e)) (inl refl, (inside_t, tt))

nothing_dark : (behind : List ℕ) → NoSpace [] behind → NoToken [] behind → Dark behind
nothing_dark [] space token = tt
nothing_dark (c ∷ []) space token =
    (false_from_ne_true (is_whitespace c) (λ e. space c [] [] refl (IsSpace.white c [] [] e (IsSpace.none []))), false_from_ne_true (c == 59) (λ e. space c [] [] refl (semicolon_space c e)))
nothing_dark (c ∷ d ∷ ds) space token = (
  false_from_ne_true (is_whitespace c) (λ e. space c (d ∷ ds) [] refl (IsSpace.white c [] [] e (IsSpace.none []))),
  false_from_ne_true (c == 59) (λ e. space c (d ∷ ds) [] refl (semicolon_space c e)),
  false_from_ne_true (opens c d) (λ e. token c (d ∷ ds) (116 ∷ []) (Atomic (Truth true)) refl (hash_token c (and_parts (c == 35) (d == 124) e).0)),
)

opened : (b c : ℕ) → opens b c ≡ true → IsSpace (b ∷ c ∷ 124 ∷ 35 ∷ []) []
opened b c e =
    let parts = and_parts (b == 35) (c == 124) e in
    subst (λ (q : List ℕ). IsSpace q []) (λ i. sym (eqb-true b 35 parts.0) i ∷ sym (eqb-true c 124 parts.1) i ∷ 124 ∷ 35 ∷ []) (comment_space (124 ∷ 35 ∷ []) IsNested.closed)

dark_first : (c : ℕ) (cs : List ℕ) → Dark (c ∷ cs) → (is_whitespace c ≡ false) × ((c == 59) ≡ false)
dark_first c [] h = h
dark_first c (d ∷ ds) h = (h.0, h.1)

token_begun_dark : (b : ℕ) (bs behind others : List ℕ) → Dark (b ∷ bs ++ others) → NoSpace (b ∷ bs) behind → Dark (b ∷ bs ++ behind)
token_begun_dark b [] [] others h space = dark_first b others h
token_begun_dark b [] (c ∷ cs) others h space =
    let first = dark_first b others h in
    (first.0, first.1, false_from_ne_true (opens b c) (λ e. space c cs (124 ∷ 35 ∷ []) refl (opened b c e)))
token_begun_dark b (d ∷ ds) behind others h space = h

token_whole : (begun more rest behind : List ℕ) (k : TokenKind) → IsToken k (begun ++ more) rest → NoSpace begun behind → NoToken begun behind → Whole (begun ++ behind)
token_whole [] more rest behind k t space token = inl (dark_gap behind (nothing_dark behind space token))
token_whole (b ∷ bs) more rest behind k t space token =
    let read = token_read k (b ∷ bs ++ more) rest t in
    let dark = subst Dark (append_assoc (b ∷ bs) more rest) (token_dark ((b ∷ bs ++ more) ++ rest) (k, rest) read) in
    inl (dark_gap (b ∷ bs ++ behind) (token_begun_dark b bs behind (more ++ rest) dark space))

begun_whole : {begun behind : List ℕ} → IsBegun begun behind → NoSpace begun behind → NoToken begun behind → Whole (begun ++ behind)
begun_whole (IsBegun.nothing behind) space token = inl (dark_gap behind (nothing_dark behind space token))
begun_whole (IsBegun.token begun more rest behind k t none) space token = token_whole begun more rest behind k t space token
begun_whole (IsBegun.comment m cs more h) space token = comment_whole m cs more h

-- ---- no token ends there

same_token : (begun behind glyphs rest : List ℕ) (k : TokenKind) → ((j : TokenKind) → IsToken j begun behind → ⊥) → begun ++ behind ≡ glyphs ++ rest → begun ≡ glyphs → IsToken k glyphs rest → ⊥
same_token begun behind glyphs rest k none e same t =
    let tail = append_cancel_left glyphs behind rest (ap (λ (q : List ℕ). q ++ behind) (sym same) ∙ e) in
    none k (subst (λ (q : List ℕ). IsToken k q behind) (sym same) (subst (IsToken k glyphs) (sym tail) t))

shorter_token : (begun behind more others glyphs rest : List ℕ) (j k : TokenKind) (y : ℕ) (ys : List ℕ) → IsToken j (begun ++ more) others → begun ++ behind ≡ glyphs ++ rest → begun ≡ glyphs ++ y ∷ ys → IsToken k glyphs rest → ⊥
shorter_token begun behind more others glyphs rest j k y ys u e same t =
    let tail = append_cancel_left glyphs (y ∷ ys ++ behind) rest (sym (append_assoc glyphs (y ∷ ys) behind) ∙ ap (λ (q : List ℕ). q ++ behind) (sym same) ∙ e) in
    let left = y ∷ ys ++ (more ++ others) in
    let here = token_frame k glyphs (y ∷ ys ++ behind) left (like_first y (ys ++ behind) (ys ++ (more ++ others))) (subst (IsToken k glyphs) (sym tail) t) in
    let text = append_assoc begun more others ∙ ap (λ (q : List ℕ). q ++ (more ++ others)) same ∙ append_assoc glyphs (y ∷ ys) (more ++ others) in
    let short = short_rest k j (glyphs ++ left) left others (token_read k glyphs left here) (ap token (sym text) ∙ token_read j (begun ++ more) others u) in
    omega (arith, short, length-append ys (more ++ others), length-append more others)

token_ends : (begun behind more others glyphs rest : List ℕ) (j k : TokenKind) → IsToken j (begun ++ more) others → ((i : TokenKind) → IsToken i begun behind → ⊥) → NoToken begun behind → begun ++ behind ≡ glyphs ++ rest → IsToken k glyphs rest →
    ((z : List ℕ) × (begun ≡ glyphs ++ z)) ⊎ ((z : List ℕ) × (glyphs ≡ begun ++ z)) → ⊥
token_ends begun behind more others glyphs rest j k u none token e t (inl ([], h)) = same_token begun behind glyphs rest k none e (h ∙ append-nil glyphs) t
token_ends begun behind more others glyphs rest j k u none token e t (inl (y ∷ ys, h)) = shorter_token begun behind more others glyphs rest j k y ys u e h t
token_ends begun behind more others glyphs rest j k u none token e t (inr ([], h)) = same_token begun behind glyphs rest k none e (sym (h ∙ append-nil begun)) t
token_ends begun behind more others glyphs rest j k u none token e t (inr (c ∷ cs, h)) =
    let tail = append_cancel_left begun behind (c ∷ cs ++ rest) (e ∙ ap (λ (q : List ℕ). q ++ rest) h ∙ append_assoc begun (c ∷ cs) rest) in
    token c (cs ++ rest) cs k tail (subst (λ (q : List ℕ). IsToken k q []) h (token_frame k glyphs rest [] (like_nothing rest) t))

nothing_ends : (behind glyphs rest : List ℕ) (k : TokenKind) → NoToken [] behind → behind ≡ glyphs ++ rest → IsToken k glyphs rest → ⊥
nothing_ends behind [] rest k token e t = no_glyphs k rest (token_read k [] rest t)
nothing_ends behind (g ∷ gs) rest k token e t = token g (gs ++ rest) gs k e (token_frame k (g ∷ gs) rest [] (like_nothing rest) t)

none_ends : {begun behind : List ℕ} → IsBegun begun behind → NoToken begun behind → (k : TokenKind) (glyphs rest : List ℕ) → begun ++ behind ≡ glyphs ++ rest → IsToken k glyphs rest → ⊥
none_ends (IsBegun.nothing behind) apart k glyphs rest e t = nothing_ends behind glyphs rest k apart e t
none_ends (IsBegun.token begun more others behind j u none) apart k glyphs rest e t = token_ends begun behind more others glyphs rest j k u none apart e t (two_fronts begun behind glyphs rest e)
none_ends (IsBegun.comment m cs more h) apart k glyphs rest e t = no_token (token (glyphs ++ rest)) bad_token (k, rest) (ap token (sym e) ∙ comment_no_token (cs ++ [])) (token_read k glyphs rest t)

-- ---- what a fault is shown at

run_once : (shown rest others more : List ℕ) → shown ++ rest ≡ others ++ more → RunsOn shown rest → RunsOn others more → shown ≡ others
run_once shown rest others more e h k =
    let whole = ap (λ (q : List ℕ). q ++ rest) (sym h.2) ∙ e ∙ ap (λ (q : List ℕ). q ++ more) k.2 in
    let head = cons_head h.0 k.0 (h.1 ++ rest) (k.1 ++ more) whole in
    let tail = cons_tail h.0 k.0 (h.1 ++ rest) (k.1 ++ more) whole in
    let word = sym (front-all is_inside h.1 rest h.3.0 h.3.1) ∙ ap (front_of is_inside) tail ∙ front-all is_inside k.1 more k.3.0 k.3.1 in
    h.2 ∙ (λ i. head i ∷ word i) ∙ sym k.2

one_once : (shown rest others more : List ℕ) → shown ++ rest ≡ others ++ more → (c : ℕ) × (shown ≡ c ∷ []) → (c : ℕ) × (others ≡ c ∷ []) → shown ≡ others
one_once shown rest others more e h k =
    let whole = ap (λ (q : List ℕ). q ++ rest) (sym h.1) ∙ e ∙ ap (λ (q : List ℕ). q ++ more) k.1 in
    h.1 ∙ ap (λ (q : ℕ). q ∷ []) (cons_head h.0 k.0 rest more whole) ∙ sym k.1

two_once : (shown rest others more : List ℕ) → shown ++ rest ≡ others ++ more → (c : ℕ) × (d : ℕ) × (shown ≡ c ∷ d ∷ []) → (c : ℕ) × (d : ℕ) × (others ≡ c ∷ d ∷ []) → shown ≡ others
two_once shown rest others more e h k =
    let whole = ap (λ (q : List ℕ). q ++ rest) (sym h.2) ∙ e ∙ ap (λ (q : List ℕ). q ++ more) k.2 in
    let head = cons_head h.0 k.0 (h.1 ∷ rest) (k.1 ∷ more) whole in
    let next = cons_head h.1 k.1 rest more (cons_tail h.0 k.0 (h.1 ∷ rest) (k.1 ∷ more) whole) in
    h.2 ∙ (λ i. head i ∷ next i ∷ []) ∙ sym k.2

shown_once : (f : Fault) (shown rest others more : List ℕ) → shown ++ rest ≡ others ++ more → IsShown f shown rest → IsShown f others more → shown ≡ others
shown_once bad_token shown rest others more e h k = run_once shown rest others more e h k
shown_once open_string shown rest others more e h k = one_once shown rest others more e h k
shown_once open_bar shown rest others more e h k = one_once shown rest others more e h k
shown_once open_comment shown rest others more e h k = two_once shown rest others more e h k
shown_once label shown rest others more e h k = run_once shown rest others more e h k
shown_once directive shown rest others more e h k = run_once shown rest others more e h k

-- ---- a stop

module _ (text : List ℕ) (ts : List Token) (f : FaultAt) (stop : IsStop ts f text) where
  last : List ℕ
  last = stop.gap ++ (stop.begun ++ stop.behind)

  begins : Begins (mark_bytes text) ts (behind_mark text) stop.place last
  unfolding last
  begins = stop.tokens

  mark : List ℕ
  mark = (mark_split text).0

  front : List ℕ
  front = (begins_fronted (mark_bytes text) ts (behind_mark text) stop.place last begins).0

  body : behind_mark text ≡ front ++ last
  unfolding front
  body = (begins_fronted (mark_bytes text) ts (behind_mark text) stop.place last begins).1

  begins_so : (others : List ℕ) → EndsLike last others → Begins (mark_bytes text) ts (front ++ others) stop.place others
  unfolding front
  begins_so others like = (begins_fronted (mark_bytes text) ts (behind_mark text) stop.place last begins).2 others like

  before_is : stop.before ≡ mark ++ (front ++ (stop.gap ++ stop.begun))
  unfolding last mark
  before_is = append_cancel_right stop.before (mark ++ (front ++ (stop.gap ++ stop.begun))) stop.behind
      (sym stop.whole ∙ (mark_split text).1 ∙ ap (λ (q : List ℕ). mark ++ q) body ∙ sym (regroup mark front stop.gap stop.begun stop.behind))

  -- tokens or space behind what is begun go on with the text before the stop
  spelled_so : (more : List ℕ) (us : List Token) → EndsLike last (stop.gap ++ (stop.begun ++ more)) → IsSpelledFrom stop.place us (stop.gap ++ (stop.begun ++ more)) → IsSpelled (ts ++ us) (stop.before ++ more)
  unfolding mark
  spelled_so more us like h =
      let others = stop.gap ++ (stop.begun ++ more) in
      let marks = (mark_split text).2 (front ++ others) (like_text (behind_mark text) front last others body like) in
      let spelled = begins_spelled (mark_bytes text) ts us (front ++ others) stop.place others (begins_so others like) h in
      subst (IsSpelled (ts ++ us)) (sym (ap (λ (q : List ℕ). q ++ more) before_is ∙ regroup mark front stop.gap stop.begun more))
      (subst (λ (q : List ℕ). IsSpelledFrom (mark_bytes (mark ++ (front ++ others))) (ts ++ us) q) (sym marks.1) (subst (λ (n : ℕ). IsSpelledFrom n (ts ++ us) (front ++ others)) (sym marks.0) spelled))

  -- what stands behind the place doesn't go on so
  refused_so : (c : ℕ) (cs more : List ℕ) (us : List Token) → stop.behind ≡ c ∷ cs → EndsLike (stop.begun ++ c ∷ cs) (stop.begun ++ c ∷ more) → IsSpelledFrom stop.place us (stop.gap ++ (stop.begun ++ c ∷ more)) → ⊥
  unfolding last
  refused_so c cs more us e like h =
      no_longer stop.before stop.behind cs c [] stop.stops e (
        more,
        ts ++ us,
        subst (IsSpelled (ts ++ us)) (sym (append_assoc stop.before (c ∷ []) more))
            (spelled_so (c ∷ more) us (λ p q. like_behind stop.gap (stop.begun ++ c ∷ cs) (stop.begun ++ c ∷ more) like p (subst (λ (r : List ℕ). Ends p (stop.gap ++ (stop.begun ++ r))) e q)) h),
      )

  space_at : (c : ℕ) (cs : List ℕ) → stop.behind ≡ c ∷ cs → IsSpace stop.gap (stop.begun ++ c ∷ cs)
  space_at c cs e = subst (λ (q : List ℕ). IsSpace stop.gap (stop.begun ++ q)) e stop.space

  no_space : (c : ℕ) (cs more : List ℕ) → stop.behind ≡ c ∷ cs → IsSpace (stop.begun ++ c ∷ more) [] → ⊥
  no_space c cs more e s =
      refused_so c cs more [] e (like_same stop.begun c cs more)
      (space_joined (space_frame (space_at c cs e) (stop.begun ++ c ∷ more) (like_same stop.begun c cs more)) (stop.begun ++ c ∷ more) [] (sym (append-nil (stop.begun ++ c ∷ more))) s)

  no_token_so : (c : ℕ) (cs more : List ℕ) (k : TokenKind) → stop.behind ≡ c ∷ cs → IsToken k (stop.begun ++ c ∷ more) [] → ⊥
  no_token_so c cs more k e t =
      let us = one_token stop.gap (stop.begun ++ c ∷ more) k (space_frame (space_at c cs e) (stop.begun ++ c ∷ more) (like_same stop.begun c cs more)) t stop.place in
      refused_so c cs more us.0 e (like_same stop.begun c cs more) us.1

  whole_so : Whole (stop.begun ++ stop.behind)
  whole_so = begun_whole stop.is_begun no_space no_token_so

  -- the gap that the code passes is that before what is begun
  gap_target : target (behind_gap between last) ≡ stop.begun ++ stop.behind
  unfolding last
  gap_target = ap target (space_passed stop.space) ∙ elim whole_so [ inl h ↦ ap target h | inr h ↦ ap target h ]

  ok_whole : (others : List ℕ) → behind_gap between last ≡ Ok others → stop.begun ++ stop.behind ≡ others
  ok_whole others e = sym gap_target ∙ ap target e

  no_first : (t : Token) (first : First stop.place t last) → ⊥
  no_first t first =
      let others = first.glyphs ++ first.rest in
      let read = token_read t.kind first.glyphs first.rest first.token in
      let gap = ap (behind_gap between) first.whole ∙ space_passed first.space ∙ token_here others (t.kind, first.rest) read in
      none_ends stop.is_begun no_token_so t.kind first.glyphs first.rest (ok_whole others gap) first.token

  no_end : IsSpace last [] → ⊥
  no_end s = no_spelling stop.before stop.behind stop.stops (ts ++ []) (subst (IsSpelled (ts ++ [])) stop.whole (begins_spelled (mark_bytes text) ts [] (behind_mark text) stop.place last begins s))

  reads_when : (n : Next) → next (byte_count text) last ≡ n → NextTold stop.place (byte_count text) last n → (g : FaultAt) × Reads (byte_count text) ts (Some g) (behind_mark text)
  reads_when (found t rest) e h = absurd (no_first t h.0)
  reads_when (ended None) e h = absurd (no_end h)
  reads_when (ended (Some g)) e h = (g, begins_reads (mark_bytes text) (byte_count text) ts (Some g) (behind_mark text) stop.place last (mark_counted text) begins e)

  stops_reading : (g : FaultAt) × Reads (byte_count text) ts (Some g) (behind_mark text)
  stops_reading =
      reads_when (next (byte_count text) last) refl (next_told stop.place (byte_count text) last (begins_counted (mark_bytes text) (byte_count text) ts (behind_mark text) stop.place last (mark_counted text) begins))

rest_or : List ℕ → Next → List ℕ
rest_or rest (found t others) = others
rest_or rest (ended end) = rest

same_rest : (n : Next) (t : Token) (rest others : List ℕ) → n ≡ found t rest → n ≡ found t others → rest ≡ others
unfolding rest_or
same_rest n t rest others e f = ap (rest_or rest) (sym e ∙ f)

begins_once : (at : ℕ) (ts : List Token) (text : List ℕ) (p q : ℕ) (rest others : List ℕ) → Begins at ts text p rest → Begins at ts text q others → (p ≡ q) × (rest ≡ others)
begins_once at [] text p q rest others h k = (h.0 ∙ sym k.0, h.1 ∙ sym k.1)
begins_once at (t ∷ ts) text p q rest others h k =
    let size = at + byte_count text in
    let same = same_rest (next size text) t h.0.rest k.0.rest (first_next at size t text refl h.0).0 (first_next at size t text refl k.0).0 in
    begins_once t.end ts h.0.rest p q rest others h.1 (subst (λ (r : List ℕ). Begins t.end ts r q others) (sym same) k.1)

gap_is : (text : List ℕ) (ts : List Token) (f : FaultAt) (s : IsStop ts f text) → target (behind_gap between (s.gap ++ (s.begun ++ s.behind))) ≡ s.begun ++ s.behind
unfolding last
gap_is text ts f s = gap_target text ts f s

-- a text stops at one fault behind the same tokens
stops_once : (ts : List Token) (f g : FaultAt) (text : List ℕ) → IsStop ts f text → IsStop ts g text → f ≡ g
stops_once ts f g text s t =
    let place = begins_once (mark_bytes text) ts (behind_mark text) s.place t.place (s.gap ++ (s.begun ++ s.behind)) (t.gap ++ (t.begun ++ t.behind)) s.tokens t.tokens in
    let before = one_place s.before s.behind t.before t.behind s.stops t.stops (sym s.whole ∙ t.whole) in
    let behind = append_cancel_left t.before s.behind t.behind (ap (λ (q : List ℕ). q ++ s.behind) (sym before) ∙ sym s.whole ∙ t.whole) in
    let both = sym (gap_is text ts f s) ∙ ap (λ (q : List ℕ). target (behind_gap between q)) place.1 ∙ gap_is text ts g t in
    let gap = append_cancel_right s.gap t.gap (t.begun ++ t.behind) (ap (λ (q : List ℕ). s.gap ++ q) (sym both) ∙ place.1) in
    let begun = append_cancel_right s.begun t.begun t.behind (ap (λ (q : List ℕ). s.begun ++ q) (sym behind) ∙ both) in
    let fault = s.because ∙ (λ i. because (begun i) (behind i)) ∙ sym t.because in
    let start = s.starts ∙ (λ i. place.0 i + byte_count (gap i)) ∙ sym t.starts in
    let shown = shown_once g.fault s.shown s.rest t.shown t.rest (sym s.split ∙ both ∙ t.split) (subst (λ (q : Fault). IsShown q s.shown s.rest) fault s.shows) t.shows in
    let end = s.ends ∙ (λ i. start i + byte_count (shown i)) ∙ sym t.ends in
    (λ i. record { fault = fault i; start = start i; end = end i })

-- where a text stops the code stops reading it
pub stop_read : (ts : List Token) (f : FaultAt) (text : List ℕ) → IsStop ts f text → Reads (byte_count text) ts (Some f) (behind_mark text)
stop_read ts f text s =
    let read = stops_reading text ts f s in
    subst (λ (q : FaultAt). Reads (byte_count text) ts (Some q) (behind_mark text)) (stops_once ts read.0 f text (read_stops ts read.0 text read.1) s) read.1
