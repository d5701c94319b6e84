-- Where the code stops reading the text stops, for this reason.
use Rattle.std.proofs.Common.{◌≡◌, ℕ, ◌+◌, List, [], ◌∷◌, ◌++◌, Option, Some, None, Result, Ok, Err, Bool, false, cond, refl, sym, ap, ◌∙◌, subst, append_assoc, append-nil, drop, ◌==◌, ◌&&◌, inl, inr}
use Rattle.std.specs.Char.{is_ascii_digit}
use Rattle.std.proofs.lemmas.Bool.{cond_both, cond-false, and_left, and_right}
use Rattle.scheme_tokens.specs.Lexical.{Ends, byte_count, IsNested, IsSpace, TokenKind, IsToken, Token, IsSpelledFrom, mark_bytes, behind_mark, IsSpelled, is_inside}
use Rattle.scheme_tokens.specs.Faults.{Fault, bad_token, open_string, open_bar, open_comment, label, directive, FaultAt}
use Rattle.scheme_tokens.specs.Stopping.{CanGoOn, StopsBetween, Begins, IsBegun, unended, refused, because, IsShown, IsStop}
use Rattle.scheme_tokens.specs.Mirror.Words.{word_of, behind_word}
use Rattle.scheme_tokens.specs.Mirror.Gaps.{between, behind_gap}
use Rattle.scheme_tokens.specs.Mirror.Tokens.{token}
use Rattle.scheme_tokens.specs.Mirror.Reading.{place, Next, found, ended, next_token, at_front, next_behind, next, behind_fault, fault_at, Reads}
use Rattle.scheme_tokens.proofs.OneReading.{one_reading_from}
use Rattle.scheme_tokens.proofs.Same.Ends.{EndsLike, like_nothing, like_first, like_behind}
use Rattle.scheme_tokens.proofs.Same.Gaps.{space_passed}
use Rattle.scheme_tokens.proofs.Same.GapsFound.{Passed, IsOpen, Dark, dark_gap, Ended, gap_told}
use Rattle.scheme_tokens.proofs.Fronts.{front-behind}
use Rattle.scheme_tokens.proofs.Same.Tokens.{a_word}
use Rattle.scheme_tokens.proofs.Same.TokensRead.{token_read}
use Rattle.scheme_tokens.proofs.Same.Reading.{no_token, two_counts, end_count, next_told, first_next, NextTold, spelled_reads, mark_counted}
use Rattle.scheme_tokens.proofs.Same.Scanned.{cons_none, cons_tail, Goes, Halts, NoHash, Refused}
use Rattle.scheme_tokens.proofs.Same.BadWords.{OrRefused}
use Rattle.scheme_tokens.proofs.Same.BadTokens.{token_refused}
use Rattle.scheme_tokens.proofs.Same.Frames.{space_frame, space_joined, begins_fronted, begins_spelled, mark_split}

-- ---- where no token is read behind space

-- whatever stands behind the next character, the code stops
abbrev pub HaltsBehind : List ℕ → List ℕ → List ℕ → Type 0
HaltsBehind gap begun [] = Unit {0}
HaltsBehind gap begun (c ∷ behind) = (x : List ℕ) (size : ℕ) → (g : FaultAt) × (next size (gap ++ (begun ++ c ∷ x)) ≡ ended (Some g))

-- the rest of a text, which begins at a place, has space, something begun that can go on, and then stops
pub record Halted (at : ℕ) (last : List ℕ) (f : FaultAt) : Type 0 where
  pub gap : List ℕ
  pub begun : List ℕ
  pub behind : List ℕ
  pub whole : last ≡ gap ++ (begun ++ behind)
  pub space : IsSpace gap (begun ++ behind)
  pub is_begun : IsBegun begun behind
  pub because : f.fault ≡ because begun behind
  pub starts : f.start ≡ at + byte_count gap
  pub shown : List ℕ
  pub rest : List ℕ
  pub split : begun ++ behind ≡ shown ++ rest
  pub shows : IsShown f.fault shown rest
  pub ends : f.end ≡ f.start + byte_count shown
  pub more : List ℕ
  pub like : EndsLike last (gap ++ (begun ++ more))
  pub goes : (place : ℕ) → (us : List Token) × IsSpelledFrom place us (gap ++ (begun ++ more))
  pub halts : HaltsBehind gap begun behind

-- ---- what it is shown at

-- what is shown of a fault at the front of a text
abbrev Shows : ℕ → Fault → List ℕ → Type 0
Shows size fault front = (shown : List ℕ) × (rest : List ℕ) × (front ≡ shown ++ rest) × IsShown fault shown rest × (behind_fault fault front ≡ rest)

run_shown : (c : ℕ) (cs : List ℕ) → c ∷ cs ≡ (c ∷ word_of cs) ++ behind_word cs
run_shown c cs = ap (λ (q : List ℕ). c ∷ q) (sym (front-behind is_inside cs))

not_comment : (f : Fault) → f ≡ bad_token → open_comment ≡ f → ⊥
not_comment f e h = cc

abbrev unended_rest : ℕ → Fault
unended_rest b = cond (b == 35 && false) open_comment bad_token

one_unended : (b : ℕ) → open_comment ≡ unended (b ∷ []) → ⊥
one_unended b =
    cond_both (b == 34) _ _ (λ (f : Fault). open_comment ≡ f → ⊥) (λ _ e. cc)
    (λ _. cond_both (b == 124) _ _ (λ (f : Fault). open_comment ≡ f → ⊥) (λ _ e. cc)
    (λ _ e. not_comment (unended_rest b) (cond-false (b == 35 && false) _ _ (and_right (b == 35) false refl)) e))

one_refused : (b c : ℕ) → open_comment ≡ refused (b ∷ []) c → ⊥
one_refused b c =
    cond_both (b == 35 && c == 33) _ _ (λ (f : Fault). open_comment ≡ f → ⊥) (λ _ e. cc)
    (λ _. cond_both (b == 35 && is_ascii_digit c) _ _ (λ (f : Fault). open_comment ≡ f → ⊥) (λ _ e. cc) (λ _ e. cc))

two_first : (fault : Fault) (begun behind : List ℕ) → open_comment ≡ because begun behind → (c : ℕ) × (d : ℕ) × (ds : List ℕ) × (begun ≡ c ∷ d ∷ ds)
two_first fault [] [] e = cc
two_first fault [] (c ∷ cs) e = cc
two_first fault (b ∷ []) [] e = absurd (one_unended b e)
two_first fault (b ∷ []) (c ∷ cs) e = absurd (one_refused b c e)
two_first fault (b ∷ d ∷ ds) behind e = (b, d, ds, refl)

comment_shown : (c : ℕ) (cs begun behind : List ℕ) → c ∷ cs ≡ begun ++ behind → open_comment ≡ because begun behind → (d : ℕ) × (ds : List ℕ) × (cs ≡ d ∷ ds)
comment_shown c cs begun behind e h =
    let two = two_first open_comment begun behind h in
    (two.1, two.2 ++ behind, cons_tail c two.0 cs (two.1 ∷ (two.2 ++ behind)) (e ∙ ap (λ (q : List ℕ). q ++ behind) two.3))

shows : (size : ℕ) (fault : Fault) (c : ℕ) (cs begun behind : List ℕ) → c ∷ cs ≡ begun ++ behind → fault ≡ because begun behind → Shows size fault (c ∷ cs)
shows size bad_token c cs begun behind e h = (c ∷ word_of cs, behind_word cs, run_shown c cs, (c, word_of cs, refl, a_word cs), refl)
shows size label c cs begun behind e h = (c ∷ word_of cs, behind_word cs, run_shown c cs, (c, word_of cs, refl, a_word cs), refl)
shows size directive c cs begun behind e h = (c ∷ word_of cs, behind_word cs, run_shown c cs, (c, word_of cs, refl, a_word cs), refl)
shows size open_string c cs begun behind e h = (c ∷ [], cs, refl, (c, refl), refl)
shows size open_bar c cs begun behind e h = (c ∷ [], cs, refl, (c, refl), refl)
shows size open_comment c cs begun behind e h =
    let two = comment_shown c cs begun behind e h in
    (c ∷ two.0 ∷ [], two.1, ap (λ (q : List ℕ). c ∷ q) two.2, (c, two.0, refl), ap (λ (q : List ℕ). drop 1 q) two.2)

-- ---- a comment that is open

-- the comment that closes all of a text is the text
whole_nested : (cs : List ℕ) → Passed 0 cs (λ rest. rest ≡ []) → IsNested cs
whole_nested cs h = subst IsNested (sym (append-nil h.0) ∙ ap (λ (q : List ℕ). h.0 ++ q) (sym h.4) ∙ sym h.2) h.3

pub comment_space : (cs : List ℕ) → IsNested cs → IsSpace (35 ∷ 124 ∷ cs) []
comment_space cs h = subst (λ (q : List ℕ). IsSpace (35 ∷ 124 ∷ q) []) (append-nil cs) (IsSpace.nested cs [] [] h (IsSpace.none []))

comment_halted : (at size : ℕ) (last gap start cs : List ℕ) → at + byte_count last ≡ size → last ≡ gap ++ start → IsSpace gap start → start ≡ 35 ∷ 124 ∷ cs → IsOpen 0 cs → Halted at last (fault_at size open_comment start)
comment_halted at size last gap start cs e w s o h =
    let begun = 35 ∷ 124 ∷ cs in
    let whole = w ∙ ap (λ (q : List ℕ). gap ++ q) (o ∙ sym (append-nil begun)) in
    let space = subst (IsSpace gap) (o ∙ sym (append-nil begun)) s in
    let more = h.0 ∷ h.1 in
    let nested = whole_nested (cs ++ more) h.2 in
    let behind = ap (λ (q : List ℕ). drop 2 q) o in
    record {
      gap = gap;
      begun = begun;
      behind = [];
      whole = whole;
      space = space;
      is_begun = IsBegun.comment h.0 cs h.1 nested;
      because = refl;
      starts = two_counts at size last start gap e w;
      shown = 35 ∷ 124 ∷ [];
      rest = cs;
      split = append-nil begun;
      shows = (35, 124, refl);
      ends = ap (place size) behind ∙ end_count at size last start (35 ∷ 124 ∷ []) cs gap e w o;
      more = more;
      like = λ p q. like_behind gap (begun ++ []) (begun ++ more) (like_first 35 (124 ∷ (cs ++ [])) (124 ∷ (cs ++ more))) p (subst (Ends p) whole q);
      goes = λ place. ([], space_joined (space_frame space (begun ++ more) (like_first 35 (124 ∷ (cs ++ [])) (124 ∷ (cs ++ more)))) (begun ++ more) [] (sym (append-nil (begun ++ more))) (comment_space (cs ++ more) nested));
      halts = tt;
    }

-- ---- a token that is refused

dark_more : (begun : List ℕ) (c : ℕ) (cs x : List ℕ) → Dark (begun ++ c ∷ cs) → NoHash begun (c ∷ cs) → Dark (begun ++ c ∷ x)
dark_more [] c [] [] h k = h
dark_more [] c (d ∷ ds) [] h k = (h.0, h.1)
dark_more [] c [] (y ∷ ys) h k = (h.0, h.1, and_left (c == 35) (y == 124) k)
dark_more [] c (d ∷ ds) (y ∷ ys) h k = (h.0, h.1, and_left (c == 35) (y == 124) k)
dark_more (b ∷ []) c cs x h k = h
dark_more (b ∷ d ∷ ds) c cs x h k = h

pub like_same : (begun : List ℕ) (c : ℕ) (cs x : List ℕ) → EndsLike (begun ++ c ∷ cs) (begun ++ c ∷ x)
like_same begun c cs x = like_behind begun (c ∷ cs) (c ∷ x) (like_first c cs x)

front_err : (size : ℕ) (front : List ℕ) (g : Fault) → ((c : ℕ) × (cs : List ℕ) × (front ≡ c ∷ cs)) → token front ≡ Err g → at_front size front ≡ ended (Some (fault_at size g front))
front_err size [] g some e = absurd (cons_none some.0 some.1 (sym some.2))
front_err size (c ∷ cs) g some e = ap (next_token size (c ∷ cs)) e

some_first : (begun : List ℕ) (c : ℕ) (x : List ℕ) → (b : ℕ) × (bs : List ℕ) × (begun ++ c ∷ x ≡ b ∷ bs)
some_first [] c x = (c, x, refl)
some_first (b ∷ bs) c x = (b, bs ++ c ∷ x, refl)

halts_at : (gap begun : List ℕ) (c : ℕ) (cs x : List ℕ) (size : ℕ) (g : Fault) → IsSpace gap (begun ++ c ∷ cs) → Dark (begun ++ c ∷ cs) → NoHash begun (c ∷ cs) → token (begun ++ c ∷ x) ≡ Err g →
    next size (gap ++ (begun ++ c ∷ x)) ≡ ended (Some (fault_at size g (begun ++ c ∷ x)))
unfolding next
halts_at gap begun c cs x size g s dark hash e =
    let y = begun ++ c ∷ x in
    ap (next_behind size) (space_passed (space_frame s y (like_same begun c cs x)) ∙ dark_gap y (dark_more begun c cs x dark hash)) ∙ front_err size y g (some_first begun c x) e

halts_behind : (gap begun behind : List ℕ) → IsSpace gap (begun ++ behind) → Dark (begun ++ behind) → NoHash begun behind → Halts begun behind → HaltsBehind gap begun behind
halts_behind gap begun [] s dark hash h = tt
halts_behind gap begun (c ∷ cs) s dark hash h = λ x size.
    let err = h x in
    (fault_at size err.0 (begun ++ c ∷ x), halts_at gap begun c cs x size err.0 s dark hash err.1)

-- what is begun goes on as one token, or nothing is begun
abbrev GoesOn : List ℕ → List ℕ → List ℕ → Type 0
GoesOn last gap begun = (more : List ℕ) × EndsLike last (gap ++ (begun ++ more)) × ((place : ℕ) → (us : List Token) × IsSpelledFrom place us (gap ++ (begun ++ more)))

pub one_token : (gap glyphs : List ℕ) (k : TokenKind) → IsSpace gap glyphs → IsToken k glyphs [] → (place : ℕ) → (us : List Token) × IsSpelledFrom place us (gap ++ glyphs)
one_token gap glyphs k s t place =
    let tok : Token = record { kind = k; start = place + byte_count gap; end = (place + byte_count gap) + byte_count glyphs } in (
      tok ∷ [],
      (
        record {
          gap = gap;
          glyphs = glyphs;
          rest = [];
          whole = ap (λ (q : List ℕ). gap ++ q) (sym (append-nil glyphs));
          space = subst (IsSpace gap) (sym (append-nil glyphs)) s;
          token = t;
          starts = refl;
          ends = refl;
        },
        IsSpace.none [],
      ),
    )

goes_on : (last gap begun behind : List ℕ) → last ≡ gap ++ (begun ++ behind) → IsSpace gap (begun ++ behind) → Goes begun → GoesOn last gap begun
goes_on last gap [] behind w s h =
    ([], (λ p q. like_behind gap behind [] (like_nothing behind) p (subst (Ends p) w q)), λ place. ([], subst (λ (q : List ℕ). IsSpace q []) (sym (append-nil gap)) (space_frame s [] (like_nothing behind))))
goes_on last gap (b ∷ bs) behind w s (inl e) = absurd (cons_none b bs e)
goes_on last gap (b ∷ bs) behind w s (inr t) =
    let more = t.0 in
    let like = like_first b (bs ++ behind) (bs ++ more) in
    (more, (λ p q. like_behind gap (b ∷ bs ++ behind) (b ∷ bs ++ more) like p (subst (Ends p) w q)), one_token gap (b ∷ bs ++ more) t.1 (space_frame s (b ∷ bs ++ more) like) t.2)

begun_here : (f : Fault) (begun behind : List ℕ) → token (begun ++ behind) ≡ Err f → Goes begun → IsBegun begun behind
begun_here f begun behind e (inl h) = subst (λ (q : List ℕ). IsBegun q behind) (sym h) (IsBegun.nothing behind)
begun_here f begun behind e (inr t) = IsBegun.token begun t.0 [] behind t.1 t.2 (λ j h. no_token (token (begun ++ behind)) f (j, behind) e (token_read j begun behind h))

refused_halted : (at size : ℕ) (last gap : List ℕ) (c : ℕ) (cs : List ℕ) (f : Fault) → at + byte_count last ≡ size → last ≡ gap ++ c ∷ cs → IsSpace gap (c ∷ cs) → Dark (c ∷ cs) → token (c ∷ cs) ≡ Err f → Refused f (c ∷ cs) →
    Halted at last (fault_at size f (c ∷ cs))
refused_halted at size last gap c cs f e w s dark err r =
    let front = c ∷ cs in
    let whole = w ∙ ap (λ (q : List ℕ). gap ++ q) r.whole in
    let space = subst (IsSpace gap) r.whole s in
    let on = goes_on last gap r.begun r.behind whole space r.goes in
    let show = shows size f c cs r.begun r.behind r.whole r.why in
    record {
      gap = gap;
      begun = r.begun;
      behind = r.behind;
      whole = whole;
      space = space;
      is_begun = begun_here f r.begun r.behind (ap token (sym r.whole) ∙ err) r.goes;
      because = r.why;
      starts = two_counts at size last front gap e w;
      shown = show.0;
      rest = show.1;
      split = sym r.whole ∙ show.2;
      shows = show.3;
      ends = ap (place size) show.4 ∙ end_count at size last front show.0 show.1 gap e w show.2;
      more = on.0;
      like = on.1;
      goes = on.2;
      halts = halts_behind gap r.begun r.behind space (subst Dark r.whole dark) r.no_hash r.halts;
    }

-- ---- what comes next, where it is a stop

abbrev pub StopTold : ℕ → List ℕ → Next → Type 0
StopTold at last (found t rest) = Unit {0}
StopTold at last (ended None) = Unit {0}
StopTold at last (ended (Some f)) = Halted at last f

token_stop : (at size : ℕ) (last gap : List ℕ) (c : ℕ) (cs : List ℕ) (r : Result (TokenKind × List ℕ) Fault) → at + byte_count last ≡ size → last ≡ gap ++ c ∷ cs → IsSpace gap (c ∷ cs) → Dark (c ∷ cs) → token (c ∷ cs) ≡ r → OrRefused (c ∷ cs) r →
    StopTold at last (next_token size (c ∷ cs) r)
token_stop at size last gap c cs (Ok t) e w s dark h refusal = tt
token_stop at size last gap c cs (Err f) e w s dark h refusal = refused_halted at size last gap c cs f e w s dark h refusal

front_stop : (at size : ℕ) (last gap front : List ℕ) → at + byte_count last ≡ size → last ≡ gap ++ front → IsSpace gap front → Dark front → StopTold at last (at_front size front)
front_stop at size last gap [] e w s dark = tt
front_stop at size last gap (c ∷ cs) e w s dark = token_stop at size last gap c cs (token (c ∷ cs)) e w s dark refl (token_refused c cs dark)

gap_stop : (at size : ℕ) (last : List ℕ) (r : Result (List ℕ) (List ℕ)) → at + byte_count last ≡ size → Ended last r → StopTold at last (next_behind size r)
gap_stop at size last (Ok front) e h =
    let s = h.0 in
    front_stop at size last s.0 front e s.1 s.2 h.1
gap_stop at size last (Err start) e h =
    let s = h.0 in
    let o = h.1 in
    comment_halted at size last s.0 start o.0 e s.1 s.2 o.1 o.2

pub next_stop : (at size : ℕ) (last : List ℕ) → at + byte_count last ≡ size → StopTold at last (next size last)
unfolding next
next_stop at size last e = gap_stop at size last (behind_gap between last) e (gap_told between last)

-- ---- the tokens before

-- the code reads first tokens, and then comes an end
abbrev pub EndsBehind : ℕ → ℕ → List Token → Option FaultAt → List ℕ → Type 0
EndsBehind at size ts end text = (place : ℕ) × (last : List ℕ) × Begins at ts text place last × (next size last ≡ ended end) × (place + byte_count last ≡ size)

pub reads_begins : (at size : ℕ) (ts : List Token) (end : Option FaultAt) (text : List ℕ) → at + byte_count text ≡ size → Reads size ts end text → EndsBehind at size ts end text
reads_begins at size [] end text e h = (at, text, (refl, refl), h, e)
reads_begins at size (t ∷ ts) end text e h =
    let told = subst (NextTold at size text) h.1 (next_told at size text e) in
    let more = reads_begins t.end size ts end h.0 told.2 h.2 in
    (more.0, more.1, (told.0, subst (λ (q : List ℕ). Begins t.end ts q more.0 more.1) (sym told.1) more.2), more.3, more.4)

pub begins_reads : (at size : ℕ) (ts : List Token) (end : Option FaultAt) (text : List ℕ) (place : ℕ) (last : List ℕ) → at + byte_count text ≡ size → Begins at ts text place last → next size last ≡ ended end → Reads size ts end text
begins_reads at size [] end text place last e h k = ap (next size) (sym h.1) ∙ k
begins_reads at size (t ∷ ts) end text place last e h k =
    let step = first_next at size t text e h.0 in
    (h.0.rest, step.0, begins_reads t.end size ts end h.0.rest place last step.1 h.1 k)

-- ---- a text stops

none_some : (f : FaultAt) → None ≡ Some f → ⊥
none_some f e = cc

pub regroup : (mark front gap begun behind : List ℕ) → (mark ++ (front ++ (gap ++ begun))) ++ behind ≡ mark ++ (front ++ (gap ++ (begun ++ behind)))
regroup mark front gap begun behind =
    append_assoc mark (front ++ (gap ++ begun)) behind
    ∙ ap (λ (q : List ℕ). mark ++ q) (append_assoc front (gap ++ begun) behind ∙ ap (λ (q : List ℕ). front ++ q) (append_assoc gap begun behind))

-- a text behind its mark that goes on elsewhere
pub like_text : (body front last others : List ℕ) → body ≡ front ++ last → EndsLike last others → EndsLike body (front ++ others)
like_text body front last others e like p h = like_behind front last others like p (subst (Ends p) e h)

module _ (text : List ℕ) (ts : List Token) (f : FaultAt) (at : ℕ) (last : List ℕ) (begins : Begins (mark_bytes text) ts (behind_mark text) at last) (halted : Halted at last f) (read : Reads (byte_count text) ts (Some f) (behind_mark text)) where
  mark : List ℕ
  mark = (mark_split text).0

  front : List ℕ
  front = (begins_fronted (mark_bytes text) ts (behind_mark text) at last begins).0

  body : behind_mark text ≡ front ++ last
  unfolding front
  body = (begins_fronted (mark_bytes text) ts (behind_mark text) at last begins).1

  before : List ℕ
  before = mark ++ (front ++ (halted.gap ++ halted.begun))

  same_mark : (others : List ℕ) → EndsLike last others → (mark_bytes (mark ++ (front ++ others)) ≡ mark_bytes text) × (behind_mark (mark ++ (front ++ others)) ≡ front ++ others)
  unfolding mark
  same_mark others like = (mark_split text).2 (front ++ others) (like_text (behind_mark text) front last others body like)

  begins_so : (others : List ℕ) → EndsLike last others → Begins (mark_bytes text) ts (front ++ others) at others
  unfolding front
  begins_so others like = (begins_fronted (mark_bytes text) ts (behind_mark text) at last begins).2 others like

  whole : text ≡ before ++ halted.behind
  unfolding before mark
  whole = (mark_split text).1 ∙ ap (λ (q : List ℕ). mark ++ q) (body ∙ ap (λ (q : List ℕ). front ++ q) halted.whole) ∙ sym (regroup mark front halted.gap halted.begun halted.behind)

  can_go_on : CanGoOn before
  unfolding before
  can_go_on =
      let others = halted.gap ++ (halted.begun ++ halted.more) in
      let us = halted.goes at in
      let marked = same_mark others halted.like in
      let spelled = begins_spelled (mark_bytes text) ts us.0 (front ++ others) at others (begins_so others halted.like) us.1 in (
        halted.more,
        ts ++ us.0,
        subst (IsSpelled (ts ++ us.0)) (sym (regroup mark front halted.gap halted.begun halted.more))
            (subst (λ (q : List ℕ). IsSpelledFrom (mark_bytes (mark ++ (front ++ others))) (ts ++ us.0) q) (sym marked.1) (subst (λ (n : ℕ). IsSpelledFrom n (ts ++ us.0) (front ++ others)) (sym marked.0) spelled)),
      )

  -- no text that stops before more characters is spelled
  not_spelled : (others : List ℕ) → EndsLike last others → ((size : ℕ) → (g : FaultAt) × (next size others ≡ ended (Some g))) → (us : List Token) → IsSpelled us (mark ++ (front ++ others)) → ⊥
  not_spelled others like stops us h =
      let marked = same_mark others like in
      let size = mark_bytes text + byte_count (front ++ others) in
      let stop = stops size in
      let spelled = subst (λ (n : ℕ). IsSpelledFrom n us (front ++ others)) marked.0 (subst (λ (q : List ℕ). IsSpelledFrom (mark_bytes (mark ++ (front ++ others))) us q) marked.1 h) in
      let one = one_reading_from size us ts None (Some stop.0) (front ++ others) (spelled_reads (mark_bytes text) size us (front ++ others) refl spelled)
      (begins_reads (mark_bytes text) size ts (Some stop.0) (front ++ others) at others refl (begins_so others like) stop.1) in
      none_some stop.0 one.1

  not_text : (us : List Token) → IsSpelled us text → ⊥
  not_text us h = none_some f (one_reading_from (byte_count text) us ts None (Some f) (behind_mark text) (spelled_reads (mark_bytes text) (byte_count text) us (behind_mark text) (mark_counted text) h) read).1

  stops_when : (gap begun behind : List ℕ) → halted.gap ≡ gap → halted.begun ≡ begun → last ≡ gap ++ (begun ++ behind) → text ≡ (mark ++ (front ++ (gap ++ begun))) ++ behind → HaltsBehind gap begun behind → CanGoOn (mark ++ (front ++ (gap ++ begun))) →
      StopsBetween (mark ++ (front ++ (gap ++ begun))) behind
  stops_when gap begun [] e k w all h can = (can, λ us spelled. not_text us (subst (IsSpelled us) (sym (all ∙ append-nil (mark ++ (front ++ (gap ++ begun))))) spelled))
  stops_when gap begun (c ∷ cs) e k w all h can = (
    can,
    λ on.
        let x = on.0 in
        let others = gap ++ (begun ++ c ∷ x) in
        let like = λ (p : ℕ → Bool) (q : Ends p last). like_behind gap (begun ++ c ∷ cs) (begun ++ c ∷ x) (like_same begun c cs x) p (subst (Ends p) w q) in
        let same = append_assoc (mark ++ (front ++ (gap ++ begun))) (c ∷ []) x ∙ regroup mark front gap begun (c ∷ x) in
        not_spelled others like (h x) on.1 (subst (IsSpelled on.1) same on.2),
  )

  pub is_stop : IsStop ts f text
  unfolding before
  is_stop = record {
    before = before;
    behind = halted.behind;
    whole = whole;
    stops = stops_when halted.gap halted.begun halted.behind refl refl halted.whole whole halted.halts can_go_on;
    place = at;
    gap = halted.gap;
    begun = halted.begun;
    tokens = subst (λ (q : List ℕ). Begins (mark_bytes text) ts (behind_mark text) at q) halted.whole begins;
    space = halted.space;
    is_begun = halted.is_begun;
    because = halted.because;
    starts = halted.starts;
    shown = halted.shown;
    rest = halted.rest;
    split = halted.split;
    shows = halted.shows;
    ends = halted.ends;
  }

-- where the code stops reading, the text stops
pub read_stops : (ts : List Token) (f : FaultAt) (text : List ℕ) → Reads (byte_count text) ts (Some f) (behind_mark text) → IsStop ts f text
read_stops ts f text h =
    let b = reads_begins (mark_bytes text) (byte_count text) ts (Some f) (behind_mark text) (mark_counted text) h in
    is_stop text ts f b.0 b.1 b.2 (subst (StopTold b.0 b.1) b.3 (next_stop b.0 (byte_count text) b.1 b.4)) h
