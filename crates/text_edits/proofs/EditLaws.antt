-- An edited text has the same tokens, but for the new names.
use Rattle.std.proofs.Common.{◌≡◌, ℕ, ◌+◌, ◌-◌, ◌≤◌, arith, length, List, [], ◌∷◌, ◌++◌, take, drop, Bool, true, false, refl, sym, ap, ◌∙◌, subst, append_assoc, append-nil, inl, inr, Option, Some, None, ◌==◌}
use Rattle.std.specs.List.{slice_range}
use Rattle.std.specs.Str.{encode_utf8_all}
use Rattle.std.specs.Char.{encode_utf8}
use Rattle.std.proofs.lemmas.Bool.{cond-false, eqb-true}
use Rattle.std.proofs.Math.Seq.{take-append-add, drop-append-add, take-append_seam, drop-append_seam}
use Rattle.std.proofs.lemmas.Str.{encodes-append, length-encode}
use Rattle.std.proofs.lemmas.List.{length-append}
use Rattle.scheme_tokens.specs.Lexical.{byte_count, TokenKind, Atomic, Name, IsToken, Token, IsSpelledFrom, IsSpelled, Ends, mark_bytes, behind_mark}
use Rattle.scheme_tokens.specs.Spelling.{IsSpelling}
use Rattle.scheme_tokens.proofs.Fronts.{byte_count-encodes}
use Rattle.scheme_tokens.proofs.Apart.{spelled_before}
use Rattle.text_edits.specs.Edits.{Edit, edited_from, edited}
use Rattle.text_edits.proofs.TokenEdits.{New, Fits, AllFit, edits, KindAs, size_as, AreRetold, BackAs, GoBack}
use Rattle.text_edits.specs.NewNames.{begins_with_bar}
use Rattle.text_edits.proofs.GlyphLaws.{all_before, bars_begin, encodes_same, glyphs_cut, length_before}
use Rattle.text_edits.proofs.Fronts.{Allows, allows_itself, allows_behind, space_before, token_before, allows_name, is_order_mark}

-- ---- bytes that stay

-- the first edit, if any, begins at a place or behind it, and doesn't end before it begins
abbrev IsLater : ℕ → List Edit → Type 0
IsLater at [] = Unit {0}
IsLater at (e ∷ es) = (at ≤ e.start) × (e.start ≤ e.end)

later_from : (at to : ℕ) (es : List Edit) → at ≤ to → IsLater to es → IsLater at es
later_from at to [] h l = tt
later_from at to (e ∷ es) h l = (omega (arith, h, l.0), l.1)

-- what stands before all edits stays
front_stays : (at to : ℕ) (es : List Edit) (front bytes : List ℕ) → to ≡ at + length front → IsLater to es → edited_from at es (front ++ bytes) ≡ front ++ edited_from to es bytes
front_stays at to [] front bytes e l = refl
front_stays at to (x ∷ es) front bytes e l =
    let start : x.start - at ≡ length front + (x.start - to) = omega (arith, e, l.0) in
    let end : x.end - at ≡ length front + (x.end - to) = omega (arith, e, l.0, l.1) in
    (λ i. take (start i) (front ++ bytes) ++ (x.text ++ edited_from x.end es (drop (end i) (front ++ bytes))))
    ∙ (λ i. take-append-add front bytes (x.start - to) i ++ (x.text ++ edited_from x.end es (drop-append-add front bytes (x.end - to) i)))
    ∙ append_assoc front (take (x.start - to) bytes) (x.text ++ edited_from x.end es (drop (x.end - to) bytes))

-- the edits of tokens
edits_later : (at : ℕ) (ns : List (Option New)) (ts : List Token) (text : List ℕ) → IsSpelledFrom at ts text → IsLater at (edits ns ts)
edits_later at [] ts text h = tt
edits_later at (n ∷ ns) [] text h = tt
edits_later at (None ∷ ns) (t ∷ ts) text h = later_from at t.end (edits ns ts) (omega (arith, h.0.starts, h.0.ends)) (edits_later t.end ns ts h.0.rest h.1)
edits_later at (Some n ∷ ns) (t ∷ ts) text h = (omega (arith, h.0.starts), omega (arith, h.0.ends))

-- ---- a token

-- how its characters read now
glyphs_as : Option New → List ℕ → List ℕ
glyphs_as None glyphs = glyphs
glyphs_as (Some n) glyphs = n.text

begun : (name glyphs rest : List ℕ) (bars : Bool) → IsToken (Atomic (Name name bars)) glyphs rest → begins_with_bar (encode_utf8_all glyphs) ≡ bars
begun name glyphs rest bars h = ap begins_with_bar (sym (append-nil (encode_utf8_all glyphs))) ∙ bars_begin name glyphs rest [] bars h

retold_token : (n : Option New) (t : Token) (glyphs rest behind : List ℕ) → Fits n t → IsToken t.kind glyphs rest → Allows rest behind →
    (k : TokenKind) × IsToken k (glyphs_as n glyphs) behind × KindAs n t.kind k × Allows (glyphs ++ rest) (glyphs_as n glyphs ++ behind)
unfolding glyphs_as
retold_token None t glyphs rest behind f h a = (t.kind, token_before t.kind glyphs rest behind a h, refl, allows_behind glyphs rest behind a)
retold_token (Some n) t glyphs rest behind (old, bars, e, s) h a =
    let name = subst (λ (k : TokenKind). IsToken k glyphs rest) e h in
    let new = written n old glyphs rest behind bars name s a in
    (Atomic (Name n.name new.0), new.1, (new.0, refl, begun n.name n.text behind new.0 new.1), allows_name old glyphs rest n.name n.text behind bars name s)
  where
    written : (n : New) (old glyphs rest behind : List ℕ) (bars : Bool) → IsToken (Atomic (Name old bars)) glyphs rest → IsSpelling n.name bars n.text → Allows rest behind →
        (b : Bool) × IsToken (Atomic (Name n.name b)) n.text behind
    written n old glyphs rest behind true h s a = spelled_before n.name n.text behind true s (inl s)
    written n old glyphs rest behind false h s a = spelled_before n.name n.text behind false s (inr (a.inside h.3.1))

size_told : (n : Option New) (t : Token) (glyphs : List ℕ) → t.end ≡ t.start + byte_count glyphs → byte_count (glyphs_as n glyphs) ≡ size_as n t
unfolding glyphs_as
size_told None t glyphs e = omega (arith, e)
size_told (Some n) t glyphs e = refl

-- ---- bytes of a token

three : (a b c : List ℕ) → encode_utf8_all (a ++ (b ++ c)) ≡ encode_utf8_all a ++ (encode_utf8_all b ++ encode_utf8_all c)
three a b c = encodes-append a (b ++ c) ∙ ap (λ (q : List ℕ). encode_utf8_all a ++ q) (encodes-append b c)

bytes_told : (n : Option New) (at : ℕ) (ns : List (Option New)) (t : Token) (ts : List Token) (gap glyphs rest behind : List ℕ) → t.start ≡ at + byte_count gap → t.end ≡ t.start + byte_count glyphs →
    IsLater t.end (edits ns ts) → encode_utf8_all behind ≡ edited_from t.end (edits ns ts) (encode_utf8_all rest) →
    encode_utf8_all (gap ++ (glyphs_as n glyphs ++ behind)) ≡ edited_from at (edits (n ∷ ns) (t ∷ ts)) (encode_utf8_all (gap ++ (glyphs ++ rest)))
unfolding glyphs_as
bytes_told None at ns t ts gap glyphs rest behind s e l h =
    let es = edits ns ts in
    let front = encode_utf8_all gap ++ encode_utf8_all glyphs in
    let place : t.end ≡ at + length front = omega (arith, s, e, length-append (encode_utf8_all gap) (encode_utf8_all glyphs), byte_count-encodes gap, byte_count-encodes glyphs) in
    three gap glyphs behind ∙ sym (append_assoc (encode_utf8_all gap) (encode_utf8_all glyphs) (encode_utf8_all behind)) ∙ ap (λ (q : List ℕ). front ++ q) h
    ∙ sym (front_stays at t.end es front (encode_utf8_all rest) place l)
    ∙ ap (edited_from at es) (append_assoc (encode_utf8_all gap) (encode_utf8_all glyphs) (encode_utf8_all rest) ∙ sym (three gap glyphs rest))
bytes_told (Some n) at ns t ts gap glyphs rest behind s e l h =
    let es = edits ns ts in
    let g = encode_utf8_all gap in
    let x = encode_utf8_all glyphs in
    let r = encode_utf8_all rest in
    let start : t.start - at ≡ length g = omega (arith, s, byte_count-encodes gap) in
    let end : t.end - at ≡ length (g ++ x) = omega (arith, s, e, length-append g x, byte_count-encodes gap, byte_count-encodes glyphs) in
    let whole : encode_utf8_all (gap ++ (glyphs ++ rest)) ≡ g ++ (x ++ r) = three gap glyphs rest in
    let same : g ++ (x ++ r) ≡ (g ++ x) ++ r = sym (append_assoc g x r) in
    three gap n.text behind ∙ ap (λ (q : List ℕ). g ++ (encode_utf8_all n.text ++ q)) h
    ∙ sym ((λ i. take (start i) (whole i) ++ (encode_utf8_all n.text ++ edited_from t.end es (drop (end i) ((whole ∙ same) i))))
    ∙ (λ i. take-append_seam g (x ++ r) i ++ (encode_utf8_all n.text ++ edited_from t.end es (drop-append_seam (g ++ x) r i))))

-- ---- a token that is spelled as it was

no_edits : (ms : List (Option New)) → edits ms [] ≡ []
no_edits [] = refl
no_edits (m ∷ ms) = refl

glyphs_back : (bytes : List ℕ) (n m : Option New) (t : Token) (glyphs : List ℕ) → BackAs bytes n m t → slice_range bytes t.start t.end ≡ encode_utf8_all glyphs → glyphs_as m (glyphs_as n glyphs) ≡ glyphs
unfolding glyphs_as
glyphs_back bytes None None t glyphs b h = refl
glyphs_back bytes None (Some m) t glyphs b h = absurd b
glyphs_back bytes (Some n) None t glyphs b h = absurd b
glyphs_back bytes (Some n) (Some m) t glyphs b h = encodes_same m.text glyphs (b ∙ h)

-- the edits of the tokens as they are now give the bytes back that were there
abbrev GivesBack : (at to : ℕ) → List (Option New) → List Token → (text : List ℕ) → List Token → (other : List ℕ) → Type 0
GivesBack at to ns ts text us other =
    (front : List ℕ) (ms : List (Option New)) → at ≡ length front → GoBack (front ++ encode_utf8_all text) ns ms ts → edited_from to (edits ms us) (encode_utf8_all other) ≡ encode_utf8_all text

back_told : (n : Option New) (at to : ℕ) (ns : List (Option New)) (k : TokenKind) (t : Token) (ts us : List Token) (gap glyphs rest behind : List ℕ) → t.start ≡ at + byte_count gap → t.end ≡ t.start + byte_count glyphs →
    let start = to + byte_count gap in let end = start + byte_count (glyphs_as n glyphs) in
    IsSpelledFrom end us behind → GivesBack t.end end ns ts rest us behind →
    GivesBack at to (n ∷ ns) (t ∷ ts) (gap ++ (glyphs ++ rest)) (record { kind = k; start = start; end = end } ∷ us) (gap ++ (glyphs_as n glyphs ++ behind))
back_told n at to ns k t ts us gap glyphs rest behind s e h later front [] a g = absurd g
back_told n at to ns k t ts us gap glyphs rest behind s e h later front (m ∷ ms) a g =
    let bytes = front ++ encode_utf8_all (gap ++ (glyphs ++ rest)) in
    let before = front ++ encode_utf8_all (gap ++ glyphs) in
    let start = to + byte_count gap in
    let now = glyphs_as n glyphs in
    let end = start + byte_count now in
    let cut : slice_range bytes t.start t.end ≡ encode_utf8_all glyphs = glyphs_cut front gap glyphs rest t.start t.end (s ∙ ap (λ (q : ℕ). q + byte_count gap) a) e in
    let more = later before ms (length_before front gap glyphs at t.start t.end a s e) (subst (λ (q : List ℕ). GoBack q ns ms ts) (sym (all_before front gap glyphs rest)) g.1) in
    sym (bytes_told m to ms (record { kind = k; start = start; end = end }) us gap now behind rest refl refl (edits_later end ms us behind h) (sym more))
    ∙ ap (λ (q : List ℕ). encode_utf8_all (gap ++ (q ++ rest))) (glyphs_back bytes n m t glyphs g.0 cut)

-- ---- all tokens

-- the edited text from a place on, with its tokens
pub record Retold (at to : ℕ) (ns : List (Option New)) (ts : List Token) (text : List ℕ) : Type 0 where
  pub other : List ℕ
  pub tokens : List Token
  pub spelled : IsSpelledFrom to tokens other
  pub retold : AreRetold at to ns ts tokens
  pub allows : Allows text other
  pub back : GivesBack at to ns ts text tokens other
  pub bytes : encode_utf8_all other ≡ edited_from at (edits ns ts) (encode_utf8_all text)

pub retold_from : (at to : ℕ) (ns : List (Option New)) (ts : List Token) (text : List ℕ) → IsSpelledFrom at ts text → AllFit ns ts → Retold at to ns ts text
retold_from at to [] [] text h f = record { other = text; tokens = []; spelled = h; retold = tt; allows = allows_itself text; back = λ front ms a g. ap (λ (es : List Edit). edited_from to es (encode_utf8_all text)) (no_edits ms); bytes = refl }
retold_from at to [] (t ∷ ts) text h f = absurd f
retold_from at to (n ∷ ns) [] text h f = absurd f
retold_from at to (n ∷ ns) (t ∷ ts) text h f =
    let first = h.0 in
    let glyphs = glyphs_as n first.glyphs in
    let start = to + byte_count first.gap in
    let end = start + byte_count glyphs in
    let later = retold_from t.end end ns ts first.rest h.1 f.1 in
    let new = retold_token n t first.glyphs first.rest later.other f.0 first.token later.allows in
    record {
      other = first.gap ++ (glyphs ++ later.other);
      tokens = record { kind = new.0; start = start; end = end } ∷ later.tokens;
      spelled = (record { gap = first.gap; glyphs = glyphs; rest = later.other; whole = refl; space = space_before (glyphs ++ later.other) new.3 first.space; token = new.1; starts = refl; ends = refl }, later.spelled);
      retold = (new.2, omega (arith, first.starts), ap (λ (m : ℕ). start + m) (size_told n t first.glyphs first.ends), later.retold);
      allows = subst (λ (q : List ℕ). Allows q (first.gap ++ (glyphs ++ later.other))) (sym first.whole) (allows_behind first.gap (first.glyphs ++ first.rest) (glyphs ++ later.other) new.3);
      back = subst (λ (q : List ℕ). GivesBack at to (n ∷ ns) (t ∷ ts) q (record { kind = new.0; start = start; end = end } ∷ later.tokens) (first.gap ++ (glyphs ++ later.other))) (sym first.whole)
          (back_told n at to ns new.0 t ts later.tokens first.gap first.glyphs first.rest later.other first.starts first.ends later.spelled later.back);
      bytes = bytes_told n at ns t ts first.gap first.glyphs first.rest later.other first.starts first.ends (edits_later t.end ns ts first.rest h.1) later.bytes
          ∙ ap (λ (q : List ℕ). edited_from at (edits (n ∷ ns) (t ∷ ts)) (encode_utf8_all q)) (sym first.whole);
    }

-- ---- whole texts

-- the edited text reads, with the same tokens but for the new names
pub record IsEdited (ns : List (Option New)) (ts : List Token) (text : List ℕ) : Type 0 where
  pub other : List ℕ
  pub tokens : List Token
  pub spelled : IsSpelled tokens other
  pub retold : AreRetold (mark_bytes text) (mark_bytes text) ns ts tokens
  pub back : (ms : List (Option New)) → GoBack (encode_utf8_all text) ns ms ts → edited (edits ms tokens) (encode_utf8_all other) ≡ encode_utf8_all text
  pub bytes : encode_utf8_all other ≡ edited (edits ns ts) (encode_utf8_all text)

unmarked : (text : List ℕ) → Ends is_order_mark text → (mark_bytes text ≡ 0) × (behind_mark text ≡ text)
unmarked [] h = (refl, refl)
unmarked (c ∷ cs) h = (cond-false (c == 0xFEFF) 3 0 h, cond-false (c == 0xFEFF) cs (c ∷ cs) h)

without_mark : (ns : List (Option New)) (ts : List Token) (text : List ℕ) → Ends is_order_mark text → IsSpelled ts text → AllFit ns ts → IsEdited ns ts text
without_mark ns ts text e h f =
    let u = unmarked text e in
    let r = retold_from 0 0 ns ts text (subst (λ (q : List ℕ). IsSpelledFrom 0 ts q) u.1 (subst (λ (n : ℕ). IsSpelledFrom n ts (behind_mark text)) u.0 h)) f in
    let v = unmarked r.other (r.allows.mark e) in
    record {
      other = r.other;
      tokens = r.tokens;
      spelled = subst (λ (n : ℕ). IsSpelledFrom n r.tokens (behind_mark r.other)) (sym v.0) (subst (λ (q : List ℕ). IsSpelledFrom 0 r.tokens q) (sym v.1) r.spelled);
      retold = subst (λ (n : ℕ). AreRetold n n ns ts r.tokens) (sym u.0) r.retold;
      back = λ ms g. r.back [] ms refl g;
      bytes = r.bytes;
    }

with_mark : (ns : List (Option New)) (ts : List Token) (text : List ℕ) → IsSpelledFrom 3 ts text → AllFit ns ts → IsEdited ns ts (0xFEFF ∷ text)
with_mark ns ts text h f =
    let r = retold_from 3 3 ns ts text h f in
    let three : length (encode_utf8 0xFEFF) ≡ 3 = length-encode 0xFEFF in
    record {
      other = 0xFEFF ∷ r.other;
      tokens = r.tokens;
      spelled = r.spelled;
      retold = r.retold;
      back = λ ms g.
          front_stays 0 3 (edits ms r.tokens) (encode_utf8 0xFEFF) (encode_utf8_all r.other) (omega (arith, three)) (edits_later 3 ms r.tokens r.other r.spelled)
          ∙ ap (λ (q : List ℕ). encode_utf8 0xFEFF ++ q) (r.back (encode_utf8 0xFEFF) ms (sym three) g);
      bytes = ap (λ (q : List ℕ). encode_utf8 0xFEFF ++ q) r.bytes ∙ sym (front_stays 0 3 (edits ns ts) (encode_utf8 0xFEFF) (encode_utf8_all text) (omega (arith, three)) (edits_later 3 ns ts text h));
    }

pub edited_reads : (ns : List (Option New)) (ts : List Token) (text : List ℕ) → IsSpelled ts text → AllFit ns ts → IsEdited ns ts text
edited_reads ns ts [] h f = without_mark ns ts [] tt h f
edited_reads ns ts (c ∷ cs) h f = go (c == 0xFEFF) refl
  where
    go : (b : Bool) → (c == 0xFEFF) ≡ b → IsEdited ns ts (c ∷ cs)
    go false e = without_mark ns ts (c ∷ cs) e h f
    go true e = subst (λ (d : ℕ). IsSpelled ts (d ∷ cs) → IsEdited ns ts (d ∷ cs)) (sym (eqb-true c 0xFEFF e)) (λ k. with_mark ns ts cs k f) h
