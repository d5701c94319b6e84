-- Where identifiers get their old names back the old text comes back (R7RS 7.1.1).
use Rattle.std.proofs.Common.{◌≡◌, ℕ, suc, ◌+◌, arith, length, List, [], ◌∷◌, ◌++◌, map, drop, slice_get, Bool, sym, ap, ◌∙◌, subst, Option, Some, None, IfSome}
use Rattle.std.specs.Str.{chars, encode_utf8_all, IsUtf8}
use Rattle.std.proofs.lemmas.Str.{encodes-chars, chars_from_encodes}
use Rattle.scheme_model.specs.Kinds as kinds
use Rattle.scheme_model.specs.Data.{Datum}
use Rattle.scheme_model.specs.Diagnostics.{Span}
use Rattle.scheme_tokens.specs.Lexical.{Atomic, Name, Token, IsSpelled, IsSpelledFrom, mark_bytes, behind_mark}
use Rattle.datum_reader.specs.Texts.{token_seen, TextReads, IsReading}
use Rattle.text_edits.specs.Edits.{edited}
use Rattle.text_edits.specs.GivenBack.{GetBack, GetsBack}
use Rattle.text_edits.specs.NewNames.{begins_with_bar, edits_of, span_of, written, NamesIdentifiers}
use Rattle.text_edits.proofs.GlyphLaws.{all_before, length_before}
use Rattle.text_edits.proofs.MemberLaws.{AreNames, bars_told, edits_are, mark_front}
use Rattle.text_edits.proofs.NameLaws.{edited_text, same_tokens}
use Rattle.text_edits.proofs.TokenEdits.{KindAs, AreRetold, BackAs, GoBack, bars_in, new_if, news_from}

-- ---- one token

one_name : (bytes : List ℕ) (s : Span) (new back : Option (List ℕ)) (t u : Token) → GetsBack bytes s new back → KindAs (new_if new t.kind) t.kind u.kind →
    IfSome back (λ name. (old : List ℕ) × (bars : Bool) × (u.kind ≡ Atomic (Name old bars)))
one_name bytes s None None t u g k = tt
one_name bytes s None (Some old) t u g k = absurd g
one_name bytes s (Some name) None t u g k = tt
one_name bytes s (Some name) (Some old) t u g k = (chars name, k.0, k.1)

one_back : (bytes : List ℕ) (new back : Option (List ℕ)) (t u : Token) → IfSome new (λ name. begins_with_bar (drop t.start bytes) ≡ bars_in t.kind) → GetsBack bytes (span_of (token_seen t)) new back →
    KindAs (new_if new t.kind) t.kind u.kind → BackAs bytes (new_if new t.kind) (new_if back u.kind) t
one_back bytes None None t u b g k = tt
one_back bytes None (Some old) t u b g k = absurd g
one_back bytes (Some name) None t u b g k = absurd g
one_back bytes (Some name) (Some old) t u b g k = ap (written old) (ap bars_in k.1 ∙ sym (ap (λ q. begins_with_bar (written name q)) b ∙ k.2)) ∙ g

-- ---- all tokens

abbrev AreBack : (bytes : List ℕ) → (new back : ℕ → Option (List ℕ)) → (number : ℕ) → List Token → Type 0
AreBack bytes new back number [] = Unit {0}
AreBack bytes new back number (t ∷ ts) = GetsBack bytes (span_of (token_seen t)) (new number) (back number) × AreBack bytes new back (suc number) ts

are_back : (bytes : List ℕ) (all : List kinds.Token) (new back : ℕ → Option (List ℕ)) → GetBack bytes all new back → (number : ℕ) (ts : List Token) →
    ((i : ℕ) → slice_get all (number + i) ≡ slice_get (map token_seen ts) i) → AreBack bytes new back number ts
are_back bytes all new back h number [] there = tt
are_back bytes all new back h number (t ∷ ts) there =
    (h number (token_seen t) (ap (slice_get all) (omega arith) ∙ there 0), are_back bytes all new back h (suc number) ts (λ i. ap (slice_get all) (omega arith) ∙ there (suc i)))

names_back : (bytes : List ℕ) (new back : ℕ → Option (List ℕ)) (number at to : ℕ) (ts us : List Token) → AreBack bytes new back number ts → AreRetold at to (news_from new number ts) ts us → AreNames back number us
names_back bytes new back number at to [] [] g r = tt
names_back bytes new back number at to [] (u ∷ us) g r = absurd r
names_back bytes new back number at to (t ∷ ts) [] g r = absurd r
names_back bytes new back number at to (t ∷ ts) (u ∷ us) g r =
    (one_name bytes (span_of (token_seen t)) (new number) (back number) t u g.0 r.0, names_back bytes new back (suc number) t.end u.end ts us g.1 r.3)

go_back : (bytes : List ℕ) (new back : ℕ → Option (List ℕ)) (number at to : ℕ) (front rest : List ℕ) (ts us : List Token) → at ≡ length front → front ++ encode_utf8_all rest ≡ bytes → IsSpelledFrom at ts rest →
    AreNames new number ts → AreBack bytes new back number ts → AreRetold at to (news_from new number ts) ts us → GoBack bytes (news_from new number ts) (news_from back number us) ts
go_back bytes new back number at to front rest [] [] e same h a g r = tt
go_back bytes new back number at to front rest [] (u ∷ us) e same h a g r = absurd r
go_back bytes new back number at to front rest (t ∷ ts) [] e same h a g r = absurd r
go_back bytes new back number at to front rest (t ∷ ts) (u ∷ us) e same h a g r =
    let f = h.0 in
    let whole : front ++ encode_utf8_all (f.gap ++ (f.glyphs ++ f.rest)) ≡ bytes = ap (λ (q : List ℕ). front ++ encode_utf8_all q) (sym f.whole) ∙ same in
    let bars = subst (λ (q : List ℕ). IfSome (new number) (λ name. begins_with_bar (drop t.start q) ≡ bars_in t.kind)) whole
    (bars_told (new number) front t f.gap f.glyphs f.rest a.0 f.token (omega (arith, f.starts, e))) in (
      one_back bytes (new number) (back number) t u bars g.0 r.0,
      go_back bytes new back (suc number) t.end u.end (front ++ encode_utf8_all (f.gap ++ f.glyphs)) f.rest ts us (length_before front f.gap f.glyphs at t.start t.end e f.starts f.ends)
          (all_before front f.gap f.glyphs f.rest ∙ whole) h.1 a.1 g.1 r.3,
    )

-- ---- a text

pub restored : (text now : List ℕ) (ts us : List kinds.Token) (ds : List Datum) (new back : ℕ → Option (List ℕ)) → IsUtf8 text → TextReads (chars text) ts None → IsReading (chars text) ds → NamesIdentifiers new ds →
    IsUtf8 now → now ≡ edited (edits_of new text (map span_of ts)) text → TextReads (chars now) us None → GetBack text ts new back → edited (edits_of back now (map span_of us)) now ≡ text
restored text now ts us ds new back utf8 read r named utf8_now e read_now g =
    let w = edited_text new (chars text) ds r named in
    let same = same_tokens (chars text) ts w.tokens w.spelled read in
    let whole : encode_utf8_all (chars text) ≡ text = encodes-chars text utf8 in
    let bytes : encode_utf8_all w.read.other ≡ now = w.bytes ∙ (λ j. edited (edits_of new (whole j) (map span_of (sym same j))) (whole j)) ∙ sym e in
    let characters : w.read.other ≡ chars now = chars_from_encodes w.read.other now utf8_now bytes in
    let same_now = same_tokens (chars now) us w.read.tokens (subst (IsSpelled w.read.tokens) characters w.read.spelled) read_now in
    let mark = mark_front (chars text) in
    let each = are_back text ts new back g 0 w.tokens (λ i. ap (slice_get ts) (omega arith) ∙ ap (λ (q : List kinds.Token). slice_get q i) same) in
    let edits_now = edits_are back w.read.other w.read.tokens w.read.spelled (names_back text new back 0 (mark_bytes (chars text)) (mark_bytes (chars text)) w.tokens w.read.tokens each w.read.retold) in
    let gone = go_back text new back 0 (mark_bytes (chars text)) (mark_bytes (chars text)) mark.0 (behind_mark (chars text)) w.tokens w.read.tokens mark.1 (mark.2 ∙ whole) w.spelled w.names each w.read.retold in
    (λ j. edited (edits_of back (sym bytes j) (map span_of (same_now j))) (sym bytes j))
    ∙ ap (λ es. edited es (encode_utf8_all w.read.other)) edits_now
    ∙ w.read.back (news_from back 0 w.read.tokens) (subst (λ (q : List ℕ). GoBack q (news_from new 0 w.tokens) (news_from back 0 w.read.tokens) w.tokens) (sym whole) gone)
    ∙ whole
