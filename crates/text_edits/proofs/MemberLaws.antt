-- The edits of a text are those of its tokens, and the edited text reads.
use Rattle.std.proofs.Common.{◌≡◌, ℕ, suc, ◌+◌, arith, length, List, [], ◌∷◌, ◌++◌, map, drop, Bool, true, false, cond, refl, sym, ap, ◌∙◌, subst, Option, Some, None, IfSome, ◌==◌}
use Rattle.std.specs.Str.{chars, encode_utf8_all}
use Rattle.std.specs.Char.{encode_utf8}
use Rattle.std.proofs.lemmas.Bool.{eqb-true}
use Rattle.std.proofs.lemmas.Str.{length-encode}
use Rattle.scheme_model.specs.Data.{Datum}
use Rattle.scheme_tokens.specs.Lexical.{byte_count, TokenKind, Atomic, Name, IsToken, Token, IsSpelledFrom, IsSpelled, mark_bytes, behind_mark}
use Rattle.scheme_tokens.specs.Spelling.{IsSpelling}
use Rattle.scheme_tokens.specs.Mirror.Spelled.{spelled}
use Rattle.scheme_tokens.proofs.Same.Spelling.{spelling}
use Rattle.datum_reader.specs.Texts.{token_seen, IsReading}
use Rattle.text_edits.specs.Edits.{Edit, edited}
use Rattle.text_edits.specs.NewNames.{written, begins_with_bar, edit_if, edits_from, edits_of, span_of}
use Rattle.text_edits.proofs.TokenEdits.{New, Fits, AllFit, edits, bars_in, new_if, news_from}
use Rattle.text_edits.proofs.GlyphLaws.{all_before, bars_begin, behind_gap, length_before}
use Rattle.text_edits.proofs.ReadLaws.{IsReadEdited, edited_data, tokens_of}

-- ---- the new names of tokens

-- the tokens, from a number on, that get a new name are names
abbrev pub AreNames : (ℕ → Option (List ℕ)) → (number : ℕ) → List Token → Type 0
AreNames new number [] = Unit {0}
AreNames new number (t ∷ ts) = IfSome (new number) (λ name. (old : List ℕ) × (bars : Bool) × (t.kind ≡ Atomic (Name old bars))) × AreNames new (suc number) ts

fits_if : (name : Option (List ℕ)) (t : Token) → IfSome name (λ name. (old : List ℕ) × (bars : Bool) × (t.kind ≡ Atomic (Name old bars))) → Fits (new_if name t.kind) t
fits_if None t h = tt
fits_if (Some name) t h =
    (h.0, h.1, h.2, subst (λ (b : Bool). IsSpelling (chars name) h.1 (spelled (chars name) b)) (sym (ap bars_in h.2)) (spelling (chars name) h.1))

all_fit : (new : ℕ → Option (List ℕ)) (number : ℕ) (ts : List Token) → AreNames new number ts → AllFit (news_from new number ts) ts
all_fit new number [] h = tt
all_fit new number (t ∷ ts) h = (fits_if (new number) t h.0, all_fit new (suc number) ts h.1)

-- ---- the edits

edit_told : (name : Option (List ℕ)) (t : Token) (text : List ℕ) (ns : List (Option New)) (ts : List Token) (more : List Edit) →
    IfSome name (λ name. (old : List ℕ) × (bars : Bool) × (t.kind ≡ Atomic (Name old bars))) → (IfSome name (λ name. begins_with_bar (drop t.start text) ≡ bars_in t.kind)) → more ≡ edits ns ts →
    edit_if text (span_of (token_seen t)) name ++ more ≡ edits (new_if name t.kind ∷ ns) (t ∷ ts)
edit_told None t text ns ts more h b e = e
edit_told (Some name) t text ns ts more h b e = λ j. record { start = t.start; end = t.end; text = written name (b j) } ∷ e j

pub bars_told : (name : Option (List ℕ)) (front : List ℕ) (t : Token) (gap glyphs rest : List ℕ) → IfSome name (λ name. (old : List ℕ) × (bars : Bool) × (t.kind ≡ Atomic (Name old bars))) →
    IsToken t.kind glyphs rest → t.start ≡ length front + byte_count gap → IfSome name (λ name. begins_with_bar (drop t.start (front ++ encode_utf8_all (gap ++ (glyphs ++ rest)))) ≡ bars_in t.kind)
bars_told None front t gap glyphs rest h k e = tt
bars_told (Some name) front t gap glyphs rest h k e =
    ap begins_with_bar (behind_gap front gap glyphs rest t.start e) ∙ bars_begin h.0 glyphs rest (encode_utf8_all rest) h.1 (subst (λ (q : TokenKind). IsToken q glyphs rest) h.2 k) ∙ sym (ap bars_in h.2)

edits_told : (new : ℕ → Option (List ℕ)) (number at : ℕ) (front : List ℕ) (ts : List Token) (text : List ℕ) → at ≡ length front → IsSpelledFrom at ts text →
    AreNames new number ts → edits_from new (front ++ encode_utf8_all text) number (map span_of (map token_seen ts)) ≡ edits (news_from new number ts) ts
edits_told new number at front [] text e h a = refl
edits_told new number at front (t ∷ ts) text e h a =
    let first = h.0 in
    let name = new number in
    let bytes = front ++ encode_utf8_all text in
    let whole : front ++ encode_utf8_all (first.gap ++ (first.glyphs ++ first.rest)) ≡ bytes = ap (λ (q : List ℕ). front ++ encode_utf8_all q) (sym first.whole) in
    let bars = subst (λ (q : List ℕ). IfSome name (λ name. begins_with_bar (drop t.start q) ≡ bars_in t.kind)) whole (bars_told name front t first.gap first.glyphs first.rest a.0 first.token (omega (arith, first.starts, e))) in
    let before = front ++ encode_utf8_all (first.gap ++ first.glyphs) in
    let same : before ++ encode_utf8_all first.rest ≡ bytes = all_before front first.gap first.glyphs first.rest ∙ whole in
    let place : t.end ≡ length before = length_before front first.gap first.glyphs at t.start t.end e first.starts first.ends in
    let more = subst (λ (q : List ℕ). edits_from new q (suc number) (map span_of (map token_seen ts)) ≡ edits (news_from new (suc number) ts) ts) same
    (edits_told new (suc number) t.end before ts first.rest place h.1 a.1) in
    edit_told name t bytes (news_from new (suc number) ts) ts (edits_from new bytes (suc number) (map span_of (map token_seen ts))) a.0 bars more

-- ---- a document

-- the bytes of a byte order mark
pub mark_front : (text : List ℕ) → (front : List ℕ) × (mark_bytes text ≡ length front) × (front ++ encode_utf8_all (behind_mark text) ≡ encode_utf8_all text)
mark_front [] = ([], refl, refl)
mark_front (c ∷ cs) = go (c == 0xFEFF) refl
  where
    go : (b : Bool) → (c == 0xFEFF) ≡ b → (front : List ℕ) × (cond b 3 0 ≡ length front) × (front ++ encode_utf8_all (cond b cs (c ∷ cs)) ≡ encode_utf8_all (c ∷ cs))
    go false e = ([], refl, refl)
    go true e = (encode_utf8 0xFEFF, sym (length-encode 0xFEFF), ap (λ (d : ℕ). encode_utf8 d ++ encode_utf8_all cs) (sym (eqb-true c 0xFEFF e)))

-- the text with its edits reads, and its data are the old ones with the new names
pub record IsTextEdited (new : ℕ → Option (List ℕ)) (text : List ℕ) (ds : List Datum) : Type 0 where
  pub tokens : List Token
  pub spelled : IsSpelled tokens text
  pub names : AreNames new 0 tokens
  pub read : IsReadEdited new tokens text ds
  pub bytes : encode_utf8_all read.other ≡ edited (edits_of new (encode_utf8_all text) (map span_of (map token_seen tokens))) (encode_utf8_all text)

pub edits_are : (new : ℕ → Option (List ℕ)) (text : List ℕ) (ts : List Token) → IsSpelled ts text → AreNames new 0 ts →
    edits_of new (encode_utf8_all text) (map span_of (map token_seen ts)) ≡ edits (news_from new 0 ts) ts
edits_are new text ts h a =
    let front = mark_front text in
    subst (λ (q : List ℕ). edits_from new q 0 (map span_of (map token_seen ts)) ≡ edits (news_from new 0 ts) ts) front.2
    (edits_told new 0 (mark_bytes text) front.0 ts (behind_mark text) front.1 h a)

pub text_edited : (new : ℕ → Option (List ℕ)) (text : List ℕ) (ds : List Datum) → (r : IsReading text ds) → AreNames new 0 (tokens_of text ds r).0 → IsTextEdited new text ds
text_edited new text ds r a =
    let told = tokens_of text ds r in
    let ts = told.0 in
    let read = edited_data new ts text ds r told.1 told.2 (all_fit new 0 ts a) in
    let same = edits_are new text ts told.1 a in
    record { tokens = ts; spelled = told.1; names = a; read = read; bytes = read.bytes ∙ ap (λ (es : List Edit). edited es (encode_utf8_all text)) (sym same) }
