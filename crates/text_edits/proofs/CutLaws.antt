-- The edits of a text are for its tokens, which stand one behind another, and a text can be cut where tokens begin and end
-- (R7RS 7.1.1).
use Rattle.std.proofs.Common.{◌≡◌, ℕ, suc, ◌+◌, ◌<◌, ◌≤◌, ◌==◌, Bool, true, false, cond, List, [], ◌∷◌, ◌++◌, map, length, Option, Some, None, refl, sym, ap, ◌∙◌, subst, arith, append_assoc}
use Rattle.std.proofs.lemmas.List.Sums.{sum_by-append}
use Rattle.std.proofs.lemmas.Bool.Decides.{nat_tests}
use Rattle.std.proofs.lemmas.Str.{encodes-chars, scalars-chars, encodes-append, IsCharBoundary-at_seam, IsCharBoundary-start}
use Rattle.std.specs.Char.{len_utf8}
use Rattle.std.specs.Str.{chars, IsUtf8, IsCharBoundary, encode_utf8_all as encodes, all_scalars as scalars}
use Rattle.text_positions.proofs.Cuts.{length-encodes}
use Rattle.scheme_tokens.specs.Lexical.{Token, IsSpelled, IsSpelledFrom, behind_mark, byte_count, mark_bytes}
use Rattle.scheme_tokens.specs.Apart.{AreApart}
use Rattle.scheme_model.specs.Diagnostics.{Span}
use Rattle.scheme_tokens.specs.Faults.{FaultAt}
use Rattle.scheme_tokens.specs.Stopping.{IsRead}
use Rattle.scheme_tokens.proofs.Apart.{tokens_apart}
use Rattle.scheme_model.specs.Kinds as kinds
use Rattle.datum_reader.specs.Texts.{token_seen, TextReads}
use Rattle.text_edits.proofs.ReadLaws.{none_seen}
use Rattle.text_edits.specs.Edits.{Edit, AreInOrder}
use Rattle.text_edits.specs.NewNames.{edit_if, edits_from, edits_of, span_of}
use Rattle.text_edits.specs.Views.{AreCuts}

-- ---- places between characters

-- so many bytes stand before some of the characters
record IsStop (cs : List ℕ) (n : ℕ) : Type 0 where
  front : List ℕ
  back : List ℕ
  whole : cs ≡ front ++ back
  bytes : n ≡ byte_count front

scalars_back : (xs ys : List ℕ) → scalars (xs ++ ys) ≡ true → scalars ys ≡ true
scalars_back [] ys e = e
scalars_back (x ∷ xs) ys e = scalars_back xs ys (grind (arith, e))

stop_cuts : (text : List ℕ) → IsUtf8 text → (n : ℕ) → IsStop (chars text) n → IsCharBoundary text n
stop_cuts text utf8 n stop =
    let bytes : text ≡ encodes stop.front ++ encodes stop.back = sym (encodes-chars text utf8) ∙ ap encodes stop.whole ∙ encodes-append stop.front stop.back in
    let scalar : scalars stop.back ≡ true = scalars_back stop.front stop.back (ap scalars (sym stop.whole) ∙ scalars-chars text utf8) in
    subst (IsCharBoundary text) (length-encodes stop.front ∙ sym stop.bytes) (IsCharBoundary-at_seam text (encodes stop.front) (encodes stop.back) bytes (stop.back, (scalar, refl)))

counts : (xs ys : List ℕ) (at n : ℕ) → at ≡ byte_count xs → n ≡ at + byte_count ys → n ≡ byte_count (xs ++ ys)
counts xs ys at n e k = k ∙ ap (λ m. m + byte_count ys) e ∙ sym (sum_by-append len_utf8 xs ys)

-- ---- the edits of tokens

-- edits that can be made from a place on can be made from one before it
earlier : (text : List ℕ) (at to : ℕ) (es : List Edit) → at ≤ to → IsCharBoundary text at → AreCuts text to es → AreCuts text at es
earlier text at to [] h b c = b
earlier text at to (e ∷ es) h b c = (b, omega (arith, h, c.1), c.2, c.3, c.4)

one_cut : (text : List ℕ) (at : ℕ) (s : Span) (name : Option (List ℕ)) (es : List Edit) → IsCharBoundary text at → at ≤ s.start → s.start ≤ s.end → IsCharBoundary text s.start → AreCuts text s.end es →
    AreCuts text at (edit_if text s name ++ es)
one_cut text at s None es b h k c more = earlier text at s.end es (omega (arith, h, k)) b more
one_cut text at s (Some name) es b h k c more = (b, h, k, c, more)

module _ (new : ℕ → Option (List ℕ)) (text : List ℕ) (utf8 : IsUtf8 text) where
  tokens_cut : (n at : ℕ) (ts : List Token) (before rest : List ℕ) → chars text ≡ before ++ rest → at ≡ byte_count before → IsSpelledFrom at ts rest →
      AreCuts text at (edits_from new text n (map span_of (map token_seen ts)))
  tokens_cut n at [] before rest whole size spells = stop_cuts text utf8 at (record { front = before; back = rest; whole = whole; bytes = size })
  tokens_cut n at (t ∷ ts) before rest whole size spells =
      let f = spells.0 in
      let first : chars text ≡ (before ++ f.gap) ++ (f.glyphs ++ f.rest) = whole ∙ ap (λ xs. before ++ xs) f.whole ∙ sym (append_assoc before f.gap (f.glyphs ++ f.rest)) in
      let last : chars text ≡ ((before ++ f.gap) ++ f.glyphs) ++ f.rest = first ∙ sym (append_assoc (before ++ f.gap) f.glyphs f.rest) in
      let starts : t.start ≡ byte_count (before ++ f.gap) = counts before f.gap at t.start size f.starts in
      let ends : t.end ≡ byte_count ((before ++ f.gap) ++ f.glyphs) = counts (before ++ f.gap) f.glyphs t.start t.end starts f.ends in
      one_cut text at (span_of (token_seen t)) (new n) (edits_from new text (suc n) (map span_of (map token_seen ts)))
      (stop_cuts text utf8 at (record { front = before; back = rest; whole = whole; bytes = size }))
      (omega (arith, f.starts)) (omega (arith, f.ends))
      (stop_cuts text utf8 t.start (record { front = before ++ f.gap; back = f.glyphs ++ f.rest; whole = first; bytes = starts }))
      (tokens_cut (suc n) t.end ts ((before ++ f.gap) ++ f.glyphs) f.rest last ends spells.1)

-- a byte order mark is one character
record HasMark (cs : List ℕ) : Type 0 where
  front : List ℕ
  whole : cs ≡ front ++ behind_mark cs
  bytes : mark_bytes cs ≡ byte_count front

has_mark : (cs : List ℕ) → HasMark cs
has_mark [] = record { front = []; whole = refl; bytes = refl }
has_mark (c ∷ cs) = go (c == 0xFEFF) refl
  where
    go : (b : Bool) → (c == 0xFEFF) ≡ b → HasMark (c ∷ cs)
    go true e =
        let is : c ≡ 0xFEFF = grind (arith, nat_tests) in
        record {
          front = c ∷ [];
          whole = ap (λ xs. c ∷ xs) (sym (ap (λ b. cond b cs (c ∷ cs)) e));
          bytes = ap (λ b. cond b 3 0) e ∙ ap (λ d. byte_count (d ∷ [])) (sym is);
        }
    go false e = record { front = []; whole = sym (ap (λ b. cond b cs (c ∷ cs)) e); bytes = ap (λ b. cond b 3 0) e }

pub text_cut : (new : ℕ → Option (List ℕ)) (text : List ℕ) (ts : List Token) → IsUtf8 text → IsSpelled ts (chars text) → AreCuts text 0 (edits_of new text (map span_of (map token_seen ts)))
text_cut new text ts utf8 h =
    let mark = has_mark (chars text) in
    earlier text 0 (mark_bytes (chars text)) (edits_of new text (map span_of (map token_seen ts))) (omega arith) (IsCharBoundary-start text utf8)
    (tokens_cut new text utf8 0 (mark_bytes (chars text)) ts mark.front (behind_mark (chars text)) mark.whole mark.bytes h)

-- ---- edits in order

order_earlier : (at to end : ℕ) (es : List Edit) → at ≤ to → AreInOrder to es end → AreInOrder at es end
order_earlier at to end [] h c = omega (arith, h, c)
order_earlier at to end (e ∷ es) h c = (omega (arith, h, c.0), c.1, c.2)

one_in_order : (text : List ℕ) (at end : ℕ) (s : Span) (name : Option (List ℕ)) (es : List Edit) → at ≤ s.start → s.start < s.end → AreInOrder s.end es end → AreInOrder at (edit_if text s name ++ es) end
one_in_order text at end s None es h k c = order_earlier at s.end end es (omega (arith, h, k)) c
one_in_order text at end s (Some name) es h k c = (h, k, c)

pub in_order : (new : ℕ → Option (List ℕ)) (text : List ℕ) (n at end : ℕ) (ts : List Token) → AreApart at ts end → AreInOrder at (edits_from new text n (map span_of (map token_seen ts))) end
in_order new text n at end [] h = h
in_order new text n at end (t ∷ ts) h =
    one_in_order text at end (span_of (token_seen t)) (new n) (edits_from new text (suc n) (map span_of (map token_seen ts))) h.0 h.1 (in_order new text (suc n) t.end end ts h.2)

-- ---- of the tokens that a text has

same_spans : (ts : List kinds.Token) (us : List Token) → ts ≡ map token_seen us → map span_of ts ≡ map span_of (map token_seen us)
same_spans ts us e = ap (map span_of) e

pub can_edit : (new : ℕ → Option (List ℕ)) (text : List ℕ) (ts : List kinds.Token) (spans : List Span) (es : List Edit) → IsUtf8 text → TextReads (chars text) ts None → spans ≡ map span_of ts →
    es ≡ edits_of new text spans → AreCuts text 0 es
can_edit new text ts spans es utf8 read same e =
    let spelled = subst (λ (fin : Option FaultAt). IsRead read.0 fin (chars text)) (none_seen read.1 read.4) read.2 in
    subst (AreCuts text 0) (sym (e ∙ ap (edits_of new text) (same ∙ same_spans ts read.0 read.3))) (text_cut new text read.0 utf8 spelled)

pub text_in_order : (new : ℕ → Option (List ℕ)) (text : List ℕ) (ts : List kinds.Token) → IsUtf8 text → TextReads (chars text) ts None → AreInOrder 0 (edits_of new text (map span_of ts)) (length text)
text_in_order new text ts utf8 read =
    let spelled = subst (λ (fin : Option FaultAt). IsRead read.0 fin (chars text)) (none_seen read.1 read.4) read.2 in
    let size : byte_count (chars text) ≡ length text = sym (length-encodes (chars text)) ∙ ap length (encodes-chars text utf8) in
    subst (λ (q : List Span). AreInOrder 0 (edits_of new text q) (length text)) (sym (same_spans ts read.0 read.3))
    (subst (AreInOrder 0 (edits_of new text (map span_of (map token_seen read.0)))) size
    (in_order new text 0 0 (byte_count (chars text)) read.0 (tokens_apart (chars text) read.0 None spelled)))
