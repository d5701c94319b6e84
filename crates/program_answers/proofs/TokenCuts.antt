-- A text can be cut where its tokens begin and end (R7RS 7.1.1).
use Rattle.std.proofs.Common.{◌≡◌, ℕ, zero, suc, ◌+◌, ◌==◌, ◌≤◌, Bool, true, false, cond, List, [], ◌∷◌, ◌++◌, map, Option, Some, None, refl, sym, ap, ◌∙◌, subst, arith}
use Rattle.std.proofs.lemmas.List.{append_assoc}
use Rattle.std.proofs.lemmas.List.Sums.{sum_by-append}
use Rattle.std.proofs.lemmas.Bool.Decides.{nat_tests}
use Rattle.std.proofs.lemmas.Str.{encodes-chars, scalars-chars, encodes-append, IsCharBoundary-at_seam}
use Rattle.std.specs.Char.{len_utf8}
use Rattle.std.specs.Str.{chars, IsUtf8, IsCharBoundary, encode_utf8_all as encodes, all_scalars as scalars}
use Rattle.text_positions.proofs.Cuts.{length-encodes}
use Rattle.scheme_tokens.specs.Lexical as lexical
use Rattle.scheme_tokens.specs.Lexical.{First, IsSpelled, IsSpelledFrom, behind_mark, byte_count, mark_bytes}
use Rattle.scheme_model.specs.declared.Occ.{Occ}
use Rattle.scheme_model.specs.Diagnostics.{Bytes, Span, bytes_of, in_unit, span_at, spans_at, first_token}
use Rattle.scheme_model.specs.Program.{UnitResult, result_at}
use Rattle.datum_reader.specs.Texts.{token_seen}
use Rattle.document_store.specs.Texts.{Document}
use Rattle.program_answers.specs.Named.{CanCut}
use Rattle.read_documents.specs.Places.{spans_of}
use Rattle.read_documents.specs.Readings.{AreReadAs, IsReadAs, Read, Reads, Stops, span_of, spans_in}
use Rattle.program_answers.specs.ToldAnswers.{text_of}
use Rattle.read_documents.proofs.DocumentLaws.{spelled}

-- ---- in characters

-- so many bytes stand before some of the characters
record IsStop (cs : List ℕ) (n : ℕ) : Type 0 where
  front : List ℕ
  back : List ℕ
  whole : cs ≡ front ++ back
  bytes : n ≡ byte_count front

record AreStops (cs : List ℕ) (s : Span) : Type 0 where
  rises : s.start ≤ s.end
  first : IsStop cs s.start
  last : IsStop cs s.end

start_stop : (cs : List ℕ) → IsStop cs 0
start_stop cs = record { front = []; back = cs; whole = refl; bytes = refl }

no_stops : (cs : List ℕ) → AreStops cs (record { start = 0; end = 0 })
no_stops cs = record { rises = omega arith; first = start_stop cs; last = start_stop cs }

counts : (xs ys : List ℕ) (at n : ℕ) → at ≡ byte_count xs → n ≡ at + byte_count ys → n ≡ byte_count (xs ++ ys)
counts xs ys at n e k = k ∙ ap (λ m. m + byte_count ys) e ∙ sym (sum_by-append len_utf8 xs ys)

module _ (cs : List ℕ) where
  module _ (t : lexical.Token) (at : ℕ) (text before : List ℕ) (whole : cs ≡ before ++ text) (size : at ≡ byte_count before) (f : First at t text) where
    token_first : cs ≡ (before ++ f.gap) ++ (f.glyphs ++ f.rest)
    token_first = whole ∙ ap (λ xs. before ++ xs) f.whole ∙ sym (append_assoc before f.gap (f.glyphs ++ f.rest))

    token_last : cs ≡ ((before ++ f.gap) ++ f.glyphs) ++ f.rest
    token_last = token_first ∙ sym (append_assoc (before ++ f.gap) f.glyphs f.rest)

    token_starts : t.start ≡ byte_count (before ++ f.gap)
    token_starts = counts before f.gap at t.start size f.starts

    token_ends : t.end ≡ byte_count ((before ++ f.gap) ++ f.glyphs)
    token_ends = counts (before ++ f.gap) f.glyphs t.start t.end token_starts f.ends

    token_stops : AreStops cs (record { start = t.start; end = t.end })
    token_stops = record {
      rises = omega (arith, f.ends);
      first = record { front = before ++ f.gap; back = f.glyphs ++ f.rest; whole = token_first; bytes = token_starts };
      last = record { front = (before ++ f.gap) ++ f.glyphs; back = f.rest; whole = token_last; bytes = token_ends };
    }

  tokens_stop : (us : List lexical.Token) (at : ℕ) (text before : List ℕ) → cs ≡ before ++ text → at ≡ byte_count before → IsSpelledFrom at us text → (n : ℕ) → AreStops cs (span_at (map span_of (map token_seen us)) n)
  tokens_stop [] at text before whole size spells n = no_stops cs
  tokens_stop (t ∷ us) at text before whole size spells zero = token_stops t at text before whole size spells.0
  tokens_stop (t ∷ us) at text before whole size spells (suc n) =
      let f = spells.0 in
      tokens_stop us t.end f.rest ((before ++ f.gap) ++ f.glyphs) (token_last t at text before whole size f) (token_ends t at text before whole size f) spells.1 n

-- a byte order mark is one character
record HasMark (cs : List ℕ) : Type 0 where
  front : List ℕ
  whole : cs ≡ front ++ behind_mark cs
  bytes : mark_bytes cs ≡ byte_count front

has_mark : (cs : List ℕ) → HasMark cs
has_mark [] = record { front = []; whole = refl; bytes = refl }
has_mark (c ∷ cs) = go (c == 0xFEFF) refl
  where
    go : (b : Bool) → (c == 0xFEFF) ≡ b → HasMark (c ∷ cs)
    go true e =
        let is : c ≡ 0xFEFF = grind (arith, nat_tests) in
        record {
          front = c ∷ [];
          whole = ap (λ xs. c ∷ xs) (sym (ap (λ b. cond b cs (c ∷ cs)) e));
          bytes = ap (λ b. cond b 3 0) e ∙ ap (λ d. byte_count (d ∷ [])) (sym is);
        }
    go false e = record { front = []; whole = sym (ap (λ b. cond b cs (c ∷ cs)) e); bytes = ap (λ b. cond b 3 0) e }

spans_stop : (cs : List ℕ) (us : List lexical.Token) → IsSpelled us cs → (n : ℕ) → AreStops cs (span_at (map span_of (map token_seen us)) n)
spans_stop cs us spells n =
    let mark = has_mark cs in
    tokens_stop cs us (mark_bytes cs) (behind_mark cs) mark.front mark.whole mark.bytes spells n

-- ---- in bytes

scalars_back : (xs ys : List ℕ) → scalars (xs ++ ys) ≡ true → scalars ys ≡ true
scalars_back [] ys e = e
scalars_back (x ∷ xs) ys e = scalars_back xs ys (grind (arith, e))

module _ (text : List ℕ) (utf8 : IsUtf8 text) where
  boundary : (n : ℕ) → IsStop (chars text) n → IsCharBoundary text n
  boundary n stop =
      let bytes : text ≡ encodes stop.front ++ encodes stop.back = sym (encodes-chars text utf8) ∙ ap encodes stop.whole ∙ encodes-append stop.front stop.back in
      let scalar : scalars stop.back ≡ true = scalars_back stop.front stop.back (ap scalars (sym stop.whole) ∙ scalars-chars text utf8) in
      subst (IsCharBoundary text) (length-encodes stop.front ∙ sym stop.bytes) (IsCharBoundary-at_seam text (encodes stop.front) (encodes stop.back) bytes (stop.back, (scalar, refl)))

  can_cut : (s : Span) → AreStops (chars text) s → CanCut text s
  can_cut s stops = record { rises = stops.rises; first = boundary s.start stops.first; last = boundary s.end stops.last }

  nothing_cut : CanCut text (record { start = 0; end = 0 })
  nothing_cut = can_cut (record { start = 0; end = 0 }) (no_stops (chars text))

  read_cut : (r : Read) → IsReadAs text r → (n : ℕ) → CanCut text (span_at (spans_in r) n)
  read_cut (Reads uri ds spans) is n =
      let told = spelled (chars text) is.0 is.1 in
      let same : spans ≡ map span_of (map token_seen told.0) = is.2 ∙ ap (map span_of) told.2 in
      subst (λ (ss : List Span). CanCut text (span_at ss n)) (sym same) (can_cut _ (spans_stop (chars text) told.0 told.1 n))
  read_cut (Stops uri f) is n = nothing_cut

-- ---- in open documents

document_cut : (ds : List (List ℕ × Document)) (rs : List Read) → AreReadAs ds rs → (m n : ℕ) → IsUtf8 (text_of ds m) → CanCut (text_of ds m) (span_at (spans_at (spans_of rs) m) n)
document_cut ds [] are m n utf8 = nothing_cut (text_of ds m) utf8
document_cut [] (r ∷ rs) are m n utf8 = absurd are
document_cut (d ∷ ds) (r ∷ rs) are zero n utf8 = read_cut d.1.1 utf8 r are.0 n
document_cut (d ∷ ds) (r ∷ rs) are (suc m) n utf8 = document_cut ds rs are.1 m n utf8

-- the bytes of an occurrence can be cut out of its text
pub occ_cut : (ds : List (List ℕ × Document)) (rs : List Read) → AreReadAs ds rs → (us : List UnitResult) (o : Occ) (b : Bytes) → b ≡ bytes_of (spans_of rs) us o → IsUtf8 (text_of ds b.document) → CanCut (text_of ds b.document) b.span
occ_cut ds rs are us o b is utf8 = go (result_at us o.unit) is
  where
    go : (r : Option UnitResult) → b ≡ in_unit (spans_of rs) us r o → CanCut (text_of ds b.document) b.span
    go None e = subst (λ (s : Span). CanCut (text_of ds b.document) s) (sym (ap (λ (x : Bytes). x.span) e)) (nothing_cut (text_of ds b.document) utf8)
    go (Some r) e =
        subst (λ (s : Span). CanCut (text_of ds b.document) s)
        (sym (ap (λ (x : Bytes). x.span) e ∙ ap (λ (m : ℕ). span_at (spans_at (spans_of rs) m) (first_token r.unit.forms o.form + o.token)) (sym (ap (λ (x : Bytes). x.document) e))))
        (document_cut ds rs are b.document (first_token r.unit.forms o.form + o.token) utf8)
