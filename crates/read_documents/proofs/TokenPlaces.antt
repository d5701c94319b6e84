-- The bytes of a datum's first token are those of the token with its number (R7RS 7.1.2).
use Rattle.std.proofs.Common.{◌≡◌, ℕ, suc, ◌+◌, ◌≤◌, inl, inr, List, [], ◌∷◌, map, Option, Some, None, sym, ap, ◌∙◌, subst, arith}
use Rattle.std.specs.Prelude.{min}
use Rattle.std.specs.Option.{option_map}
use Rattle.scheme_tokens.specs.Lexical as lexical
use Rattle.scheme_tokens.specs.Lexical.{byte_count}
use Rattle.scheme_tokens.specs.Faults as faulty
use Rattle.scheme_tokens.specs.Stopping as stopping
use Rattle.scheme_model.specs.Kinds.{TokenKind, Token}
use Rattle.scheme_model.specs.Kinds as kinds
use Rattle.scheme_model.specs.Data.{Datum, place_of}
use Rattle.scheme_model.specs.Diagnostics.{Span, span_at}
use Rattle.scheme_model.specs.Numbered.{Spot, Numbered, number_from}
use Rattle.scheme_model.specs.Written.{Written, alone, listed, tailed, vectored, byted, abbreviated, Gap, nothing, skipped, Parts, last, next, Bytes, last_byte, byte, token, written_tokens, gap_tokens, parts_tokens, bytes_tokens, meant, parts_meant}
use Rattle.datum_reader.specs.FirstTokens.{first_token}
use Rattle.datum_reader.specs.Texts.{token_seen, kind_seen, stop_seen, TextReads, IsReading}
use Rattle.read_documents.specs.Readings.{span_of, span_seen}
use Rattle.datum_reader.proofs.TokensSeen.{text_once}

-- ---- how many bytes tokens have

-- those of one kind alone are as many as its characters
abbrev HasWidth : TokenKind → (start end : ℕ) → Type 0
HasWidth kinds.Paren a b = b ≡ a + 1
HasWidth kinds.VectorParen a b = b ≡ a + 2
HasWidth kinds.BytesParen a b = b ≡ a + 4
HasWidth kinds.Close a b = a ≤ b
HasWidth kinds.Dot a b = a ≤ b
HasWidth kinds.Skip a b = a ≤ b
HasWidth (kinds.Marked m) a b = a ≤ b
HasWidth (kinds.Atomic l) a b = a ≤ b

long : (a b n : ℕ) → b ≡ a + n → a ≤ b
long a b n e = omega (arith, e)

width : (k : lexical.TokenKind) (glyphs rest : List ℕ) (a b : ℕ) → lexical.IsToken k glyphs rest → b ≡ a + byte_count glyphs → HasWidth (kind_seen k) a b
width lexical.Paren glyphs rest a b is e = e ∙ ap (λ (g : List ℕ). a + byte_count g) is
width lexical.VectorParen glyphs rest a b is e = e ∙ ap (λ (g : List ℕ). a + byte_count g) is
width lexical.BytesParen glyphs rest a b (inl is) e = e ∙ ap (λ (g : List ℕ). a + byte_count g) is
width lexical.BytesParen glyphs rest a b (inr is) e = e ∙ ap (λ (g : List ℕ). a + byte_count g) is
width lexical.Close glyphs rest a b is e = long a b (byte_count glyphs) e
width lexical.Dot glyphs rest a b is e = long a b (byte_count glyphs) e
width lexical.Skip glyphs rest a b is e = long a b (byte_count glyphs) e
width (lexical.Marked m) glyphs rest a b is e = long a b (byte_count glyphs) e
width (lexical.Atomic l) glyphs rest a b is e = long a b (byte_count glyphs) e

rises : (k : TokenKind) (a b : ℕ) → HasWidth k a b → a ≤ b
rises kinds.Paren a b h = omega (arith, h)
rises kinds.VectorParen a b h = omega (arith, h)
rises kinds.BytesParen a b h = omega (arith, h)
rises kinds.Close a b h = h
rises kinds.Dot a b h = h
rises kinds.Skip a b h = h
rises (kinds.Marked m) a b h = h
rises (kinds.Atomic l) a b h = h

-- ---- tokens in order

module _ (spans : List Span) where
  -- from a place on, each with its width, and at its number
  abbrev InOrder : ℕ → List Numbered → Type 0
  InOrder at [] = Unit {0}
  InOrder at (x ∷ xs) = (at ≤ x.spot.start) × HasWidth x.kind x.spot.start x.spot.end × (span_at spans x.spot.number ≡ record { start = x.spot.start; end = x.spot.end }) × InOrder x.spot.end xs

  -- what is left of them
  record Left (at : ℕ) (rest : List Numbered) : Type 0 where
    place : ℕ
    later : at ≤ place
    order : InOrder place rest

  on : (at place : ℕ) (rest : List Numbered) → at ≤ place → Left place rest → Left at rest
  on at place rest le l = record { place = l.place; later = omega (arith, le, l.later); order = l.order }

  past : (at : ℕ) (x : Numbered) (xs : List Numbered) → InOrder at (x ∷ xs) → Left at xs
  past at x xs h = record { place = x.spot.end; later = omega (arith, h.0, rises x.kind x.spot.start x.spot.end h.1); order = h.3 }

  mutual
    gap_left : (g : Gap) (at : ℕ) (rest : List Numbered) → InOrder at (gap_tokens g rest) → Left at rest
    gap_left nothing at rest h = record { place = at; later = omega arith; order = h }
    gap_left (skipped s g w i) at rest h =
        let a = past at (token s kinds.Skip) (gap_tokens g (written_tokens w (gap_tokens i rest))) h in
        let b = gap_left g a.place (written_tokens w (gap_tokens i rest)) a.order in
        let c = written_left w b.place (gap_tokens i rest) b.order in
        let d = gap_left i c.place rest c.order in
        on at a.place rest a.later (on a.place b.place rest b.later (on b.place c.place rest c.later d))

    written_left : (w : Written) (at : ℕ) (rest : List Numbered) → InOrder at (written_tokens w rest) → Left at rest
    written_left (alone s leaf) at rest h = past at (token s (kinds.Atomic leaf)) rest h
    written_left (listed o ps c) at rest h =
        let a = past at (token o kinds.Paren) (parts_tokens ps (token c kinds.Close ∷ rest)) h in
        let b = parts_left ps a.place (token c kinds.Close ∷ rest) a.order in
        let d = past b.place (token c kinds.Close) rest b.order in
        on at a.place rest a.later (on a.place b.place rest b.later d)
    written_left (tailed o g w ps dot i t j c) at rest h =
        let end = token c kinds.Close ∷ rest in
        let behind = gap_tokens i (written_tokens t (gap_tokens j end)) in
        let a = past at (token o kinds.Paren) (gap_tokens g (written_tokens w (parts_tokens ps (token dot kinds.Dot ∷ behind)))) h in
        let b = gap_left g a.place (written_tokens w (parts_tokens ps (token dot kinds.Dot ∷ behind))) a.order in
        let d = written_left w b.place (parts_tokens ps (token dot kinds.Dot ∷ behind)) b.order in
        let e = parts_left ps d.place (token dot kinds.Dot ∷ behind) d.order in
        let f = past e.place (token dot kinds.Dot) behind e.order in
        let k = gap_left i f.place (written_tokens t (gap_tokens j end)) f.order in
        let l = written_left t k.place (gap_tokens j end) k.order in
        let m = gap_left j l.place end l.order in
        let n = past m.place (token c kinds.Close) rest m.order in
        on at a.place rest a.later (on a.place b.place rest b.later (on b.place d.place rest d.later (on d.place e.place rest e.later (on e.place f.place rest f.later (on f.place k.place rest k.later (on k.place l.place rest l.later (on l.place m.place rest m.later n)))))))
    written_left (vectored o ps c) at rest h =
        let a = past at (token o kinds.VectorParen) (parts_tokens ps (token c kinds.Close ∷ rest)) h in
        let b = parts_left ps a.place (token c kinds.Close ∷ rest) a.order in
        let d = past b.place (token c kinds.Close) rest b.order in
        on at a.place rest a.later (on a.place b.place rest b.later d)
    written_left (byted o bs c) at rest h =
        let a = past at (token o kinds.BytesParen) (bytes_tokens bs (token c kinds.Close ∷ rest)) h in
        let b = bytes_left bs a.place (token c kinds.Close ∷ rest) a.order in
        let d = past b.place (token c kinds.Close) rest b.order in
        on at a.place rest a.later (on a.place b.place rest b.later d)
    written_left (abbreviated s mark g w) at rest h =
        let a = past at (token s (kinds.Marked mark)) (gap_tokens g (written_tokens w rest)) h in
        let b = gap_left g a.place (written_tokens w rest) a.order in
        let c = written_left w b.place rest b.order in
        on at a.place rest a.later (on a.place b.place rest b.later c)

    parts_left : (ps : Parts) (at : ℕ) (rest : List Numbered) → InOrder at (parts_tokens ps rest) → Left at rest
    parts_left (last g) at rest h = gap_left g at rest h
    parts_left (next g w ps) at rest h =
        let a = gap_left g at (written_tokens w (parts_tokens ps rest)) h in
        let b = written_left w a.place (parts_tokens ps rest) a.order in
        let c = parts_left ps b.place rest b.order in
        on at a.place rest a.later (on a.place b.place rest b.later c)

    bytes_left : (bs : Bytes) (at : ℕ) (rest : List Numbered) → InOrder at (bytes_tokens bs rest) → Left at rest
    bytes_left (last_byte g) at rest h = gap_left g at rest h
    bytes_left (byte g s text fits bs) at rest h =
        let a = gap_left g at (token s (kinds.Atomic (kinds.Numeral text)) ∷ bytes_tokens bs rest) h in
        let b = past a.place (token s (kinds.Atomic (kinds.Numeral text))) (bytes_tokens bs rest) a.order in
        let c = bytes_left bs b.place rest b.order in
        on at a.place rest a.later (on a.place b.place rest b.later c)

  -- a list with a tail, up to its end
  tail_left : (o : Spot) (g : Gap) (w : Written) (ps : Parts) (dot : Spot) (i : Gap) (t : Written) (j : Gap) (c : Spot) (at : ℕ) (rest : List Numbered) → InOrder at (written_tokens (tailed o g w ps dot i t j c) rest) → Left o.end (token c kinds.Close ∷ rest)
  tail_left o g w ps dot i t j c at rest h =
      let end = token c kinds.Close ∷ rest in
      let behind = gap_tokens i (written_tokens t (gap_tokens j end)) in
      let b = gap_left g o.end (written_tokens w (parts_tokens ps (token dot kinds.Dot ∷ behind))) h.3 in
      let d = written_left w b.place (parts_tokens ps (token dot kinds.Dot ∷ behind)) b.order in
      let e = parts_left ps d.place (token dot kinds.Dot ∷ behind) d.order in
      let f = past e.place (token dot kinds.Dot) behind e.order in
      let k = gap_left i f.place (written_tokens t (gap_tokens j end)) f.order in
      let l = written_left t k.place (gap_tokens j end) k.order in
      let m = gap_left j l.place end l.order in
      on o.end b.place end b.later (on b.place d.place end d.later (on d.place e.place end e.later (on e.place f.place end f.later (on f.place k.place end k.later (on k.place l.place end l.later m)))))

  -- ---- the first token of a datum

  -- its bytes are those of the token with its number
  abbrev pub IsAtToken : Datum → Type 0
  IsAtToken d = span_seen (first_token d) ≡ span_at spans (place_of d).first

  opens : (a b n e : ℕ) → b ≡ a + n → b ≤ e → min (a + n) e ≡ b
  opens a b n e is le = omega (arith, is, le)

  opened : (o c : Spot) (n at place : ℕ) (rest : List Numbered) → span_at spans o.number ≡ record { start = o.start; end = o.end } → o.end ≡ o.start + n → o.end ≤ place → InOrder place (token c kinds.Close ∷ rest) →
      ◌≡◌ {A = Span} (record { start = o.start; end = min (o.start + n) c.end }) (span_at spans o.number)
  opened o c n at place rest there is le close =
      let e : min (o.start + n) c.end ≡ o.end = opens o.start o.end n c.end is (omega (arith, le, close.0, close.1)) in
      ap (λ (k : ℕ). record { start = o.start; end = k }) e ∙ sym there

  first_at : (w : Written) (at : ℕ) (rest : List Numbered) → InOrder at (written_tokens w rest) → IsAtToken (meant w)
  first_at (alone s leaf) at rest h = sym h.2
  first_at (listed o ps c) at rest h =
      let b = parts_left ps o.end (token c kinds.Close ∷ rest) h.3 in
      listed_at ps (opened o c 1 at b.place rest h.2 h.1 b.later b.order)
    where
      listed_at : (ps : Parts) → ◌≡◌ {A = Span} (record { start = o.start; end = min (o.start + 1) c.end }) (span_at spans o.number) → IsAtToken (meant (listed o ps c))
      listed_at (last g) e = e
      listed_at (next g (alone s leaf) ps) e = e
      listed_at (next g (listed a qs b) ps) e = e
      listed_at (next g (tailed a k w qs d i t j b) ps) e = e
      listed_at (next g (vectored a qs b) ps) e = e
      listed_at (next g (byted a bs b) ps) e = e
      listed_at (next g (abbreviated s mark k w) ps) e = e
  first_at (tailed o g w ps dot i t j c) at rest h =
      let e = tail_left o g w ps dot i t j c at rest h in
      tailed_at w (opened o c 1 at e.place rest h.2 h.1 e.later e.order)
    where
      tailed_at : (w : Written) → ◌≡◌ {A = Span} (record { start = o.start; end = min (o.start + 1) c.end }) (span_at spans o.number) → IsAtToken (meant (tailed o g w ps dot i t j c))
      tailed_at (alone s leaf) e = e
      tailed_at (listed a qs b) e = e
      tailed_at (tailed a k w qs d i t j b) e = e
      tailed_at (vectored a qs b) e = e
      tailed_at (byted a bs b) e = e
      tailed_at (abbreviated s mark k w) e = e
  first_at (vectored o ps c) at rest h =
      let b = parts_left ps o.end (token c kinds.Close ∷ rest) h.3 in
      opened o c 2 at b.place rest h.2 h.1 b.later b.order
  first_at (byted o bs c) at rest h =
      let b = bytes_left bs o.end (token c kinds.Close ∷ rest) h.3 in
      opened o c 4 at b.place rest h.2 h.1 b.later b.order
  first_at (abbreviated s mark g w) at rest h = sym h.2

  abbrev pub AreAtTokens : List Datum → Type 0
  AreAtTokens [] = Unit {0}
  AreAtTokens (d ∷ ds) = IsAtToken d × AreAtTokens ds

  firsts_at : (ps : Parts) (at : ℕ) (rest : List Numbered) → InOrder at (parts_tokens ps rest) → AreAtTokens (parts_meant ps)
  firsts_at (last g) at rest h = tt
  firsts_at (next g w ps) at rest h =
      let a = gap_left g at (written_tokens w (parts_tokens ps rest)) h in
      let b = written_left w a.place (parts_tokens ps rest) a.order in
      (first_at w a.place (parts_tokens ps rest) a.order, firsts_at ps b.place rest b.order)

  -- ---- the tokens of a text

  numbered_order : (us : List lexical.Token) (k at : ℕ) (text : List ℕ) → lexical.IsSpelledFrom at us text → ((i : ℕ) → span_at spans (k + i) ≡ span_at (map span_of (map token_seen us)) i) → InOrder at (number_from k (map token_seen us))
  numbered_order [] k at text h there = tt
  numbered_order (u ∷ us) k at text h there =
      let f = h.0 in
      let here : span_at spans k ≡ record { start = u.start; end = u.end } = ap (span_at spans) (omega arith) ∙ there 0 in
      (omega (arith, f.starts), width u.kind f.glyphs f.rest u.start u.end f.token f.ends, here, numbered_order us (suc k) u.end f.rest h.1 (λ i. ap (span_at spans) (omega arith) ∙ there (suc i)))

spelled_if : (us : List lexical.Token) (fin : Option faulty.FaultAt) (text : List ℕ) → stopping.IsRead us fin text → None ≡ option_map stop_seen fin → lexical.IsSpelled us text
spelled_if us None text read is = read
spelled_if us (Some f) text read is = cc

-- all data of a text
pub data_at_tokens : (text : List ℕ) (ts : List Token) (ds : List Datum) → TextReads text ts None → IsReading text ds → AreAtTokens (map span_of ts) ds
data_at_tokens text ts ds reads is =
    let same : ts ≡ is.tokens = (text_once text ts is.tokens None None reads is.spelled).0 in
    let spans = map span_of ts in
    let us = reads.0 in
    let spelled : lexical.IsSpelled us text = spelled_if us reads.1 text reads.2 reads.4 in
    let order : InOrder spans (lexical.mark_bytes text) (number_from 0 (map token_seen us)) = numbered_order spans us 0 (lexical.mark_bytes text) (lexical.behind_mark text) spelled (λ i. ap (λ (vs : List Token). span_at (map span_of vs) (0 + i)) reads.3 ∙ from_zero (map span_of (map token_seen us)) i) in
    let formed : number_from 0 (map token_seen us) ≡ parts_tokens is.written [] = ap (number_from 0) (sym reads.3 ∙ same) ∙ sym is.formed in
    subst (λ (es : List Datum). AreAtTokens spans es) (sym is.means) (firsts_at spans is.written (lexical.mark_bytes text) [] (subst (λ (xs : List Numbered). InOrder spans (lexical.mark_bytes text) xs) formed order))
  where
    from_zero : (ss : List Span) (i : ℕ) → span_at ss (0 + i) ≡ span_at ss i
    from_zero ss i = ap (span_at ss) (omega arith)
