-- A token that is written anew as it stands keeps its name (R7RS 7.1.1).
use Rattle.std.proofs.Common.{◌≡◌, ℕ, zero, suc, ◌+◌, ◌-◌, arith, length, List, [], ◌∷◌, ◌++◌, map, take, drop, slice_get, Bool, true, false, refl, sym, ap, ◌∙◌, subst, inl, inr, Option, Some, None}
use Rattle.std.specs.List.{slice_range}
use Rattle.std.specs.Str.{chars, encode_utf8_all, IsUtf8}
use Rattle.std.proofs.Math.Seq.{take-append_seam}
use Rattle.std.proofs.lemmas.Str.{encodes-chars}
use Rattle.scheme_model.specs.Kinds as kinds
use Rattle.scheme_tokens.specs.Lexical.{byte_count, TokenKind, Atomic, Name, IsToken, Token, IsSpelledFrom, mark_bytes, behind_mark}
use Rattle.scheme_tokens.specs.Faults.{FaultAt}
use Rattle.scheme_tokens.specs.Spelling.{IsSpelling}
use Rattle.scheme_tokens.specs.Stopping.{IsRead}
use Rattle.scheme_tokens.specs.Mirror.Spelled.{spelled}
use Rattle.scheme_tokens.proofs.Apart.{one_first, spelled_before}
use Rattle.scheme_tokens.proofs.Fronts.{byte_count-encodes}
use Rattle.scheme_tokens.proofs.Same.Spelling.{spelling}
use Rattle.datum_reader.specs.Texts.{token_seen, TextReads}
use Rattle.text_edits.specs.NewNames.{begins_with_bar, written}
use Rattle.text_edits.proofs.GlyphLaws.{all_before, bars_begin, behind_gap, encodes_same, length_before}
use Rattle.text_edits.proofs.MemberLaws.{mark_front}
use Rattle.text_edits.proofs.NameLaws.{kind_told, some_same}
use Rattle.text_edits.proofs.ReadLaws.{none_seen}

-- ---- the characters of a name token

record HasGlyphs (bytes old : List ℕ) (bars : Bool) (t : kinds.Token) : Type 0 where
  glyphs : List ℕ
  rest : List ℕ
  token : IsToken (Atomic (Name old bars)) glyphs rest
  here : drop t.start bytes ≡ encode_utf8_all glyphs ++ encode_utf8_all rest
  size : t.end - t.start ≡ length (encode_utf8_all glyphs)

find : (bytes old : List ℕ) (bars : Bool) (t : kinds.Token) (n at : ℕ) (front rest : List ℕ) (ts : List Token) → at ≡ length front → front ++ encode_utf8_all rest ≡ bytes → IsSpelledFrom at ts rest →
    slice_get (map token_seen ts) n ≡ Some t → t.kind ≡ kinds.Atomic (kinds.Name old bars) → HasGlyphs bytes old bars t
find bytes old bars t n at front rest [] size whole spells there kind = cc
find bytes old bars t zero at front rest (u ∷ ts) size whole spells there kind =
    let f = spells.0 in
    let same : token_seen u ≡ t = some_same (token_seen u) t there in
    let start : t.start ≡ length front + byte_count f.gap = omega (arith, f.starts, size, ap (λ (q : kinds.Token). q.start) same) in
    let whole_now : front ++ encode_utf8_all (f.gap ++ (f.glyphs ++ f.rest)) ≡ bytes = ap (λ (q : List ℕ). front ++ encode_utf8_all q) (sym f.whole) ∙ whole in
    let first : u.start ≡ t.start = ap (λ (q : kinds.Token). q.start) same in
    let last : u.end ≡ t.end = ap (λ (q : kinds.Token). q.end) same in
    record {
      glyphs = f.glyphs;
      rest = f.rest;
      token = subst (λ (k : TokenKind). IsToken k f.glyphs f.rest) (kind_told u.kind old bars (ap (λ (q : kinds.Token). q.kind) same ∙ kind)) f.token;
      here = ap (drop t.start) (sym whole_now) ∙ behind_gap front f.gap f.glyphs f.rest t.start start;
      size = omega (arith, f.ends, first, last, byte_count-encodes f.glyphs);
    }
find bytes old bars t (suc n) at front rest (u ∷ ts) size whole spells there kind =
    let f = spells.0 in
    let before = front ++ encode_utf8_all (f.gap ++ f.glyphs) in
    let same : before ++ encode_utf8_all f.rest ≡ bytes = all_before front f.gap f.glyphs f.rest ∙ ap (λ (q : List ℕ). front ++ encode_utf8_all q) (sym f.whole) ∙ whole in
    let place : u.end ≡ length before = length_before front f.gap f.glyphs at u.start u.end size f.starts f.ends in
    find bytes old bars t n u.end before f.rest ts place same spells.1 there kind

-- ---- its name

named_again : (name old glyphs rest : List ℕ) (bars : Bool) → IsToken (Atomic (Name old bars)) glyphs rest → IsSpelling name bars glyphs → (b : Bool) × IsToken (Atomic (Name name b)) glyphs rest
named_again name old glyphs rest true h s = spelled_before name glyphs rest true s (inl s)
named_again name old glyphs rest false h s = spelled_before name glyphs rest false s (inr h.3.1)

same_name : (name old : List ℕ) (b bars : Bool) → Atomic (Name name b) ≡ Atomic (Name old bars) → name ≡ old
same_name name old b bars h = cc

own : (bytes old : List ℕ) (bars : Bool) (t : kinds.Token) (name : List ℕ) → HasGlyphs bytes old bars t → written name (begins_with_bar (drop t.start bytes)) ≡ slice_range bytes t.start t.end → chars name ≡ old
own bytes old bars t name g h =
    let begins : begins_with_bar (drop t.start bytes) ≡ bars = ap begins_with_bar g.here ∙ bars_begin old g.glyphs g.rest (encode_utf8_all g.rest) bars g.token in
    let slice : slice_range bytes t.start t.end ≡ encode_utf8_all g.glyphs = (λ j. take (g.size j) (g.here j)) ∙ take-append_seam (encode_utf8_all g.glyphs) (encode_utf8_all g.rest) in
    let glyphs : spelled (chars name) bars ≡ g.glyphs = encodes_same (spelled (chars name) bars) g.glyphs (ap (written name) (sym begins) ∙ h ∙ slice) in
    let again = named_again (chars name) old g.glyphs g.rest bars g.token (subst (IsSpelling (chars name) bars) glyphs (spelling (chars name) bars)) in
    same_name (chars name) old again.0 bars (one_first (Atomic (Name (chars name) again.0)) (Atomic (Name old bars)) g.glyphs g.glyphs g.rest g.rest refl again.1 g.token).0

pub own_name : (text : List ℕ) (ts : List kinds.Token) (n : ℕ) (t : kinds.Token) (old name : List ℕ) (bars : Bool) → IsUtf8 text → TextReads (chars text) ts None → slice_get ts n ≡ Some t →
    t.kind ≡ kinds.Atomic (kinds.Name old bars) → written name (begins_with_bar (drop t.start text)) ≡ slice_range text t.start t.end → chars name ≡ old
own_name text ts n t old name bars utf8 read there kind h =
    let spells = subst (λ (fin : Option FaultAt). IsRead read.0 fin (chars text)) (none_seen read.1 read.4) read.2 in
    let front = mark_front (chars text) in
    let there_seen : slice_get (map token_seen read.0) n ≡ Some t = ap (λ (q : List kinds.Token). slice_get q n) (sym read.3) ∙ there in
    own text old bars t name (find text old bars t n (mark_bytes (chars text)) front.0 (behind_mark (chars text)) read.0 front.1 (front.2 ∙ encodes-chars text utf8) spells there_seen kind) h
