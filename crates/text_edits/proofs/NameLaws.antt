-- The identifiers of what was read are name tokens, so an edited document reads.
use Rattle.std.proofs.Common.{◌≡◌, ℕ, suc, ◌+◌, arith, List, [], ◌∷◌, ◌++◌, map, slice_get, Bool, true, false, refl, sym, ap, ◌∙◌, subst, inl, inr, ◌⊎◌, Option, Some, None, IfSome, ◌==◌}
use Rattle.std.specs.List.{flat_map}
use Rattle.std.specs.Str.{chars, encode_utf8_all, IsUtf8}
use Rattle.std.proofs.lemmas.Str.{encodes-chars, chars_from_encodes}
use Rattle.std.proofs.lemmas.Bool.{or_cases, or_left, or_right, eqb-true}
use Rattle.scheme_model.specs.Kinds as kinds
use Rattle.scheme_model.specs.Data.{Datum, atom, list, vector, bytes, spelled, implied, Data, none, part, tail, row}
use Rattle.scheme_model.specs.Program.{is_in}
use Rattle.scheme_model.specs.Sites.{name_tokens, name_tokens_all}
use Rattle.scheme_tokens.specs.Lexical.{TokenKind, Paren, VectorParen, BytesParen, Close, Dot, Skip, Marked, Atomic, Name, Numeral, Quoted, Character, Truth, Token}
use Rattle.scheme_tokens.specs.Lexical.{IsSpelled}
use Rattle.scheme_tokens.specs.Faults.{FaultAt}
use Rattle.scheme_tokens.specs.Stopping.{IsRead}
use Rattle.scheme_tokens.proofs.Readings.{one_reading}
use Rattle.datum_reader.specs.Texts.{kind_seen, token_seen, TextReads, IsReading}
use Rattle.datum_reader.proofs.NamePlaces.{From, Placed, AllPlaced, parts_placed}
use Rattle.text_edits.specs.Edits.{edited}
use Rattle.text_edits.specs.NewNames.{edits_of, span_of, NamesIdentifiers}
use Rattle.text_edits.specs.Renamed.{datum_now, IsRenamed}
use Rattle.text_edits.proofs.DataLaws.{now_of, start_at, end_at}
use Rattle.text_edits.proofs.ReadLaws.{tokens_of, none_seen, bars_at}
use Rattle.text_edits.proofs.MemberLaws.{AreNames, IsTextEdited, text_edited}

-- ---- names by their numbers

IsNumber : List kinds.Token → ℕ → Type 0
IsNumber tokens n = (name : List ℕ) × (bars : Bool) × (t : kinds.Token) × (slice_get tokens n ≡ Some t) × (t.kind ≡ kinds.Atomic (kinds.Name name bars))

nowhere : (n : ℕ) → is_in n [] ≡ true → ⊥
nowhere n h = cc

in_both : (n : ℕ) (ns ms : List ℕ) → is_in n (ns ++ ms) ≡ true → (is_in n ns ≡ true) ⊎ (is_in n ms ≡ true)
in_both n [] ms h = inr h
in_both n (m ∷ ns) ms h = elim (or_cases (n == m) (is_in n (ns ++ ms)) h) [
  | inl e ↦ inl (or_left (n == m) (is_in n ns) e)
  | inr e ↦ elim (in_both n ns ms e) [ inl f ↦ inl (or_right (n == m) (is_in n ns) f) | inr f ↦ inr f ]
]

only : (n m : ℕ) → is_in n (m ∷ []) ≡ true → n ≡ m
only n m h = elim (or_cases (n == m) false h) [ inl e ↦ eqb-true n m e | inr e ↦ absurd (nowhere n e) ]

module _ (tokens : List kinds.Token) where
  mutual
    unfolding IsNumber

    datum_names : (d : Datum) (n : ℕ) → Placed tokens d → is_in n (name_tokens d) ≡ true → IsNumber tokens n
    datum_names (atom p (spelled (kinds.Name name bars))) n q h =
        let e = only n p.first h in
        (q.name, q.bars, q.token, subst (λ (m : ℕ). slice_get tokens m ≡ Some q.token) (sym e) q.there, q.kind)
    datum_names (atom p (spelled (kinds.Numeral text))) n q h = absurd (nowhere n h)
    datum_names (atom p (spelled (kinds.Quoted text))) n q h = absurd (nowhere n h)
    datum_names (atom p (spelled (kinds.Character c))) n q h = absurd (nowhere n h)
    datum_names (atom p (spelled (kinds.Truth b))) n q h = absurd (nowhere n h)
    datum_names (atom p (implied mark)) n q h = absurd (nowhere n h)
    datum_names (list p ds) n q h = all_names p.first ds n q h
    datum_names (vector p ds) n q h = all_names p.first ds n q h
    datum_names (bytes p texts) n q h = absurd (nowhere n h)

    all_names : (low : ℕ) (ds : Data) (n : ℕ) → AllPlaced tokens low ds → is_in n (name_tokens_all ds) ≡ true → IsNumber tokens n
    all_names low none n q h = absurd (nowhere n h)
    all_names low (part d ds) n q h = elim (in_both n (name_tokens d) (name_tokens_all ds) h) [ inl e ↦ datum_names d n q.1.0 e | inr e ↦ all_names low ds n q.1.1 e ]
    all_names low (tail d) n q h = datum_names d n q.1 h

row_names : (ds : List Datum) → name_tokens_all (row ds none) ≡ flat_map name_tokens ds
row_names [] = refl
row_names (d ∷ ds) = ap (λ (q : List ℕ). name_tokens d ++ q) (row_names ds)

-- each name of the data of a text is a name token
names_told : (text : List ℕ) (ds : List Datum) (r : IsReading text ds) (n : ℕ) → is_in n (flat_map name_tokens ds) ≡ true → IsNumber r.tokens n
names_told text ds r n h =
    let begin : From r.tokens 0 _ = record { ts = r.tokens; numbered = r.formed; there = λ i. ap (slice_get r.tokens) (omega arith) } in
    let all = (parts_placed r.tokens r.written 0 0 [] (omega arith) begin).all none tt in
    all_names r.tokens 0 (row ds none) n (subst (λ (q : List Datum). AllPlaced r.tokens 0 (row q none)) (sym r.means) all) (ap (is_in n) (row_names ds) ∙ h)

-- ---- tokens

pub kind_told : (k : TokenKind) (name : List ℕ) (bars : Bool) → kind_seen k ≡ kinds.Atomic (kinds.Name name bars) → k ≡ Atomic (Name name bars)
kind_told Paren name bars h = cc
kind_told VectorParen name bars h = cc
kind_told BytesParen name bars h = cc
kind_told Close name bars h = cc
kind_told Dot name bars h = cc
kind_told Skip name bars h = cc
kind_told (Marked mark) name bars h = cc
kind_told (Atomic (Name other b)) name bars h = cc
kind_told (Atomic (Numeral text)) name bars h = cc
kind_told (Atomic (Quoted text)) name bars h = cc
kind_told (Atomic (Character c)) name bars h = cc
kind_told (Atomic (Truth b)) name bars h = cc

pub some_same : (t u : kinds.Token) → Some t ≡ Some u → t ≡ u
some_same t u h = cc

named_if : (name : Option (List ℕ)) (t : Token) → ((s : List ℕ) → name ≡ Some s → (old : List ℕ) × (bars : Bool) × (t.kind ≡ Atomic (Name old bars))) →
    IfSome name (λ name. (old : List ℕ) × (bars : Bool) × (t.kind ≡ Atomic (Name old bars)))
named_if None t h = tt
named_if (Some s) t h = h s refl

are_names : (tokens : List kinds.Token) (new : ℕ → Option (List ℕ)) → ((n : ℕ) (s : List ℕ) → new n ≡ Some s → IsNumber tokens n) → (number : ℕ) (ts : List Token) →
    ((i : ℕ) → slice_get tokens (number + i) ≡ slice_get (map token_seen ts) i) → AreNames new number ts
unfolding IsNumber
are_names tokens new h number [] there = tt
are_names tokens new h number (t ∷ ts) there =
    (named_if (new number) t named, are_names tokens new h (suc number) ts (λ i. ap (slice_get tokens) (omega arith) ∙ there (suc i)))
  where
    here : slice_get tokens number ≡ Some (token_seen t)
    here = ap (slice_get tokens) (omega arith) ∙ there 0

    named : (s : List ℕ) → new number ≡ Some s → (old : List ℕ) × (bars : Bool) × (t.kind ≡ Atomic (Name old bars))
    named s e =
        let n = h number s e in
        (n.0, n.1, kind_told t.kind n.0 n.1 (ap (λ (q : kinds.Token). q.kind) (some_same (token_seen t) n.2 (sym here ∙ n.3)) ∙ n.4))

-- ---- a text

-- the tokens of a text that has data
pub tokens_named : (new : ℕ → Option (List ℕ)) (text : List ℕ) (ds : List Datum) → (r : IsReading text ds) → NamesIdentifiers new ds → AreNames new 0 (tokens_of text ds r).0
tokens_named new text ds r named =
    let told = tokens_of text ds r in
    are_names r.tokens new (λ n s e. names_told text ds r n (named n s e)) 0 told.0 (λ i. ap (slice_get r.tokens) (omega arith) ∙ ap (λ (q : List kinds.Token). slice_get q i) told.2)

pub edited_text : (new : ℕ → Option (List ℕ)) (text : List ℕ) (ds : List Datum) → IsReading text ds → NamesIdentifiers new ds → IsTextEdited new text ds
edited_text new text ds r named = text_edited new text ds r (tokens_named new text ds r named)

-- a text has these tokens alone
pub same_tokens : (text : List ℕ) (ts : List kinds.Token) (us : List Token) → IsSpelled us text → TextReads text ts None → ts ≡ map token_seen us
same_tokens text ts us h read =
    let spelled = subst (λ (fin : Option FaultAt). IsRead read.0 fin text) (none_seen read.1 read.4) read.2 in
    read.3 ∙ ap (map token_seen) (one_reading read.0 us None None text spelled h).0

-- in bytes, as texts are kept
pub text_renamed : (new : ℕ → Option (List ℕ)) (text now : List ℕ) (ts : List kinds.Token) (ds : List Datum) → IsUtf8 text → TextReads (chars text) ts None → IsReading (chars text) ds → NamesIdentifiers new ds →
    IsUtf8 now → now ≡ edited (edits_of new text (map span_of ts)) text → IsRenamed new ds (chars now)
text_renamed new text now ts ds utf8 read r named utf8_now e =
    let w = edited_text new (chars text) ds r named in
    let same = same_tokens (chars text) ts w.tokens w.spelled read in
    let bytes : encode_utf8_all w.read.other ≡ now =
    w.bytes ∙ (λ j. edited (edits_of new (encodes-chars text utf8 j) (map span_of (sym same j))) (encodes-chars text utf8 j)) ∙ sym e in
    let us = map token_seen w.read.tokens in
    record {
      start = start_at us;
      end = end_at us;
      bars = bars_at w.read.tokens;
      reading = subst (λ (q : List ℕ). IsReading q (map (datum_now (now_of new (bars_at w.read.tokens) us)) ds)) (chars_from_encodes w.read.other now utf8_now bytes) w.read.reading;
    }
