-- An edited text reads, and its data are the old ones with the new names.
use Rattle.std.proofs.Common.{◌≡◌, ℕ, zero, suc, ◌+◌, arith, List, [], ◌∷◌, map, Bool, false, refl, sym, ap, ◌∙◌, subst, Option, Some, None}
use Rattle.std.specs.Option.{option_map}
use Rattle.std.specs.Str.{chars, encode_utf8_all}
use Rattle.scheme_tokens.specs.Lexical as told
use Rattle.scheme_tokens.specs.Lexical.{IsSpelled, mark_bytes}
use Rattle.scheme_tokens.specs.Faults as faulty
use Rattle.scheme_tokens.specs.Stopping as stopping
use Rattle.scheme_model.specs.Kinds.{Name, Numeral, Quoted, Character, Truth, TokenKind, Paren, VectorParen, BytesParen, Close, Dot, Skip, Marked, Atomic, Token}
use Rattle.scheme_model.specs.Data.{Datum}
use Rattle.datum_reader.specs.Texts.{kind_seen, token_seen, stop_seen, TextReads, IsReading}
use Rattle.text_edits.specs.Edits.{edited}
use Rattle.text_edits.specs.Renamed.{datum_now}
use Rattle.text_edits.proofs.TokenEdits.{New, Fits, AllFit, edits, KindAs, AreRetold, GoBack, bars_in, new_if, news_from}
use Rattle.text_edits.proofs.EditLaws.{edited_reads}
use Rattle.text_edits.proofs.DataLaws.{kind_with, AreAlike, now_of, reading_now, told_now}

-- a kind without a new name
own_kind : (b : Bool) (k : TokenKind) → kind_with None b k ≡ k
own_kind b Paren = refl
own_kind b VectorParen = refl
own_kind b BytesParen = refl
own_kind b Close = refl
own_kind b Dot = refl
own_kind b Skip = refl
own_kind b (Marked mark) = refl
own_kind b (Atomic (Name name bars)) = refl
own_kind b (Atomic (Numeral text)) = refl
own_kind b (Atomic (Quoted text)) = refl
own_kind b (Atomic (Character c)) = refl
own_kind b (Atomic (Truth t)) = refl

-- which tokens stand between bars
abbrev pub bars_at : List told.Token → ℕ → Bool
bars_at [] n = false
bars_at (t ∷ ts) zero = bars_in t.kind
bars_at (t ∷ ts) (suc n) = bars_at ts n

-- this is told of the tokens from a number on
TellsBars : (ℕ → Bool) → ℕ → List told.Token → Type 0
TellsBars bars n us = (i : ℕ) → bars (n + i) ≡ bars_at us i

kind_told : (name : Option (List ℕ)) (b : Bool) (t u : told.Token) → Fits (new_if name t.kind) t → KindAs (new_if name t.kind) t.kind u.kind → b ≡ bars_in u.kind →
    kind_with name b (kind_seen t.kind) ≡ kind_seen u.kind
kind_told None b t u f h e = own_kind b (kind_seen t.kind) ∙ ap kind_seen (sym h)
kind_told (Some name) b t u f h e =
    ap (λ (k : told.TokenKind). kind_with (Some name) b (kind_seen k)) f.2 ∙ (λ j. Atomic (Name (chars name) ((e ∙ ap bars_in h.1) j))) ∙ ap kind_seen (sym h.1)

alike : (new : ℕ → Option (List ℕ)) (bars : ℕ → Bool) (n at to : ℕ) (ts us : List told.Token) → AllFit (news_from new n ts) ts → AreRetold at to (news_from new n ts) ts us → TellsBars bars n us →
    AreAlike new bars n (map token_seen ts) (map token_seen us)
unfolding TellsBars
alike new bars n at to [] [] f h b = tt
alike new bars n at to [] (u ∷ us) f h b = absurd h
alike new bars n at to (t ∷ ts) [] f h b = absurd h
alike new bars n at to (t ∷ ts) (u ∷ us) f h b =
    let here : n + 0 ≡ n = omega arith in
    (kind_told (new n) (bars n) t u f.0 h.0 (ap bars (sym here) ∙ b 0), alike new bars (suc n) t.end u.end ts us f.1 h.3 (behind bars n u us b))
  where
    behind : (bars : ℕ → Bool) (n : ℕ) (u : told.Token) (us : List told.Token) → TellsBars bars n (u ∷ us) → TellsBars bars (suc n) us
    behind bars n u us b i = let e : suc n + i ≡ n + suc i = omega arith in ap bars e ∙ b (suc i)

tells_bars : (us : List told.Token) → TellsBars (bars_at us) 0 us
unfolding TellsBars
tells_bars us i = let e : 0 + i ≡ i = omega arith in ap (bars_at us) e

-- the tokens of a reading
pub none_seen : (fin : Option faulty.FaultAt) → None ≡ option_map stop_seen fin → fin ≡ None
none_seen None e = refl
none_seen (Some f) e = cc

pub tokens_of : (text : List ℕ) (ds : List Datum) → (r : IsReading text ds) → (ts : List told.Token) × IsSpelled ts text × (r.tokens ≡ map token_seen ts)
tokens_of text ds r = let s = r.spelled in (s.0, subst (λ (fin : Option faulty.FaultAt). stopping.IsRead s.0 fin text) (none_seen s.1 s.4) s.2, s.3)

-- the edited text, and its reading
pub record IsReadEdited (new : ℕ → Option (List ℕ)) (ts : List told.Token) (text : List ℕ) (ds : List Datum) : Type 0 where
  pub other : List ℕ
  pub tokens : List told.Token
  pub bytes : encode_utf8_all other ≡ edited (edits (news_from new 0 ts) ts) (encode_utf8_all text)
  pub retold : AreRetold (mark_bytes text) (mark_bytes text) (news_from new 0 ts) ts tokens
  pub spelled : IsSpelled tokens other
  pub back : (ms : List (Option New)) → GoBack (encode_utf8_all text) (news_from new 0 ts) ms ts → edited (edits ms tokens) (encode_utf8_all other) ≡ encode_utf8_all text
  pub reading : IsReading other (map (datum_now (now_of new (bars_at tokens) (map token_seen tokens))) ds)

pub edited_data : (new : ℕ → Option (List ℕ)) (ts : List told.Token) (text : List ℕ) (ds : List Datum) → (r : IsReading text ds) → IsSpelled ts text → r.tokens ≡ map token_seen ts → AllFit (news_from new 0 ts) ts →
    IsReadEdited new ts text ds
edited_data new ts text ds r h e f =
    let w = edited_reads (news_from new 0 ts) ts text h f in
    let us = map token_seen w.tokens in
    let bars = bars_at w.tokens in
    record {
      other = w.other;
      tokens = w.tokens;
      bytes = w.bytes;
      retold = w.retold;
      spelled = w.spelled;
      back = w.back;
      reading = reading_now (now_of new bars us) (TextReads text) (TextReads w.other) ds us r (w.tokens, None, w.spelled, refl, refl)
          (told_now new bars r.tokens us (subst (λ (ts : List Token). AreAlike new bars 0 ts us) (sym e) (alike new bars 0 (mark_bytes text) (mark_bytes text) ts w.tokens f w.retold (tells_bars w.tokens))));
    }
