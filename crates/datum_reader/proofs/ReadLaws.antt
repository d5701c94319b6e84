-- What reading a text answers, by the tokens that it has.
use Rattle.std.proofs.Common.{◌≡◌, ℕ, List, [], ◌∷◌, map, Option, Some, None, Result, Ok, Err, refl, sym, ap, ◌∙◌, subst, MatchResult}
use Rattle.scheme_model.specs.Kinds.{Token}
use Rattle.ls_base.specs.declared.places.Span.{Span}
use Rattle.datum_reader.specs.Views.{tokens_of, data_of, told_of, told_end, bytes_seen, bytes_of}
use Rattle.datum_reader.specs.OpenViews.{Fails, Gives}
use Rattle.scheme_tokens.specs.Views.{IsFront}
use Rattle.scheme_tokens.specs.declared.token.Token as code_token
use Rattle.scheme_tokens.specs.declared.fault.ReadFault.{ReadFault}
use Rattle.scheme_tokens.specs.declared.fault.ReadFault.TheVariants as told
use Rattle.scheme_model.specs.Data.{Datum}
use Rattle.scheme_model.specs.Faults.{Stop}
use Rattle.scheme_model.specs.Numbered.{number_from}
use Rattle.datum_reader.specs.Texts.{TextReads, IsReading}
use Rattle.datum_reader.specs.Open.{State, state, after_all, finished, ends, read}
use Rattle.datum_reader.specs.declared.datum.Datum as code
use Rattle.datum_reader.proofs.TokensSeen.{text_once, front_reads}
use Rattle.datum_reader.proofs.Passing.{reads_parts}

-- what is open behind the tokens of a text
abbrev pub behind : List Token → Result State Stop
behind ts = after_all (Ok (state [] [])) (number_from 0 ts)

ends_fault : (e : ReadFault) (r : Result State Stop) (end : Option Stop) → Fails e r → Fails e (ends r end)
ends_fault told.Memory r end h = tt
ends_fault (told.At n s) r end h = ap (λ (q : Result State Stop). ends q end) h

told_none : (end : Option Stop) → None ≡ told_end end → end ≡ None
told_none None h = refl
told_none (Some f) h = cc

told_some : (fault : ReadFault) (end : Option Stop) → Some fault ≡ told_end end → (f : Stop) × (end ≡ Some f) × (fault ≡ told_of f)
told_some fault None h = cc
told_some fault (Some f) h = (f, refl, cc)

-- a text has one front
pub one_front : (text : List ℕ) (tks vs : List code_token.Token) (fault : Option ReadFault) (ts : List Token) (end : Option Stop) → IsFront tks fault text → vs ≡ tks → TextReads text ts end →
    (tokens_of vs ≡ ts) × (fault ≡ told_end end)
one_front text tks vs fault ts end front e h =
    let f = front_reads text tks fault front in
    let o = text_once text (tokens_of tks) ts f.0 end f.1 h in
    (ap tokens_of e ∙ o.0, f.2 ∙ ap told_end o.1)

-- the bytes of tokens
spans_alike : (vs : List code_token.Token) → map bytes_seen (map (λ (t : code_token.Token). t.span) vs) ≡ map bytes_of (tokens_of vs)
spans_alike [] = refl
spans_alike (v ∷ vs) = ap (λ (bs : List (ℕ × ℕ)). bytes_seen v.span ∷ bs) (spans_alike vs)

pub spans_told : (vs tks : List code_token.Token) (ts : List Token) (spans : List Span) → tokens_of vs ≡ ts → vs ≡ tks → spans ≡ map (λ (t : code_token.Token). t.span) tks → map bytes_seen spans ≡ map bytes_of ts
spans_told vs tks ts spans same e is =
    ap (map bytes_seen) (is ∙ ap (map (λ (t : code_token.Token). t.span)) (sym e)) ∙ spans_alike vs ∙ ap (map bytes_of) same

pub fails_within : (e : ReadFault) (us ts : List Token) (end : Option Stop) → us ≡ ts → Fails e (behind us) → Fails e (read ts end)
fails_within e us ts end same h = ends_fault e (behind ts) end (subst (λ (q : List Token). Fails e (behind q)) same h)

pub fails_end : (e : ReadFault) (s : State) (us ts : List Token) (fault : Option ReadFault) (end : Option Stop) → us ≡ ts → behind us ≡ Ok s → fault ≡ told_end end → fault ≡ None →
    Fails e (finished s.items s.stack) → Fails e (read ts end)
fails_end e s us ts fault end same h told is k =
    let none = told_none end (sym is ∙ told) in
    subst (λ (q : Result (List Datum) Stop). Fails e q) (sym (ap (ends (behind ts)) none ∙ ap (λ (q : Result State Stop). ends q None) (ap behind (sym same) ∙ h))) k

pub reads_end : (ds : List Datum) (s : State) (us ts : List Token) (fault : Option ReadFault) (end : Option Stop) → us ≡ ts → behind us ≡ Ok s → fault ≡ told_end end → fault ≡ None →
    finished s.items s.stack ≡ Ok ds → read ts end ≡ Ok ds
reads_end ds s us ts fault end same h told is k =
    let none = told_none end (sym is ∙ told) in
    ap (ends (behind ts)) none ∙ ap (λ (q : Result State Stop). ends q None) (ap behind (sym same) ∙ h) ∙ k

pub fails_token : (e : ReadFault) (s : State) (us ts : List Token) (fault : Option ReadFault) (end : Option Stop) → us ≡ ts → behind us ≡ Ok s → fault ≡ told_end end → fault ≡ Some e → Fails e (read ts end)
fails_token e s us ts fault end same h told is =
    let some = told_some e end (sym is ∙ told) in
    let whole : read ts end ≡ Err some.0 = ap (ends (behind ts)) some.1 ∙ ap (λ (q : Result State Stop). ends q (Some some.0)) (ap behind (sym same) ∙ h) in
    subst (λ (q : ReadFault). Fails q (read ts end)) (sym some.2) whole

never : (e : Stop) (ds : List Datum) (r : Result (List Datum) Stop) → r ≡ Err e → r ≡ Ok ds → ⊥
never e ds r h k = cc

-- what a text's data are is what reading its tokens gives
pub reading_reads : (text : List ℕ) (ds : List Datum) (h : IsReading text ds) → read h.tokens None ≡ Ok ds
reading_reads text ds h = reads_parts h.written h.tokens h.formed h.shallow ∙ ap (λ (q : List Datum). Ok q) (sym h.means)

ok_same : (ds es : List Datum) (r : Result (List Datum) Stop) → r ≡ Ok ds → r ≡ Ok es → ds ≡ es
ok_same ds es r h k = cc

pub one_reading : (text : List ℕ) (ds es : List Datum) → IsReading text ds → IsReading text es → ds ≡ es
one_reading text ds es h k =
    let o = text_once text h.tokens k.tokens None None h.spelled k.spelled in
    ok_same ds es (read h.tokens None) (reading_reads text ds h) (ap (λ (q : List Token). read q None) o.0 ∙ reading_reads text es k)

-- where a text has data, the answer is these
pub answers : (result : Result (List code.Datum) ReadFault) (text : List ℕ) (ds : List Datum) →
    ((ts : List Token) (end : Option Stop) → TextReads text ts end → Gives data_of result (read ts end)) → IsReading text ds → MatchResult result (λ items. data_of items ≡ ds) (λ e. e ≡ told.Memory)
answers (Ok items) text ds exact h = ok_same (data_of items) ds (read h.tokens None) (exact h.tokens None h.spelled) (reading_reads text ds h)
answers (Err told.Memory) text ds exact h = refl
answers (Err (told.At n s)) text ds exact h = absurd (never (record { number = n; start = s.start; end = s.end }) ds (read h.tokens None) (exact h.tokens None h.spelled) (reading_reads text ds h))
