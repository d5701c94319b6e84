-- A text is data exactly where reading says so, and else it stops where reading stops.
use Rattle.std.proofs.Common.{◌≡◌, ℕ, ◌≤◌, map, List, [], ◌∷◌, ◌++◌, Option, Some, None, Result, Ok, Err, refl, sym, ap, ◌∙◌, subst, arith, append-nil, inl, inr, ◌⊎◌, MatchResult}
use Rattle.scheme_model.specs.Kinds.{Token}
use Rattle.scheme_tokens.specs.declared.fault.ReadFault.{ReadFault}
use Rattle.scheme_tokens.specs.declared.fault.ReadFault.TheVariants as faults
use Rattle.scheme_tokens.specs.declared.token.Token as code_token
use Rattle.datum_reader.specs.Views.{tokens_of, data_of, told_of}
use Rattle.datum_reader.specs.OpenViews.{Fails, Gives}
use Rattle.scheme_tokens.specs.Views.{IsFront}
use Rattle.scheme_model.specs.Data.{Datum}
use Rattle.scheme_model.specs.Faults.{Stop}
use Rattle.scheme_model.specs.Numbered.{Numbered, number_from}
use Rattle.std.specs.Option.{option_map}
use Rattle.scheme_tokens.proofs.EveryText as every
use Rattle.datum_reader.specs.Texts.{TextReads, IsReading, StopsAt, Explains, token_seen, stop_seen}
use Rattle.datum_reader.specs.Open.{State, state, after, after_all, goes_on, finished, left_open, ends, read}
use Rattle.datum_reader.specs.declared.datum.Datum as code
use Rattle.scheme_model.specs.Written.{nothing, Parts, last, parts_tokens, parts_meant, parts_depth}
use Rattle.scheme_model.specs.Stopping.{AreData, CanGoOn, at_token, at_end, at_fault}
use Rattle.datum_reader.proofs.TokensSeen.{text_once, front_reads}
use Rattle.datum_reader.proofs.StepLaws.{stays_err}
use Rattle.datum_reader.proofs.ReadLaws.{reading_reads}
use Rattle.datum_reader.proofs.Passing.{pass_parts}
use Rattle.scheme_model.specs.Begun.{Begun, top, inside, start, begun_tokens}
use Rattle.datum_reader.proofs.Begun.{opener_in, begun_items, begun_stack, begun_state, Sound, parts_from}
use Rattle.datum_reader.proofs.Completing.{parts_from-tokens, parts_from-meant, parts_from-depth}
use Rattle.datum_reader.proofs.Reaching.{through}
use Rattle.datum_reader.proofs.Refusing.{sound_is, is_sound, refused_of, refuses, end_refused_of, end_refuses}
use Rattle.datum_reader.proofs.PassingBegun.{pass_begun}
use Rattle.datum_reader.proofs.Ending.{can_go_on}

-- ---- what is read is written so

never_ok : {A : Type 0} (e : Stop) (ds : List Datum) (r : Result (List Datum) Stop) → r ≡ Err e → r ≡ Ok ds → A
never_ok e ds r h k = let never : ⊥ = cc in absurd never

never_state : {A : Type 0} (e : Stop) (s : State) (r : Result State Stop) → r ≡ Err e → r ≡ Ok s → A
never_state e s r h k = let never : ⊥ = cc in absurd never

same_data : (ds es : List Datum) (r : Result (List Datum) Stop) → r ≡ Ok ds → r ≡ Ok es → ds ≡ es
same_data ds es r h k = cc

same_state : (s u : State) (r : Result State Stop) → r ≡ Ok s → r ≡ Ok u → s ≡ u
same_state s u r h k = cc

same_stop : (e f : Stop) (r : Result State Stop) → r ≡ Err e → r ≡ Err f → e ≡ f
same_stop e f r h k = cc

closed_reading : (b : Begun) (text : List ℕ) (ts : List Token) (ds : List Datum) → Sound b → TextReads text ts None → ((rest : List Numbered) → begun_tokens b rest ≡ number_from 0 ts ++ rest) →
    finished (begun_items b) (begun_stack b) ≡ Ok ds → IsReading text ds
closed_reading (top r g) text ts ds ok spelled joins h = record {
  tokens = ts;
  written = parts_from r (last g);
  spelled = spelled;
  formed = parts_from-tokens r (last g) [] ∙ joins [] ∙ append-nil (number_from 0 ts);
  shallow = omega (arith, parts_from-depth r (last g));
  means = same_data ds (begun_items (top r g)) (Ok ds) refl (sym h) ∙ sym (parts_from-meant r (last g) ∙ append-nil (begun_items (top r g)));
}
closed_reading (inside b s i) text ts ds ok spelled joins h = never_ok (left_open (opener_in i) s) ds (Err (left_open (opener_in i) s)) refl h

read_reading : (text : List ℕ) (ts : List Token) (ds : List Datum) (r : Result State Stop) → after_all (Ok (state [] [])) (number_from 0 ts) ≡ r → TextReads text ts None → ends r None ≡ Ok ds → IsReading text ds
read_reading text ts ds (Ok s) e spelled h =
    let t = through (number_from 0 ts) (top start nothing) s (omega arith) e in
    closed_reading t.now text ts ds t.sound spelled t.tokens (ap (λ (q : State). finished q.items q.stack) t.is ∙ h)
read_reading text ts ds (Err f) e spelled h = never_ok f ds (Err f) refl h

-- the data that reading the tokens of a text gives are those of the text
pub reading_of : (text : List ℕ) (ts : List Token) (ds : List Datum) → TextReads text ts None → read ts None ≡ Ok ds → IsReading text ds
reading_of text ts ds spelled h = read_reading text ts ds (after_all (Ok (state [] [])) (number_from 0 ts)) refl spelled h

-- ---- where reading stops, no data go on

after_all-append : (ts us : List Numbered) (r : Result State Stop) → after_all r (ts ++ us) ≡ after_all (after_all r ts) us
after_all-append [] us r = refl
after_all-append (t ∷ ts) us r = after_all-append ts us (goes_on r t)

passes : (ps : Parts) → parts_depth ps ≤ 400 → after_all (Ok (state [] [])) (parts_tokens ps []) ≡ Ok (state (parts_meant ps) [])
passes ps h = pass_parts ps [] [] [] (λ t. refl) (λ d xs. refl) (omega arith)

never_goes_on : (ts : List Numbered) (e : Stop) → after_all (Ok (state [] [])) ts ≡ Err e → ¬ CanGoOn ts
never_goes_on ts e h (more, (ps, formed, shallow)) =
    never_state e (state (parts_meant ps) []) (after_all (Ok (state [] [])) (parts_tokens ps []))
    (ap (after_all (Ok (state [] []))) formed ∙ after_all-append ts more (Ok (state [] [])) ∙ ap (λ (r : Result State Stop). after_all r more) h ∙ stays_err e more) (passes ps shallow)

never_data : (ts : List Numbered) (s : State) (e : Stop) → after_all (Ok (state [] [])) ts ≡ Ok s → finished s.items s.stack ≡ Err e → ¬ AreData ts
never_data ts s e h k (ps, formed, shallow) =
    let same = same_state (state (parts_meant ps) []) s (after_all (Ok (state [] [])) (parts_tokens ps [])) (passes ps shallow) (ap (after_all (Ok (state [] []))) formed ∙ h) in
    never_ok e (parts_meant ps) (finished s.items s.stack) k (sym (ap (λ (q : State). finished q.items q.stack) same))

-- the token at which reading stops
record Cut (s : State) (ts : List Numbered) (e : Stop) : Type 0 where
  before : List Numbered
  token : Numbered
  behind : List Numbered
  standing : State
  joins : ts ≡ before ++ token ∷ behind
  reads : after_all (Ok s) before ≡ Ok standing
  refuses : after token.kind token.spot standing ≡ Err e

cut_from : (t : Numbered) (ts : List Numbered) (s : State) (e : Stop) (r : Result State Stop) → ((u : State) → after_all (Ok u) ts ≡ Err e → Cut u ts e) → after t.kind t.spot s ≡ r → after_all r ts ≡ Err e → Cut s (t ∷ ts) e
cut_from t ts s e (Ok u) goes is h =
    let c = goes u h in
    record {
      before = t ∷ c.before;
      token = c.token;
      behind = c.behind;
      standing = c.standing;
      joins = ap (λ (q : List Numbered). t ∷ q) c.joins;
      reads = ap (λ (r : Result State Stop). after_all r c.before) is ∙ c.reads;
      refuses = c.refuses;
    }
cut_from t ts s e (Err f) goes is h =
    record { before = []; token = t; behind = ts; standing = s; joins = refl; reads = refl; refuses = is ∙ ap (λ (q : Stop). Err q) (same_stop f e (after_all (Err f) ts) (stays_err f ts) h) }

cut : (ts : List Numbered) (s : State) (e : Stop) → after_all (Ok s) ts ≡ Err e → Cut s ts e
cut [] s e h = never_state e s (Ok s) h refl
cut (t ∷ ts) s e h = cut_from t ts s e (after t.kind t.spot s) (λ u k. cut ts u e k) refl h

refused : (text : List ℕ) (ts : List Token) (end : Option Stop) (e : Stop) → TextReads text ts end → after_all (Ok (state [] [])) (number_from 0 ts) ≡ Err e → StopsAt text e
refused text ts end e reads h =
    let c = cut (number_from 0 ts) (state [] []) e h in
    let t = through c.before (top start nothing) c.standing (omega arith) c.reads in
    let whole : after_all (Ok (state [] [])) (c.before ++ c.token ∷ []) ≡ Err e =
    after_all-append c.before (c.token ∷ []) (Ok (state [] [])) ∙ ap (λ (r : Result State Stop). after_all r (c.token ∷ [])) c.reads ∙ c.refuses in
    at_token ts end c.before c.token c.behind e reads c.joins
    (record {
      goes_on = can_go_on c.before c.standing c.reads;
      stops = never_goes_on (c.before ++ c.token ∷ []) e whole;
      begun = t.now;
      sound = sound_is t.now t.sound;
      written = t.tokens [] ∙ append-nil c.before;
      because = refused_of t.now c.token.kind c.token.spot e (ap (after c.token.kind c.token.spot) t.is ∙ c.refuses);
    })

same_end : (e f : Stop) (r : Result (List Datum) Stop) → r ≡ Err e → r ≡ Err f → e ≡ f
same_end e f r h k = cc

again : (f e : Stop) (end : Option Stop) (r : Result State Stop) → r ≡ Err f → ends r end ≡ Err e → r ≡ Err e
again f e None r is h = is ∙ ap (λ (q : Stop). Err q) (same_end f e (ends r None) (ap (λ (q : Result State Stop). ends q None) is) h)
again f e (Some g) r is h = is ∙ ap (λ (q : Stop). Err q) (same_end f e (ends r (Some g)) (ap (λ (q : Result State Stop). ends q (Some g)) is) h)

stops_from : (text : List ℕ) (ts : List Token) (end : Option Stop) (e : Stop) (r : Result State Stop) → TextReads text ts end → after_all (Ok (state [] [])) (number_from 0 ts) ≡ r → ends r end ≡ Err e → StopsAt text e
stops_from text ts None e (Ok s) reads is h =
    let t = through (number_from 0 ts) (top start nothing) s (omega arith) is in
    at_end ts e reads
    (record {
      goes_on = can_go_on (number_from 0 ts) s is;
      stops = never_data (number_from 0 ts) s e is h;
      begun = t.now;
      sound = sound_is t.now t.sound;
      written = t.tokens [] ∙ append-nil (number_from 0 ts);
      because = end_refused_of t.now e (ap (λ (q : State). finished q.items q.stack) t.is ∙ h);
    })
stops_from text ts (Some f) e (Ok s) reads is h =
    subst (StopsAt text) (same_end f e (ends (Ok s) (Some f)) refl h) (at_fault ts f reads (can_go_on (number_from 0 ts) s is))
stops_from text ts None e (Err f) reads is h = refused text ts None e reads (is ∙ again f e None (Err f) refl h)
stops_from text ts (Some g) e (Err f) reads is h = refused text ts (Some g) e reads (is ∙ again f e (Some g) (Err f) refl h)

-- where reading the tokens of a text gives a fault, the text stops there
pub stops_at : (text : List ℕ) (ts : List Token) (end : Option Stop) (e : Stop) → TextReads text ts end → read ts end ≡ Err e → StopsAt text e
stops_at text ts end e reads h = stops_from text ts end e (after_all (Ok (state [] [])) (number_from 0 ts)) reads refl h

pub explained : (text : List ℕ) (ts : List Token) (end : Option Stop) (e : ReadFault) → TextReads text ts end → Fails e (read ts end) → Explains e text
explained text ts end faults.Memory reads h = tt
explained text ts end (faults.At number span) reads h = stops_at text ts end (record { number = number; start = span.start; end = span.end }) reads h

ends_ok : (end : Option Stop) (r : Result State Stop) (ds : List Datum) → ends r end ≡ Ok ds → end ≡ None
ends_ok None r ds h = refl
ends_ok (Some f) (Ok s) ds h = never_ok f ds (Err f) refl h
ends_ok (Some f) (Err e) ds h = never_ok e ds (Err e) refl h

-- what is answered is what the text means
pub found : (text : List ℕ) (tks : List code_token.Token) (fault : Option ReadFault) (ds : List Datum) → IsFront tks fault text →
    ((ts : List Token) (end : Option Stop) → TextReads text ts end → read ts end ≡ Ok ds) → IsReading text ds
found text tks fault ds front exact =
    let f = front_reads text tks fault front in
    let h = exact (tokens_of tks) f.0 f.1 in
    let whole = ends_ok f.0 (after_all (Ok (state [] [])) (number_from 0 (tokens_of tks))) ds h in
    reading_of text (tokens_of tks) ds (subst (λ (end : Option Stop). TextReads text (tokens_of tks) end) whole f.1) (ap (read (tokens_of tks)) (sym whole) ∙ h)

-- a fault that is answered is where the text stops
pub told : (text : List ℕ) (tks : List code_token.Token) (fault : Option ReadFault) (e : ReadFault) → IsFront tks fault text →
    ((ts : List Token) (end : Option Stop) → TextReads text ts end → Fails e (read ts end)) → Explains e text
told text tks fault e front exact =
    let f = front_reads text tks fault front in
    explained text (tokens_of tks) f.0 e f.1 (exact (tokens_of tks) f.0 f.1)

-- ---- reading stops wherever a text does

read_of : (ts : List Token) (end : Option Stop) (e : Stop) → after_all (Ok (state [] [])) (number_from 0 ts) ≡ Err e → read ts end ≡ Err e
read_of ts None e h = ap (λ (r : Result State Stop). ends r None) h
read_of ts (Some f) e h = ap (λ (r : Result State Stop). ends r (Some f)) h

at_fault_read : (ts : List Token) (f : Stop) (r : Result State Stop) → after_all (Ok (state [] [])) (number_from 0 ts) ≡ r → CanGoOn (number_from 0 ts) → ends r (Some f) ≡ Err f
at_fault_read ts f (Ok s) is goes = refl
at_fault_read ts f (Err e) is goes = absurd (never_goes_on (number_from 0 ts) e is goes)

begun_read : (b : Begun) (ts : List Numbered) → begun_tokens b [] ≡ ts → Sound b → after_all (Ok (state [] [])) ts ≡ Ok (begun_state b)
begun_read b ts e ok = ap (after_all (Ok (state [] []))) (sym e) ∙ pass_begun b [] ok

stop_read : (text : List ℕ) (e : Stop) → StopsAt text e → (ts : List Token) × (end : Option Stop) × TextReads text ts end × (read ts end ≡ Err e)
stop_read text e (at_token ts end before t behind fault reads joins r) = (
  ts,
  end,
  reads,
  read_of ts end fault
      (ap (after_all (Ok (state [] []))) joins ∙ after_all-append before (t ∷ behind) (Ok (state [] []))
      ∙ ap (λ (q : Result State Stop). after_all q (t ∷ behind)) (begun_read r.begun before r.written (is_sound r.begun r.sound))
      ∙ ap (λ (q : Result State Stop). after_all q behind) (refuses r.begun t.kind t.spot fault r.because) ∙ stays_err fault behind),
)
stop_read text e (at_end ts fault reads r) =
    (ts, None, reads, ap (λ (q : Result State Stop). ends q None) (begun_read r.begun (number_from 0 ts) r.written (is_sound r.begun r.sound)) ∙ end_refuses r.begun fault r.because)
stop_read text e (at_fault ts f reads goes) = (ts, Some f, reads, at_fault_read ts f (after_all (Ok (state [] [])) (number_from 0 ts)) refl goes)

same_fault : (e f : Stop) (r : Result (List Datum) Stop) → r ≡ Err e → r ≡ Err f → e ≡ f
same_fault e f r h k = cc

-- where a text stops, the answer is this fault
pub stops : (result : Result (List code.Datum) ReadFault) (text : List ℕ) (f : Stop) → ((ts : List Token) (end : Option Stop) → TextReads text ts end → Gives data_of result (read ts end)) → StopsAt text f →
    MatchResult result (λ _. ⊥) (λ e. (e ≡ faults.Memory) ⊎ (e ≡ told_of f))
stops (Ok items) text f exact h = let s = stop_read text f h in never_ok f (data_of items) (read s.0 s.1) s.3 (exact s.0 s.1 s.2)
stops (Err faults.Memory) text f exact h = inl refl
stops (Err (faults.At number span)) text f exact h =
    let s = stop_read text f h in
    inr (ap told_of (same_fault (record { number = number; start = span.start; end = span.end }) f (read s.0 s.1) (exact s.0 s.1 s.2) s.3))

-- a text stops at one place at most, and a text that is data stops nowhere
pub one_stop : (text : List ℕ) (e f : Stop) → StopsAt text e → StopsAt text f → e ≡ f
one_stop text e f h k =
    let s = stop_read text e h in
    let t = stop_read text f k in
    let o = text_once text s.0 t.0 s.1 t.1 s.2 t.2 in
    same_fault e f (read s.0 s.1) s.3 ((λ i. read (o.0 i) (o.1 i)) ∙ t.3)

pub never_reads_and_stops : (text : List ℕ) (ds : List Datum) (e : Stop) → IsReading text ds → ¬ StopsAt text e
never_reads_and_stops text ds e h k =
    let s = stop_read text e k in
    let o = text_once text h.tokens s.0 None s.1 h.spelled s.2 in
    never_ok e ds (read h.tokens None) ((λ i. read (o.0 i) (o.1 i)) ∙ s.3) (reading_reads text ds h)

-- a text that has tokens is data, or it stops
pub reads_or_stops : (text : List ℕ) (ts : List Token) (end : Option Stop) → TextReads text ts end → ((ds : List Datum) × IsReading text ds) ⊎ ((e : Stop) × StopsAt text e)
reads_or_stops text ts end reads = answered (read ts end) refl
  where
    answered : (r : Result (List Datum) Stop) → read ts end ≡ r → ((ds : List Datum) × IsReading text ds) ⊎ ((e : Stop) × StopsAt text e)
    answered (Ok ds) h =
        let whole = ends_ok end (after_all (Ok (state [] [])) (number_from 0 ts)) ds h in
        inl (ds, reading_of text ts ds (subst (λ (fin : Option Stop). TextReads text ts fin) whole reads) (ap (read ts) (sym whole) ∙ h))
    answered (Err e) h = inr (e, stops_at text ts end e reads h)

-- each text is data or stops somewhere
pub every_text : (text : List ℕ) → ((ds : List Datum) × IsReading text ds) ⊎ ((e : Stop) × StopsAt text e)
every_text text =
    let read = every.every_text text in
    reads_or_stops text (map token_seen read.0) (option_map stop_seen read.1) (read.0, read.1, read.2, refl, refl)
