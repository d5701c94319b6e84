-- What one token changes, with the frame on top taken off.
use Rattle.std.proofs.Common.{◌≡◌, ◌==◌, ◌+◌, ◌-◌, add-one, ℕ, suc, length, subst, List, [], ◌∷◌, ◌++◌, Bool, Option, Some, None, Result, Ok, Err, refl, sym, ap, ◌∙◌, cond}
use Rattle.datum_reader.specs.declared.datum.Datum as code
use Rattle.datum_reader.specs.declared.tail.Tail as code_tail
use Rattle.datum_reader.specs.declared.open.Frame as code_frame
use Rattle.datum_reader.specs.declared.open.Opener as code_opener
use Rattle.datum_reader.specs.declared.open.Opener.TheVariants as openers
use Rattle.scheme_tokens.specs.declared.fault.ReadFault.{ReadFault}
use Rattle.scheme_tokens.specs.declared.fault.ReadFault.TheVariants as told
use Rattle.scheme_model.specs.Kinds.{Leaf}
use Rattle.scheme_tokens.specs.declared.token.Token as code_token
use Rattle.datum_reader.specs.Views.{kind_of, tokens_of, data_of}
use Rattle.datum_reader.specs.OpenViews.{tail_datum, spot_of, opener_of, frame_of, stack_of, Fails, Refuses}
use Rattle.scheme_model.specs.Data.{Datum}
use Rattle.scheme_model.specs.Numbered.{Spot, Numbered, number_from}
use Rattle.scheme_model.specs.Faults.{Stop, bad_dot}
use Rattle.datum_reader.specs.Open.{Frame, State, state, Opener, in_list, in_vector, in_bytes, dotted, ended, marked, skipping, refused, refused_by, whole, reopened, byte_of, byte_added, abbreviation, completed, completed_by, completes, closed, closed_by, dots, dotted_by, atoms, atoms_by, after, after_all}
use Rattle.std.specs.List.{slice_get}
use Rattle.std.proofs.lemmas.Option.{same_Some}
use Rattle.datum_reader.proofs.StackLaws.{stack_push, last_frame}

pub completed_top : (d : Datum) (items : List Datum) (fs gs : List code_frame.Frame) (f : code_frame.Frame) (o : code_opener.Opener) → fs ≡ gs ++ f ∷ [] → f.opener ≡ o →
    completed d items (stack_of fs) ≡ completed_by (opener_of o) (frame_of f) d items (stack_of gs) (completed (abbreviation (spot_of f.spot) items d) (data_of f.before.items) (stack_of gs))
completed_top d items fs gs f o e is =
    ap (completed d items) (stack_push gs fs f e)
    ∙ ap (λ (v : code_opener.Opener). completed_by (opener_of v) (frame_of f) d items (stack_of gs) (completed (abbreviation (spot_of f.spot) items d) (data_of f.before.items) (stack_of gs))) is

-- an abbreviation is complete, in place of its datum
pub mark_step : (d d' : code_tail.Tail) (ws xs ys : List code.Datum) (fs gs : List code_frame.Frame) (f : code_frame.Frame) → fs ≡ gs ++ f ∷ [] → f.opener ≡ openers.Mark → ws ≡ xs → ys ≡ f.before.items →
    tail_datum d' ≡ abbreviation (spot_of f.spot) (data_of ws) (tail_datum d) → completed (tail_datum d') (data_of ys) (stack_of gs) ≡ completed (tail_datum d) (data_of xs) (stack_of fs)
mark_step d d' ws xs ys fs gs f e is had before made =
    ap (λ (q : Datum). completed q (data_of ys) (stack_of gs)) (made ∙ ap (λ (q : List code.Datum). abbreviation (spot_of f.spot) (data_of q) (tail_datum d)) had)
    ∙ ap (λ (q : List code.Datum). completed (abbreviation (spot_of f.spot) (data_of xs) (tail_datum d)) (data_of q) (stack_of gs)) before
    ∙ sym (completed_top (tail_datum d) (data_of xs) fs gs f openers.Mark e is)

pub fails_completes : (e : ReadFault) (r : Result Datum Stop) (items : List Datum) (fs : List Frame) → Fails e r → Fails e (completes r items fs)
fails_completes told.Memory r items fs h = tt
fails_completes (told.At n s) r items fs h = ap (λ (q : Result Datum Stop). completes q items fs) h

pub closed_top : (t : Spot) (items : List Datum) (fs gs : List code_frame.Frame) (f : code_frame.Frame) → fs ≡ gs ++ f ∷ [] →
    closed t items (stack_of fs) ≡ completes (closed_by (opener_of f.opener) (spot_of f.spot) t items) (data_of f.before.items) (stack_of gs)
closed_top t items fs gs f e = ap (closed t items) (stack_push gs fs f e)

pub dots_top : (t : Spot) (items : List Datum) (fs gs : List code_frame.Frame) (f : code_frame.Frame) (o : code_opener.Opener) → fs ≡ gs ++ f ∷ [] → f.opener ≡ o →
    dots t items (stack_of fs) ≡ dotted_by (opener_of o) t (frame_of f) items (stack_of gs)
dots_top t items fs gs f o e is = ap (dots t items) (stack_push gs fs f e) ∙ ap (λ (v : code_opener.Opener). dotted_by (opener_of v) t (frame_of f) items (stack_of gs)) is

pub atoms_top : (k : Leaf) (t : Spot) (items : List Datum) (fs gs : List code_frame.Frame) (f : code_frame.Frame) (o : code_opener.Opener) → fs ≡ gs ++ f ∷ [] → f.opener ≡ o →
    atoms k t items (stack_of fs) ≡ atoms_by (opener_of o) k t (frame_of f) items (stack_of gs)
atoms_top k t items fs gs f o e is = ap (atoms k t items) (stack_push gs fs f e) ∙ ap (λ (v : code_opener.Opener). atoms_by (opener_of v) k t (frame_of f) items (stack_of gs)) is

-- ---- where no datum may begin

pub refused_top : (t : Spot) (fs gs : List code_frame.Frame) (f : code_frame.Frame) (o : code_opener.Opener) → fs ≡ gs ++ f ∷ [] → f.opener ≡ o → refused (stack_of fs) t ≡ refused_by (opener_of o) t
refused_top t fs gs f o e is = ap (λ (q : List Frame). refused q t) (stack_push gs fs f e) ∙ ap (λ (v : code_opener.Opener). refused_by (opener_of v) t) is

pub never_refused : (r : ReadFault) → Refuses (Err r) None → ⊥
never_refused told.Memory h = h
never_refused (told.At n s) h = let never : ⊥ = cc in never

-- the refusal is the answer
pub refusal_fails : (r : ReadFault) (e : Stop) (a : Result State Stop) → Refuses (Err r) (Some e) → a ≡ Err e → Fails r a
refusal_fails told.Memory e a h is = tt
refusal_fails (told.At n s) e a h is = is ∙ ap (λ (x : Stop). Err x) (same_Some e (record { number = n; start = s.start; end = s.end }) h)

pub none_there : (fs : List code_frame.Frame) → length fs ≡ 0 → fs ≡ []
none_there [] h = refl
none_there (f ∷ fs) h = let never : ⊥ = cc in absurd never

atoms_by_free : (o : Opener) (k : Leaf) (t : Spot) (f : Frame) (items : List Datum) (fs : List Frame) → refused_by o t ≡ None → atoms_by o k t f items fs ≡ whole k t items (f ∷ fs)
atoms_by_free in_list k t f items fs h = refl
atoms_by_free (dotted dot) k t f items fs h = refl
atoms_by_free (ended dot d) k t f items fs h = absurd cc
atoms_by_free in_vector k t f items fs h = refl
atoms_by_free (in_bytes bs) k t f items fs h = absurd cc
atoms_by_free marked k t f items fs h = refl
atoms_by_free skipping k t f items fs h = refl

-- an atom where a datum may begin
pub atoms_free : (k : Leaf) (t : Spot) (items : List Datum) (fs : List Frame) → refused fs t ≡ None → atoms k t items fs ≡ whole k t items fs
atoms_free k t items [] h = refl
atoms_free k t items (f ∷ fs) h = atoms_by_free f.opener k t f items fs h

-- ---- where a datum is added as it is

abbrev pub Adds : code_opener.Opener → Type 0
Adds o = (g : Frame) (d : Datum) (items : List Datum) (rest : List Frame) (more : State) → completed_by (opener_of o) g d items rest more ≡ state (items ++ d ∷ []) (g ∷ rest)

pub added_top : (fs : List code_frame.Frame) (f : code_frame.Frame) (o : code_opener.Opener) (d : Datum) (items : List Datum) → slice_get fs (length fs - 1) ≡ Some f → f.opener ≡ o → Adds o →
    completed d items (stack_of fs) ≡ state (items ++ d ∷ []) (stack_of fs)
added_top fs f o d items at is adds =
    let l = last_frame [] fs f at in
    ap (completed d items) l.1
    ∙ ap (λ (v : code_opener.Opener). completed_by (opener_of v) (frame_of f) d items l.0 (completed (abbreviation (spot_of f.spot) items d) (data_of f.before.items) l.0)) is
    ∙ adds (frame_of f) d items l.0 (completed (abbreviation (spot_of f.spot) items d) (data_of f.before.items) l.0) ∙ ap (state (items ++ d ∷ [])) (sym l.1)

same_length : (xs : List code.Datum) → length (data_of xs) ≡ length xs
same_length [] = refl
same_length (x ∷ xs) = ap suc (same_length xs)

-- whether there is a part before a dot
pub none_before : (xs : List code.Datum) (b : Bool) → (length xs == 0) ≡ b → (length (data_of xs) == 0) ≡ b
none_before xs b h = ap (λ (n : ℕ). n == 0) (same_length xs) ∙ h

pub first_dot : (b : Bool) (items : List Datum) (t : Spot) (f : Frame) (fs : List Frame) → (length items == 0) ≡ b →
    dotted_by in_list t f items fs ≡ cond b (Err (bad_dot t)) (Ok (state items (reopened (dotted t) f ∷ fs)))
first_dot b items t f fs h = ap (λ (c : Bool). cond c (Err (bad_dot t)) (Ok (state items (reopened (dotted t) f ∷ fs)))) h

pub close_fails : (e : ReadFault) (t : Spot) (ws xs : List code.Datum) (fs gs : List code_frame.Frame) (f : code_frame.Frame) → fs ≡ gs ++ f ∷ [] → ws ≡ xs →
    Fails e (closed_by (opener_of f.opener) (spot_of f.spot) t (data_of ws)) → Fails e (closed t (data_of xs) (stack_of fs))
close_fails e t ws xs fs gs f joins had h =
    subst (λ (q : Result State Stop). Fails e q) (sym (closed_top t (data_of xs) fs gs f joins))
    (fails_completes e (closed_by (opener_of f.opener) (spot_of f.spot) t (data_of xs)) (data_of f.before.items) (stack_of gs)
    (subst (λ (q : List code.Datum). Fails e (closed_by (opener_of f.opener) (spot_of f.spot) t (data_of q))) had h))

pub close_gives : (d : code_tail.Tail) (t : Spot) (ws xs ys : List code.Datum) (fs gs : List code_frame.Frame) (f : code_frame.Frame) (s : State) → fs ≡ gs ++ f ∷ [] → ws ≡ xs → ys ≡ f.before.items →
    closed_by (opener_of f.opener) (spot_of f.spot) t (data_of ws) ≡ Ok (tail_datum d) → s ≡ completed (tail_datum d) (data_of ys) (stack_of gs) → closed t (data_of xs) (stack_of fs) ≡ Ok s
close_gives d t ws xs ys fs gs f s joins had before h k =
    closed_top t (data_of xs) fs gs f joins
    ∙ ap (λ (q : List code.Datum). completes (closed_by (opener_of f.opener) (spot_of f.spot) t (data_of q)) (data_of f.before.items) (stack_of gs)) (sym had)
    ∙ ap (λ (q : Result Datum Stop). completes q (data_of f.before.items) (stack_of gs)) h
    ∙ ap (λ (q : List code.Datum). Ok (completed (tail_datum d) (data_of q) (stack_of gs))) (sym before)
    ∙ ap (λ (q : State). Ok q) (sym k)

-- a bytevector with a numeral more, whatever its frame was
byte_shell : (o : Option (List ℕ)) (bs : List (List ℕ)) (t : Spot) (f : Frame) (items : List Datum) (fs : List Frame) → byte_added o bs t (reopened in_vector f) items fs ≡ byte_added o bs t f items fs
byte_shell None bs t f items fs = refl
byte_shell (Some text) bs t f items fs = refl

pub byte_same : (o : Option (List ℕ)) (bs cs : List (List ℕ)) (t : Spot) (f g : Frame) (items : List Datum) (fs : List Frame) → bs ≡ cs → g ≡ reopened in_vector f →
    byte_added o bs t g items fs ≡ byte_added o cs t f items fs
byte_same o bs cs t f g items fs h k =
    ap (λ (q : List (List ℕ)). byte_added o q t g items fs) h ∙ ap (λ (q : Frame). byte_added o cs t q items fs) k ∙ byte_shell o cs t f items fs

pub bytes_opener : (o : code_opener.Opener) (k : Leaf) (t : Spot) (items : List Datum) (fs : List Frame) (f : Frame) (bs : List (List ℕ)) → opener_of o ≡ in_bytes bs →
    atoms_by (opener_of o) k t f items fs ≡ byte_added (byte_of k) bs t f items fs
bytes_opener o k t items fs f bs h = ap (λ (q : Opener). atoms_by q k t f items fs) h

-- behind a fault nothing more is read
pub stays_err : (e : Stop) (ts : List Numbered) → after_all (Err e) ts ≡ Err e
stays_err e [] = refl
stays_err e (t ∷ ts) = stays_err e ts

pub fails_all : (e : ReadFault) (r : Result State Stop) (ts : List Numbered) → Fails e r → Fails e (after_all r ts)
fails_all told.Memory r ts h = tt
fails_all (told.At n s) r ts h = ap (λ (q : Result State Stop). after_all q ts) h ∙ stays_err (record { number = n; start = s.start; end = s.end }) ts

-- one token more
pub one_token : (s : State) (n : ℕ) (t : code_token.Token) (xs ys : List code_token.Token) → xs ≡ t ∷ ys →
    after_all (Ok s) (number_from n (tokens_of xs)) ≡ after_all (after (kind_of t.kind) (record { number = n; start = t.span.start; end = t.span.end }) s) (number_from (n + 1) (tokens_of ys))
one_token s n t xs ys e =
    ap (λ (q : List code_token.Token). after_all (Ok s) (number_from n (tokens_of q))) e
    ∙ ap (λ (m : ℕ). after_all (after (kind_of t.kind) (record { number = n; start = t.span.start; end = t.span.end }) s) (number_from m (tokens_of ys))) (sym (add-one n))

pub read_more : (all : Result State Stop) (s s' : State) (n : ℕ) (t : code_token.Token) (xs ys : List code_token.Token) → xs ≡ t ∷ ys → after_all (Ok s) (number_from n (tokens_of xs)) ≡ all →
    after (kind_of t.kind) (record { number = n; start = t.span.start; end = t.span.end }) s ≡ Ok s' → after_all (Ok s') (number_from (n + 1) (tokens_of ys)) ≡ all
read_more all s s' n t xs ys e inv h =
    ap (λ (r : Result State Stop). after_all r (number_from (n + 1) (tokens_of ys))) (sym h) ∙ sym (one_token s n t xs ys e) ∙ inv

pub read_fails : (e : ReadFault) (all : Result State Stop) (s : State) (n : ℕ) (t : code_token.Token) (xs ys : List code_token.Token) → xs ≡ t ∷ ys → after_all (Ok s) (number_from n (tokens_of xs)) ≡ all →
    Fails e (after (kind_of t.kind) (record { number = n; start = t.span.start; end = t.span.end }) s) → Fails e all
read_fails e all s n t xs ys joins inv h =
    subst (λ (r : Result State Stop). Fails e r) (sym (one_token s n t xs ys joins) ∙ inv)
    (fails_all e (after (kind_of t.kind) (record { number = n; start = t.span.start; end = t.span.end }) s) (number_from (n + 1) (tokens_of ys)) h)
