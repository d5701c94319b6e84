-- Every stream has a reading.
use Rattle.std.proofs.Common.{◌≡◌, ℕ, ◌<◌, ◌≤◌, List, [], ◌∷◌, ◌++◌, refl, sym, ap, ◌∙◌, arith, length, subst, append_assoc, append-nil, Bool, true, false, nat_lt, Result, Ok, Err, None}
use Rattle.std.specs.List.{AllByRecursion}
use Rattle.std.proofs.lemmas.List.{length-append}
use Rattle.std.proofs.lemmas.Bool.Decides.{nat_tests}
use Rattle.ls_base.specs.Frames.{Frame, IsFrame, IsHeader, stream, bodies_of, End, rest, fault, IsFrames}
use Rattle.lsp_framing.specs.Machine.{kind_of, next}
use Rattle.lsp_framing.specs.Standing.{InHeader, OpenIn, StandsIn}
use Rattle.lsp_framing.specs.declared.header.HeaderState.{HeaderState}
use Rattle.lsp_framing.specs.declared.header.HeaderState.TheVariants.{Line}
use Rattle.lsp_framing.specs.declared.header.State.{State}
use Rattle.lsp_framing.specs.declared.header.State.TheVariants.{Header, Body}
use Rattle.lsp_framing.specs.declared.header.Wrong.{Wrong}
use Rattle.lsp_framing.proofs.Streams.{stream_append}
use Rattle.lsp_framing.proofs.Stands.{nothing, header_more, stands_rest, refused_fault}
use Rattle.lsp_framing.proofs.Going.{each_append, stream_both}

-- a reading of these bytes
abbrev pub HasReading : List ℕ → Type 0
HasReading bytes = (bodies : List (List ℕ)) × (end : End) × IsFrames bytes bodies end

-- some bytes stand after whole frames
pub record At (past : List ℕ) (s : State) : Type 0 where
  pub frames : List Frame
  pub header : List ℕ
  pub body : List ℕ
  pub each : AllByRecursion IsFrame frames
  pub begins : past ≡ stream frames (header ++ body)
  pub stands : StandsIn s header body

less : (m n : ℕ) → nat_lt m n ≡ true → m < n
less m n h = grind (arith, nat_tests)

not_less : (m n : ℕ) → nat_lt m n ≡ false → n ≤ m
not_less m n h = grind (arith, nat_tests)

-- a frame whose body may be whole
close_body : (b : Bool) (past : List ℕ) (fs : List Frame) (n : ℕ) (header body : List ℕ) → AllByRecursion IsFrame fs → past ≡ stream fs (header ++ body) → OpenIn (Body n) header body → nat_lt (length body) n ≡ b → (t : State) × At past t
close_body true past fs n header body a e o l = (
  Body n,
  record {
    frames = fs;
    header = header;
    body = body;
    each = a;
    begins = e;
    stands = (o.0, o.1, less (length body) n l);
  },
)
close_body false past fs n header body a e o l =
    let long = not_less (length body) n l in
    let short = o.2 in
    let size : n ≡ length body = omega arith in
    let f : Frame = record { header = header; body = body } in (
      Header (Line None),
      record {
        frames = fs ++ f ∷ [];
        header = [];
        body = [];
        each = each_append IsFrame fs (f ∷ []) a ((subst (IsHeader header) size o.0, o.1), tt);
        begins = e ∙ ap (λ (q : List ℕ). stream fs (header ++ q)) (sym (append-nil body)) ∙ sym (stream_both fs (f ∷ []) []);
        stands = nothing;
      },
    )

close : (past : List ℕ) (fs : List Frame) (s : State) (header body : List ℕ) → AllByRecursion IsFrame fs → past ≡ stream fs (header ++ body) → OpenIn s header body → (t : State) × At past t
close past fs (Header p) header body a e o = (Header p, record { frames = fs; header = header; body = body; each = a; begins = e; stands = o })
close past fs (Body n) header body a e o = close_body (nat_lt (length body) n) past fs n header body a e o refl

one_byte : (past : List ℕ) (fs : List Frame) (header body new : List ℕ) (c : ℕ) → past ≡ stream fs (header ++ body) → (header ++ body) ++ c ∷ [] ≡ new → past ++ c ∷ [] ≡ stream fs new
one_byte past fs header body new c e k = ap (λ (q : List ℕ). q ++ c ∷ []) e ∙ stream_append fs (header ++ body) (c ∷ []) ∙ ap (stream fs) k

regroup : (past : List ℕ) (c : ℕ) (cs : List ℕ) → HasReading ((past ++ c ∷ []) ++ cs) → HasReading (past ++ (c ∷ cs))
regroup past c cs r = subst HasReading (append_assoc past (c ∷ []) cs) r

before_body : (r : Result State Wrong) (past : List ℕ) (p : HeaderState) (c : ℕ) (cs : List ℕ) (a : At past (Header p)) → next p (length a.header) c ≡ r → ((t : State) → At (past ++ c ∷ []) t → HasReading ((past ++ c ∷ []) ++ cs)) → HasReading (past ++ (c ∷ cs))
before_body (Err w) past p c cs a e go =
    let h = a.stands in
    let begins = a.begins ∙ ap (λ (q : List ℕ). stream a.frames (a.header ++ q)) h.none ∙ ap (stream a.frames) (append-nil a.header) in
    (bodies_of a.frames, fault (kind_of w) (length past), refused_fault past a.frames p a.header c w cs a.each begins (subst (InHeader p a.header) h.none h) e)
before_body (Ok t) past p c cs a e go =
    let h = a.stands in
    let text : (a.header ++ a.body) ++ c ∷ [] ≡ (a.header ++ c ∷ []) ++ a.body =
    ap (λ (q : List ℕ). (a.header ++ q) ++ c ∷ []) h.none ∙ ap (λ (q : List ℕ). q ++ c ∷ []) (append-nil a.header) ∙ sym (append-nil (a.header ++ c ∷ [])) ∙ ap (λ (q : List ℕ). (a.header ++ c ∷ []) ++ q) (sym h.none) in
    let x = close (past ++ c ∷ []) a.frames t (a.header ++ c ∷ []) a.body a.each (one_byte past a.frames a.header a.body ((a.header ++ c ∷ []) ++ a.body) c a.begins text) (header_more p t a.header a.body c h e) in
    regroup past c cs (go x.0 x.1)

reads_on : (bytes past : List ℕ) (s : State) → At past s → HasReading (past ++ bytes)
reads_on [] past s a = (bodies_of a.frames, rest (a.header ++ a.body), subst (λ (q : List ℕ). IsFrames q (bodies_of a.frames) (rest (a.header ++ a.body))) (sym (append-nil past)) (stands_rest past a.frames s a.header a.body a.each a.begins a.stands))
reads_on (c ∷ cs) past (Header p) a = before_body (next p (length a.header) c) past p c cs a refl (λ t b. reads_on cs (past ++ c ∷ []) t b)
reads_on (c ∷ cs) past (Body n) a =
    let h = a.stands in
    let short = h.2 in
    let text : (a.header ++ a.body) ++ c ∷ [] ≡ a.header ++ (a.body ++ c ∷ []) = append_assoc a.header a.body (c ∷ []) in
    let x = close (past ++ c ∷ []) a.frames (Body n) a.header (a.body ++ c ∷ []) a.each (one_byte past a.frames a.header a.body (a.header ++ (a.body ++ c ∷ [])) c a.begins text)
    (h.0, h.1, omega (arith, length-append a.body (c ∷ []))) in
    regroup past c cs (reads_on cs (past ++ c ∷ []) x.0 x.1)

-- each stream has a reading
pub every_reading : (bytes : List ℕ) → HasReading bytes
every_reading bytes = reads_on bytes [] (Header (Line None)) (record { frames = []; header = []; body = []; each = tt; begins = refl; stands = nothing })
