-- Where a deframer stands, the reading of the bytes so far is what it gave and keeps.
use Rattle.std.proofs.Common.{◌≡◌, ℕ, ◌+◌, ◌<◌, ◌≤◌, List, [], ◌∷◌, ◌++◌, refl, sym, ap, ◌∙◌, arith, length, Bool, true, false, if◌then◌else◌, subst, Some, None, Ok, Err, append-nil, nat_lt}
use Rattle.std.specs.List.{AllByRecursion}
use Rattle.std.proofs.lemmas.List.{length-append}
use Rattle.std.proofs.lemmas.Bool.Decides.{nat_tests}
use Rattle.ls_base.specs.Frames.{Field, other, sized, Tell, number, Frame, IsFrame, max_header, max_body, stream, bodies_of, IsGood, FirstFit, fault_order, rest, fault, IsFrames}
use Rattle.lsp_framing.specs.Machine.{kind_of, next, step}
use Rattle.lsp_framing.specs.Standing.{InHeader, OpenIn, StandsIn}
use Rattle.lsp_framing.specs.declared.header.HeaderState.{HeaderState}
use Rattle.lsp_framing.specs.declared.header.HeaderState.TheVariants.{Line}
use Rattle.lsp_framing.specs.declared.header.State.{State}
use Rattle.lsp_framing.specs.declared.header.State.TheVariants.{Header, Body}
use Rattle.lsp_framing.specs.declared.header.Wrong.{Wrong}
use Rattle.lsp_framing.specs.declared.header.Wrong.TheVariants.{LongHeader}
use Rattle.lsp_framing.proofs.ReadSoFar.{reads_step}
use Rattle.lsp_framing.proofs.Peels.{peel_part, by_step}
use Rattle.lsp_framing.proofs.FirstFits.{first, first_long}
use Rattle.lsp_framing.proofs.Streams.{NoFrame, rest_law, fault_law, none_part, none_body, none_wrong, none_long, bad_step, bad_long, good_part, good_body}

less : (m n : ℕ) → nat_lt m n ≡ true → m < n
less m n h = grind (arith, nat_tests)

not_less : (m n : ℕ) → nat_lt m n ≡ false → n ≤ m
not_less m n h = grind (arith, nat_tests)

taken_by : (b : Bool) (s : HeaderState) (count c : ℕ) (t : State) → nat_lt count max_header ≡ b → (if b then step s c else Err LongHeader) ≡ Ok t → (count < max_header) × (step s c ≡ Ok t)
taken_by true s count c t h e = (less count max_header h, e)
taken_by false s count c t h e = cc

grown : (s : HeaderState) (t : State) (header body : List ℕ) (c : ℕ) → InHeader s header body → length header < max_header → step s c ≡ Ok t → OpenIn t (header ++ c ∷ []) body
grown s (Header u) header body c h l e = record {
  reads = reads_step s (Header u) c header h.reads e;
  peels = peel_part header (c ∷ []) (Line None) s h.peels ∙ by_step s c [] (Ok (Header u)) e;
  short = omega (arith, length-append header (c ∷ []));
  none = h.none;
}
grown s (Body n) header body c h l e =
    let none = ap length h.none in
    (reads_step s (Body n) c header h.reads e, omega (arith, length-append header (c ∷ [])), omega arith)

-- a byte before the body leads on
pub header_more : (s : HeaderState) (t : State) (header body : List ℕ) (c : ℕ) → InHeader s header body → next s (length header) c ≡ Ok t → OpenIn t (header ++ c ∷ []) body
header_more s t header body c h e = let x = taken_by (nat_lt (length header) max_header) s (length header) c t refl e in grown s t header body c h x.0 x.1

-- nothing of a frame
pub nothing : InHeader (Line None) [] []
nothing = record { reads = ([], refl, refl); peels = refl; short = omega arith; none = refl }

-- where a deframer stands, its bodies and its rest are those of the bytes
pub stands_rest : (past : List ℕ) (fs : List Frame) (s : State) (header body : List ℕ) → AllByRecursion IsFrame fs → past ≡ stream fs (header ++ body) → StandsIn s header body → IsFrames past (bodies_of fs) (rest (header ++ body))
stands_rest past fs (Header s) header body a e h =
    let none : header ++ body ≡ header = ap (λ (q : List ℕ). header ++ q) h.none ∙ append-nil header in
    rest_law past fs (header ++ body) a e (subst NoFrame (sym none) (none_part s header h.peels)) (subst IsGood (sym none) (good_part s header h.reads h.short))
stands_rest past fs (Body n) header body a e h = rest_law past fs (header ++ body) a e (none_body n header body h.0 h.2) (good_body n header body h.0 h.1 h.2)

fault_by : (b : Bool) (past : List ℕ) (fs : List Frame) (s : HeaderState) (header : List ℕ) (c : ℕ) (w : Wrong) (after : List ℕ) → AllByRecursion IsFrame fs → past ≡ stream fs header → InHeader s header [] →
    nat_lt (length header) max_header ≡ b → (if b then step s c else Err LongHeader) ≡ Err w → IsFrames (past ++ (c ∷ after)) (bodies_of fs) (fault (kind_of w) (length past))
fault_by true past fs s header c w after a e h l r =
    fault_law past fs header c (kind_of w) after a e (none_wrong s header c w after h.peels r) (good_part s header h.reads h.short) (bad_step s header c w h.peels r)
    (first s header c w h.reads h.peels (less (length header) max_header l) r)
fault_by false past fs s header c w after a e h l r =
    let same : LongHeader ≡ w = cc in
    let short = h.short in
    let full : length header ≡ max_header = let long = not_less (length header) max_header l in omega arith in
    fault_law past fs header c (kind_of w) after a e (none_long s header c after h.peels full) (good_part s header h.reads h.short) (bad_long s header c h.peels full)
    (subst (λ (q : Wrong). FirstFit fault_order header c (kind_of q)) same (first_long header c full))

-- where the next byte is wrong, whatever follows, the fault is that of the bytes
pub refused_fault : (past : List ℕ) (fs : List Frame) (s : HeaderState) (header : List ℕ) (c : ℕ) (w : Wrong) (after : List ℕ) → AllByRecursion IsFrame fs → past ≡ stream fs header → InHeader s header [] →
    next s (length header) c ≡ Err w → IsFrames (past ++ (c ∷ after)) (bodies_of fs) (fault (kind_of w) (length past))
refused_fault past fs s header c w after a e h r = fault_by (nat_lt (length header) max_header) past fs s header c w after a e h refl r

tell_most : (fs : List Field) (n : ℕ) → Tell fs (Some n) → n ≤ max_body
tell_most [] n h = cc
tell_most (other name value ∷ fs) n h = tell_most fs n h.1
tell_most (sized name left digits right ∷ fs) n h = let l = h.0.5 in let e : n ≡ number digits = let d = h.2 in cc in omega arith

-- few bytes are kept
pub kept_most : (s : State) (header body : List ℕ) → StandsIn s header body → (length header ≤ max_header) × (length body ≤ max_body) × (length header + length body < 8392704)
kept_most (Header s) header body h = let e = ap length h.none in let l = h.short in (l, omega arith, omega arith)
kept_most (Body n) header body h = let m = tell_most h.0.0 n h.0.1 in let a = h.1 in let b = h.2 in (a, omega arith, omega arith)
