-- How the machine meets streams of frames.
use Rattle.std.proofs.Common.{◌≡◌, ℕ, ◌+◌, ◌-◌, ◌<◌, ◌≤◌, suc, zero, List, [], ◌∷◌, ◌++◌, refl, sym, ap, ◌∙◌, arith, length, Bool, true, false, subst, Err, append_assoc, append-nil, nat_le, drop}
use Rattle.std.specs.List.{AllByRecursion}
use Rattle.std.proofs.lemmas.List.{length-append, append_cancel_right}
use Rattle.std.proofs.lemmas.Bool.Decides.{nat_tests}
use Rattle.std.proofs.Math.Seq.{drop-append-add, drop-append_seam}
use Rattle.ls_base.specs.Frames.{IsHeader, Frame, IsAnyFrame, IsFrame, max_header, stream, bodies_of, WithinLimit, IsGood, IsWhole, Fault, FirstFit, fault_order, rest, fault, IsFrames}
use Rattle.lsp_framing.specs.Machine.{step, whole, part, wrong, peel}
use Rattle.lsp_framing.specs.Standing.{Reads}
use Rattle.lsp_framing.specs.declared.header.HeaderState.{HeaderState}
use Rattle.lsp_framing.specs.declared.header.HeaderState.TheVariants.{Line}
use Rattle.lsp_framing.specs.declared.header.Wrong.{Wrong}
use Rattle.std.specs.Prelude.{None}
use Rattle.lsp_framing.proofs.Reading.{at_header}
use Rattle.lsp_framing.proofs.Peels.{peel_part, ends, finish, finishes, by_step}

-- equal lists with fronts of one length
pub same_front : (a b x y : List ℕ) → length a ≡ length b → a ++ x ≡ b ++ y → (a ≡ b) × (x ≡ y)
same_front [] [] x y l e = (refl, e)
same_front [] (c ∷ b) x y l e = absurd (omega arith)
same_front (c ∷ a) [] x y l e = absurd (omega arith)
same_front (c ∷ a) (d ∷ b) x y l e =
    let heads : c ≡ d = cc in
    let tails : a ++ x ≡ b ++ y = cc in
    let p = same_front a b x y (omega arith) tails in
    (ap (λ (q : ℕ). q ∷ a) heads ∙ ap (λ (q : List ℕ). d ∷ q) p.0, p.1)

-- the shorter of two fronts of a list begins the other
pub starts : (a b x y : List ℕ) → length a ≤ length b → a ++ x ≡ b ++ y → (z : List ℕ) × (b ≡ a ++ z)
starts [] b x y l e = (b, refl)
starts (c ∷ a) [] x y l e = absurd (omega arith)
starts (c ∷ a) (d ∷ b) x y l e =
    let heads : c ≡ d = cc in
    let tails : a ++ x ≡ b ++ y = cc in
    let p = starts a b x y (omega arith) tails in
    (p.0, ap (λ (q : ℕ). q ∷ b) (sym heads) ∙ ap (λ (q : List ℕ). c ∷ q) p.1)

-- two frames at the front of one list are one
pub same_frame : (f g : Frame) (x y : List ℕ) → IsAnyFrame f → IsAnyFrame g → f.header ++ (f.body ++ x) ≡ g.header ++ (g.body ++ y) → (f.header ≡ g.header) × (f.body ≡ g.body) × (x ≡ y)
same_frame f g x y a b e =
    let w : whole (length f.body) (f.body ++ x) ≡ whole (length g.body) (g.body ++ y) =
    sym (at_header f.header (f.body ++ x) (length f.body) a) ∙ ap (λ (q : List ℕ). peel q (Line None)) e ∙ at_header g.header (g.body ++ y) (length g.body) b in
    let n : length f.body ≡ length g.body = cc in
    let t : f.body ++ x ≡ g.body ++ y = cc in
    let p = same_front f.body g.body x y n t in
    (append_cancel_right f.header g.header (g.body ++ y) (ap (λ (q : List ℕ). f.header ++ q) (sym t) ∙ e), p.0, p.1)

not_empty : (f : Frame) (x : List ℕ) → IsAnyFrame f → f.header ++ x ≡ [] → ⊥
not_empty f x a e = let w = sym (at_header f.header x (length f.body) a) ∙ ap (λ (q : List ℕ). peel q (Line None)) e in cc

-- no whole frame begins these bytes
abbrev pub NoFrame : List ℕ → Type 0
NoFrame tail = (f : Frame) (more : List ℕ) → IsFrame f → tail ≡ f.header ++ (f.body ++ more) → ⊥

pub no_frame : NoFrame []
no_frame f more a e = not_empty f (f.body ++ more) a.0 (sym e)

pub good_start : IsGood []
good_start = record { frames = []; more = []; each = tt; begins = refl; limit = tt }

pub longest : (tail : List ℕ) (fs others : List Frame) (more : List ℕ) → NoFrame tail → AllByRecursion IsFrame fs → AllByRecursion IsFrame others → stream fs tail ≡ stream others more → length others ≤ length fs
longest tail fs [] more n a b e = omega arith
longest tail [] (f ∷ os) more n a b e = absurd (n f (stream os more) b.0 e)
longest tail (g ∷ gs) (f ∷ os) more n a b e =
    let s = same_frame g f (stream gs tail) (stream os more) a.0.0 b.0.0 e in
    let k = longest tail gs os more n a.1 b.1 s.2 in
    omega arith

drop_frame : (h b x : List ℕ) → drop (length h + length b) (h ++ (b ++ x)) ≡ x
drop_frame h b x = drop-append-add h (b ++ x) (length b) ∙ drop-append_seam b x

-- whole frames before good bytes
pub good_front : (fs : List Frame) (tail : List ℕ) → AllByRecursion IsFrame fs → IsGood tail → IsGood (stream fs tail)
good_front [] tail a g = g
good_front (f ∷ fs) tail a g =
    let r = good_front fs tail a.1 g in
    let short = a.0.1 in
    record {
      frames = f ∷ r.frames;
      more = r.more;
      each = (a.0.0, r.each);
      begins = append_assoc f.header (f.body ++ stream fs tail) r.more
          ∙ ap (λ (q : List ℕ). f.header ++ q) (append_assoc f.body (stream fs tail) r.more ∙ ap (λ (q : List ℕ). f.body ++ q) r.begins);
      limit = (omega arith, subst (WithinLimit r.frames) (sym (drop_frame f.header f.body (stream fs tail))) r.limit);
    }

good_after : (f : Frame) (x : List ℕ) (os : List Frame) (more : List ℕ) → IsFrame f → AllByRecursion IsAnyFrame os → (f.header ++ (f.body ++ x)) ++ more ≡ stream os [] → WithinLimit os (f.header ++ (f.body ++ x)) → IsGood x
good_after f x [] more a b e l = absurd (not_empty f ((f.body ++ x) ++ more) a.0 (sym (append_assoc f.header (f.body ++ x) more) ∙ e))
good_after f x (g ∷ os) more a b e l =
    let flat : f.header ++ (f.body ++ (x ++ more)) ≡ g.header ++ (g.body ++ stream os []) =
    sym (append_assoc f.header (f.body ++ x) more ∙ ap (λ (q : List ℕ). f.header ++ q) (append_assoc f.body x more)) ∙ e in
    let p = same_frame f g (x ++ more) (stream os []) a.0 b.0 flat in
    let d : drop (length g.header + length g.body) (f.header ++ (f.body ++ x)) ≡ x =
    ap (λ (q : List ℕ). drop (length q + length g.body) (f.header ++ (f.body ++ x))) (sym p.0)
    ∙ ap (λ (q : List ℕ). drop (length f.header + length q) (f.header ++ (f.body ++ x))) (sym p.1) ∙ drop_frame f.header f.body x in
    record { frames = os; more = more; each = b.1; begins = p.2; limit = subst (WithinLimit os) d l.1 }

-- whole frames before bytes that are not good
bad_front : (fs : List Frame) (tail : List ℕ) → AllByRecursion IsFrame fs → (IsGood tail → ⊥) → IsGood (stream fs tail) → ⊥
bad_front [] tail a n g = n g
bad_front (f ∷ fs) tail a n g = bad_front fs tail a.1 n (good_after f (stream fs tail) g.frames g.more a.0 g.each g.begins g.limit)

drop_both : (n : ℕ) (a b : List ℕ) → (k : ℕ) × (drop n (a ++ b) ≡ drop n a ++ drop k b)
drop_both zero a b = (0, refl)
drop_both (suc n) [] b = (suc n, refl)
drop_both (suc n) (c ∷ a) b = drop_both n a b

within_less : (fs : List Frame) (a b : List ℕ) → WithinLimit fs (a ++ b) → WithinLimit fs a
within_less [] a b l = tt
within_less (f ∷ fs) a b l =
    let d = drop_both (length f.header + length f.body) a b in
    let short = l.0 in
    (omega (arith, length-append a b), within_less fs (drop (length f.header + length f.body) a) (drop d.0 b) (subst (WithinLimit fs) d.1 l.1))

-- what begins good bytes is good
pub good_before : (a b : List ℕ) → IsGood (a ++ b) → IsGood a
good_before a b g = record {
  frames = g.frames;
  more = b ++ g.more;
  each = g.each;
  begins = sym (append_assoc a b g.more) ∙ g.begins;
  limit = within_less g.frames a b g.limit;
}

abbrev zeros : ℕ → List ℕ
zeros zero = []
zeros (suc n) = 0 ∷ zeros n

length_zeros : (n : ℕ) → length (zeros n) ≡ n
length_zeros zero = refl
length_zeros (suc n) = ap suc (length_zeros n)

-- a part of what stands before a body is good
pub good_part : (s : HeaderState) (header : List ℕ) → Reads s header → length header ≤ max_header → IsGood header
good_part s header r l =
    let f = finishes s in
    let h = ends (finish s) header s f.0 r f.1 in
    record {
      frames = record { header = header ++ finish s; body = zeros f.0 } ∷ [];
      more = finish s ++ zeros f.0;
      each = (subst (IsHeader (header ++ finish s)) (sym (length_zeros f.0)) h, tt);
      begins = sym (append_assoc header (finish s) (zeros f.0)) ∙ ap (λ (q : List ℕ). (header ++ finish s) ++ q) (sym (append-nil (zeros f.0)));
      limit = (omega arith, tt);
    }

-- a part of a body is good
pub good_body : (n : ℕ) (header body : List ℕ) → IsHeader header n → length header ≤ max_header → length body < n → IsGood (header ++ body)
good_body n header body h l k =
    let z = zeros (n - length body) in
    let size : n ≡ length (body ++ z) = omega (arith, length-append body z, length_zeros (n - length body)) in
    record {
      frames = record { header = header; body = body ++ z } ∷ [];
      more = z;
      each = (subst (IsHeader header) size h, tt);
      begins = append_assoc header body z ∙ ap (λ (q : List ℕ). header ++ q) (sym (append-nil (body ++ z)));
      limit = (omega arith, tt);
    }

-- a wrong byte is found whatever follows
found : (s : HeaderState) (header : List ℕ) (c : ℕ) (w : Wrong) (more : List ℕ) → peel header (Line None) ≡ part s → step s c ≡ Err w → peel (header ++ (c ∷ more)) (Line None) ≡ wrong w
found s header c w more e h = peel_part header (c ∷ more) (Line None) s e ∙ by_step s c more (Err w) h

bad_by : (s : HeaderState) (header : List ℕ) (c : ℕ) (w : Wrong) (os : List Frame) (more : List ℕ) → peel header (Line None) ≡ part s → step s c ≡ Err w → AllByRecursion IsAnyFrame os → (header ++ c ∷ []) ++ more ≡ stream os [] → ⊥
bad_by s header c w [] more e h a k =
    let x = sym (found s header c w more e h) ∙ ap (λ (q : List ℕ). peel q (Line None)) (sym (append_assoc header (c ∷ []) more) ∙ k) in cc
bad_by s header c w (f ∷ os) more e h a k =
    let x = sym (found s header c w more e h) ∙ ap (λ (q : List ℕ). peel q (Line None)) (sym (append_assoc header (c ∷ []) more) ∙ k)
    ∙ at_header f.header (f.body ++ stream os []) (length f.body) a.0 in cc

pub bad_step : (s : HeaderState) (header : List ℕ) (c : ℕ) (w : Wrong) → peel header (Line None) ≡ part s → step s c ≡ Err w → IsGood (header ++ c ∷ []) → ⊥
bad_step s header c w e h g = bad_by s header c w g.frames g.more e h g.each g.begins

-- a part of what stands before a body holds no whole header part
no_header : (s : HeaderState) (header : List ℕ) (f : Frame) (x y : List ℕ) → peel header (Line None) ≡ part s → IsAnyFrame f → length f.header ≤ length header → header ++ y ≡ f.header ++ x → ⊥
no_header s header f x y e a l k =
    let z = starts f.header header x y l (sym k) in
    let w = sym (at_header f.header z.0 (length f.body) a) ∙ ap (λ (q : List ℕ). peel q (Line None)) (sym z.1) ∙ e in cc

bad_long_by : (s : HeaderState) (header : List ℕ) (c : ℕ) (os : List Frame) (more : List ℕ) → peel header (Line None) ≡ part s → length header ≡ max_header → AllByRecursion IsAnyFrame os
    → (header ++ c ∷ []) ++ more ≡ stream os [] → WithinLimit os (header ++ c ∷ []) → ⊥
bad_long_by s header c [] more e h a k l = let x = ap length k in omega (arith, length-append (header ++ c ∷ []) more, length-append header (c ∷ []), x)
bad_long_by s header c (f ∷ os) more e h a k l =
    let short = l.0 in
    no_header s header f (f.body ++ stream os []) (c ∷ more) e a.0 (omega (arith, length-append header (c ∷ []))) (sym (append_assoc header (c ∷ []) more) ∙ k)

pub bad_long : (s : HeaderState) (header : List ℕ) (c : ℕ) → peel header (Line None) ≡ part s → length header ≡ max_header → IsGood (header ++ c ∷ []) → ⊥
bad_long s header c e h g = bad_long_by s header c g.frames g.more e h g.each g.begins g.limit

pub none_part : (s : HeaderState) (header : List ℕ) → peel header (Line None) ≡ part s → NoFrame header
none_part s header e f more a k =
    let w = sym (at_header f.header (f.body ++ more) (length f.body) a.0) ∙ ap (λ (q : List ℕ). peel q (Line None)) (sym k) ∙ e in cc

pub none_body : (n : ℕ) (header body : List ℕ) → IsHeader header n → length body < n → NoFrame (header ++ body)
none_body n header body h l f more a k =
    let w : whole n body ≡ whole (length f.body) (f.body ++ more) =
    sym (at_header header body n h) ∙ ap (λ (q : List ℕ). peel q (Line None)) k ∙ at_header f.header (f.body ++ more) (length f.body) a.0 in
    let size : n ≡ length f.body = cc in
    let text : body ≡ f.body ++ more = cc in
    let sizes = ap length text in
    omega (arith, length-append f.body more)

pub none_wrong : (s : HeaderState) (header : List ℕ) (c : ℕ) (w : Wrong) (after : List ℕ) → peel header (Line None) ≡ part s → step s c ≡ Err w → NoFrame (header ++ (c ∷ after))
none_wrong s header c w after e h f more a k =
    let x = sym (found s header c w after e h) ∙ ap (λ (q : List ℕ). peel q (Line None)) k ∙ at_header f.header (f.body ++ more) (length f.body) a.0 in cc

pub none_long : (s : HeaderState) (header : List ℕ) (c : ℕ) (after : List ℕ) → peel header (Line None) ≡ part s → length header ≡ max_header → NoFrame (header ++ (c ∷ after))
none_long s header c after e h f more a k = let short = a.1 in no_header s header f (f.body ++ more) (c ∷ after) e a.0 (omega arith) k

pub stream_append : (fs : List Frame) (x y : List ℕ) → stream fs x ++ y ≡ stream fs (x ++ y)
stream_append [] x y = refl
stream_append (f ∷ fs) x y =
    append_assoc f.header (f.body ++ stream fs x) y ∙ ap (λ (q : List ℕ). f.header ++ q) (append_assoc f.body (stream fs x) y ∙ ap (λ (q : List ℕ). f.body ++ q) (stream_append fs x y))

whole_of : (bytes : List ℕ) (fs : List Frame) (tail : List ℕ) → AllByRecursion IsFrame fs → bytes ≡ stream fs tail → NoFrame tail → IsWhole bytes fs tail
whole_of bytes fs tail a e n = record {
  each = a;
  begins = e;
  longest = λ others more b k. longest tail fs others more n a b (sym e ∙ k);
}

-- whole frames, and good bytes that no frame begins
pub rest_law : (past : List ℕ) (fs : List Frame) (tail : List ℕ) → AllByRecursion IsFrame fs → past ≡ stream fs tail → NoFrame tail → IsGood tail → IsFrames past (bodies_of fs) (rest tail)
rest_law past fs tail a e n g = (fs, refl, whole_of past fs tail a e n, subst IsGood (sym e) (good_front fs tail a g))

pub below : (m n : ℕ) → nat_le m n ≡ true → m ≤ n
below m n h = grind (arith, nat_tests)

pub above : (m n : ℕ) → nat_le m n ≡ false → n < m
above m n h = grind (arith, nat_tests)

good_within : (b : Bool) (past longer : List ℕ) (c : ℕ) (after more : List ℕ) → nat_le (length longer) (length past) ≡ b → past ++ (c ∷ after) ≡ longer ++ more → IsGood longer → (IsGood (past ++ c ∷ []) → ⊥) → length longer ≤ length past
good_within true past longer c after more h e g n = below (length longer) (length past) h
good_within false past longer c after more h e g n =
    let l = above (length longer) (length past) h in
    let z = starts (past ++ c ∷ []) longer after more (omega (arith, length-append past (c ∷ []))) (append_assoc past (c ∷ []) after ∙ e) in
    absurd (n (good_before (past ++ c ∷ []) z.0 (subst IsGood z.1 g)))

-- whole frames, a part of one, and a byte that can't follow
pub fault_law : (past : List ℕ) (fs : List Frame) (header : List ℕ) (c : ℕ) (kind : Fault) (after : List ℕ) → AllByRecursion IsFrame fs → past ≡ stream fs header → NoFrame (header ++ (c ∷ after)) → IsGood header
    → (IsGood (header ++ c ∷ []) → ⊥) → FirstFit fault_order header c kind → IsFrames (past ++ (c ∷ after)) (bodies_of fs) (fault kind (length past))
fault_law past fs header c kind after a e n g b f = (
  fs,
  refl,
  record {
    part = header;
    byte = c;
    after = after;
    whole = whole_of (past ++ (c ∷ after)) fs (header ++ (c ∷ after)) a (ap (λ (q : List ℕ). q ++ (c ∷ after)) e ∙ stream_append fs header (c ∷ after)) n;
    place = ap length e;
    good = good_front fs header a g;
    longest = λ front more k good. good_within (nat_le (length front) (length past)) past front c after more refl k good
        (λ x. bad_front fs (header ++ c ∷ []) a b (subst IsGood (ap (λ (q : List ℕ). q ++ c ∷ []) e ∙ stream_append fs header (c ∷ [])) x));
    kind_is = f;
  },
)
