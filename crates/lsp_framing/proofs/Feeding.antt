-- The reading of bytes and of more bytes.
use Rattle.std.proofs.Common.{◌≡◌, ℕ, ◌+◌, ◌<◌, ◌≤◌, suc, List, [], ◌∷◌, ◌++◌, refl, sym, ap, ◌∙◌, arith, length, subst, append_assoc, append-nil, take, drop, get_or, Bool, true, false, nat_le}
use Rattle.std.proofs.lemmas.List.{length-append, length-take, take-append-drop}
use Rattle.std.proofs.Math.Seq.{drop-cons}
use Rattle.ls_base.specs.Frames.{Frame, IsFrame, stream, bodies_of, IsGood, IsWhole, Fault, IsFault, rest, fault, IsFrames}
use Rattle.lsp_framing.specs.Machine.{kind_of}
use Rattle.lsp_framing.specs.Standing.{kept_bytes}
use Rattle.lsp_framing.specs.Taken.{Goes, Breaks}
use Rattle.lsp_framing.specs.declared.header.Wrong.{Wrong}
use Rattle.lsp_framing.specs.declared.partial.Partial.{Partial}
use Rattle.lsp_framing.proofs.Streams.{stream_append, starts, good_start, good_front, good_before, NoFrame, longest, below, above}
use Rattle.lsp_framing.proofs.Stands.{stands_rest, refused_fault}
use Rattle.lsp_framing.proofs.Going.{each_append, stream_both, bodies_both}

-- a piece that was taken
pub taken_law : (past piece : List ℕ) (bodies : List (List ℕ)) (gs : List Frame) (old new : Partial) → IsFrames past bodies (rest (kept_bytes old)) → Goes old piece gs new → IsFrames (past ++ piece) (bodies ++ bodies_of gs) (rest (kept_bytes new))
taken_law past piece bodies gs old new x g =
    let fs = x.0 in
    let begins : past ++ piece ≡ stream (fs ++ gs) (kept_bytes new) =
    ap (λ (q : List ℕ). q ++ piece) x.2.begins ∙ stream_append fs (kept_bytes old) piece ∙ ap (stream fs) g.text ∙ sym (stream_both fs gs (kept_bytes new)) in
    subst (λ (q : List (List ℕ)). IsFrames (past ++ piece) q (rest (kept_bytes new))) (bodies_both fs gs ∙ ap (λ (q : List (List ℕ)). q ++ bodies_of gs) (sym x.1))
    (stands_rest (past ++ piece) (fs ++ gs) new.state new.header.items new.body.items (each_append IsFrame fs gs x.2.each g.each) begins g.stands)

-- a piece with a byte that is wrong
pub wrong_law : (past piece : List ℕ) (bodies : List (List ℕ)) (at : ℕ) (w : Wrong) (gs : List Frame) (old : Partial) → IsFrames past bodies (rest (kept_bytes old)) → at < length piece
    → Breaks old (take at piece) gs (get_or piece at 0) w → IsFrames (past ++ piece) (bodies ++ bodies_of gs) (fault (kind_of w) (length past + at))
wrong_law past piece bodies at w gs old x l g =
    let fs = x.0 in
    let front = take at piece in
    let begins : past ++ front ≡ stream (fs ++ gs) g.header =
    ap (λ (q : List ℕ). q ++ front) x.2.begins ∙ stream_append fs (kept_bytes old) front ∙ ap (stream fs) g.text ∙ sym (stream_both fs gs g.header) in
    let f = refused_fault (past ++ front) (fs ++ gs) g.place g.header (get_or piece at 0) w (drop (suc at) piece) (each_append IsFrame fs gs x.2.each g.each) begins g.inside g.refused in
    let text : (past ++ front) ++ (get_or piece at 0 ∷ drop (suc at) piece) ≡ past ++ piece =
    append_assoc past front (get_or piece at 0 ∷ drop (suc at) piece)
    ∙ ap (λ (q : List ℕ). past ++ q) (ap (λ (q : List ℕ). front ++ q) (sym (drop-cons piece at 0 l)) ∙ take-append-drop at piece) in
    let size : length (past ++ front) ≡ length past + at = omega (arith, length-append past front, length-take at piece) in
    let bodies_are = bodies_both fs gs ∙ ap (λ (q : List (List ℕ)). q ++ bodies_of gs) (sym x.1) in
    subst (λ (q : ℕ). IsFrames (past ++ piece) (bodies ++ bodies_of gs) (fault (kind_of w) q)) size
    (subst (λ (q : List (List ℕ)). IsFrames (past ++ piece) q (fault (kind_of w) (length (past ++ front)))) bodies_are
    (subst (λ (q : List ℕ). IsFrames q (bodies_of (fs ++ gs)) (fault (kind_of w) (length (past ++ front)))) text f))

good_frame : (f : Frame) → IsFrame f → IsGood (f.header ++ (f.body ++ []))
good_frame f a = good_front (f ∷ []) [] (a, tt) good_start

-- how many bytes there are up to a fault, and after it
pub fault_size : (past : List ℕ) (fs : List Frame) (kind : Fault) (at : ℕ) (y : IsFault past fs kind at) → length past ≡ at + suc (length y.after)
fault_size past fs kind at y =
    ap length (y.whole.begins ∙ sym (stream_append fs y.part (y.byte ∷ y.after))) ∙ length-append (stream fs y.part) (y.byte ∷ y.after) ∙ ap (λ (n : ℕ). n + suc (length y.after)) (sym y.place)

-- bytes with a fault aren't good
pub faulty : (past : List ℕ) (fs : List Frame) (kind : Fault) (at : ℕ) → IsFault past fs kind at → IsGood past → ⊥
faulty past fs kind at y g =
    let l = y.longest past [] (sym (append-nil past)) g in
    let size = fault_size past fs kind at y in
    omega arith

one_more : (b : Bool) (past more : List ℕ) (fs : List Frame) (kind : Fault) (at : ℕ) (y : IsFault past fs kind at) (f : Frame) (m : List ℕ) → IsFrame f
    → (y.part ++ (y.byte ∷ y.after)) ++ more ≡ (f.header ++ (f.body ++ [])) ++ m → nat_le (length (f.header ++ (f.body ++ []))) (length (y.part ++ (y.byte ∷ y.after))) ≡ b → ⊥
one_more true past more fs kind at y f m a e l =
    let tail = y.part ++ (y.byte ∷ y.after) in
    let z = starts (f.header ++ (f.body ++ [])) tail m more (below (length (f.header ++ (f.body ++ []))) (length tail) l) (sym e) in
    let k = y.whole.longest (fs ++ f ∷ []) z.0 (each_append IsFrame fs (f ∷ []) y.whole.each (a, tt))
    (y.whole.begins ∙ ap (stream fs) (z.1 ∙ append_assoc f.header (f.body ++ []) z.0 ∙ ap (λ (q : List ℕ). f.header ++ q) (append_assoc f.body [] z.0)) ∙ sym (stream_both fs (f ∷ []) z.0)) in
    omega (arith, length-append fs (f ∷ []))
one_more false past more fs kind at y f m a e l =
    let tail = y.part ++ (y.byte ∷ y.after) in
    let long = above (length (f.header ++ (f.body ++ []))) (length tail) l in
    let z = starts tail (f.header ++ (f.body ++ [])) more m (omega arith) e in
    faulty past fs kind at y (subst IsGood (sym y.whole.begins) (good_front fs tail y.whole.each (good_before tail z.0 (subst IsGood z.1 (good_frame f a)))))

good_still : (b : Bool) (past more : List ℕ) (fs : List Frame) (kind : Fault) (at : ℕ) → IsFault past fs kind at → (front m : List ℕ) → past ++ more ≡ front ++ m → IsGood front
    → nat_le (length front) (length past) ≡ b → length front ≤ at
good_still true past more fs kind at y front m e g l =
    let z = starts front past m more (below (length front) (length past) l) (sym e) in
    y.longest front z.0 z.1 g
good_still false past more fs kind at y front m e g l =
    let long = above (length front) (length past) l in
    let z = starts past front more m (omega arith) e in
    absurd (faulty past fs kind at y (good_before past z.0 (subst IsGood z.1 g)))

more_whole : (past more : List ℕ) (fs : List Frame) (kind : Fault) (at : ℕ) (y : IsFault past fs kind at) → IsWhole (past ++ more) fs (y.part ++ (y.byte ∷ (y.after ++ more)))
more_whole past more fs kind at y =
    let tail = y.part ++ (y.byte ∷ y.after) in
    let tail_is : tail ++ more ≡ y.part ++ (y.byte ∷ (y.after ++ more)) = append_assoc y.part (y.byte ∷ y.after) more in
    let begins : past ++ more ≡ stream fs (y.part ++ (y.byte ∷ (y.after ++ more))) = ap (λ (q : List ℕ). q ++ more) y.whole.begins ∙ stream_append fs tail more ∙ ap (stream fs) tail_is in
    let none : NoFrame (y.part ++ (y.byte ∷ (y.after ++ more))) =
    λ f m a e. one_more (nat_le (length (f.header ++ (f.body ++ []))) (length tail)) past more fs kind at y f m a
    (tail_is ∙ e ∙ sym (append_assoc f.header (f.body ++ []) m ∙ ap (λ (q : List ℕ). f.header ++ q) (append_assoc f.body [] m))) refl in
    record {
      each = y.whole.each;
      begins = begins;
      longest = λ others m b k. longest (y.part ++ (y.byte ∷ (y.after ++ more))) fs others m none y.whole.each b (sym begins ∙ k);
    }

-- a fault stays, whatever comes
pub fault_stays : (past more : List ℕ) (bodies : List (List ℕ)) (kind : Fault) (at : ℕ) → IsFrames past bodies (fault kind at) → IsFrames (past ++ more) bodies (fault kind at)
fault_stays past more bodies kind at x =
    let y = x.2 in (
      x.0,
      x.1,
      record {
        part = y.part;
        byte = y.byte;
        after = y.after ++ more;
        whole = more_whole past more x.0 kind at y;
        place = y.place;
        good = y.good;
        longest = λ front m k g. good_still (nat_le (length front) (length past)) past more x.0 kind at y front m k g refl;
        kind_is = y.kind_is;
      },
    )
