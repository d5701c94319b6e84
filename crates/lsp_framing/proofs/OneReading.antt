-- A stream has one reading.
use Rattle.std.proofs.Common.{◌≡◌, ℕ, ◌≤◌, List, [], ◌∷◌, ◌++◌, refl, sym, ap, ◌∙◌, arith, length, subst, inl, inr}
use Rattle.std.specs.List.{AllByRecursion}
use Rattle.std.proofs.lemmas.List.{length-append}
use Rattle.ls_base.specs.Frames.{Frame, IsFrame, stream, bodies_of, IsWhole, Fault, FirstFit, fault_order, IsFault, End, rest, fault, IsFrames}
use Rattle.lsp_framing.proofs.Streams.{stream_append, same_front, same_frame}
use Rattle.lsp_framing.proofs.Feeding.{fault_size, faulty}

same_bodies : (fs gs : List Frame) (x y : List ℕ) → length fs ≡ length gs → AllByRecursion IsFrame fs → AllByRecursion IsFrame gs → stream fs x ≡ stream gs y → (bodies_of fs ≡ bodies_of gs) × (x ≡ y)
same_bodies [] [] x y l a b e = (refl, e)
same_bodies [] (g ∷ gs) x y l a b e = absurd (omega arith)
same_bodies (f ∷ fs) [] x y l a b e = absurd (omega arith)
same_bodies (f ∷ fs) (g ∷ gs) x y l a b e =
    let s = same_frame f g (stream fs x) (stream gs y) a.0.0 b.0.0 e in
    let r = same_bodies fs gs x y (omega arith) a.1 b.1 s.2 in
    (ap (λ (q : List ℕ). q ∷ bodies_of fs) s.1 ∙ ap (λ (q : List (List ℕ)). g.body ∷ q) r.0, r.1)

one_whole : (bytes : List ℕ) (fs gs : List Frame) (x y : List ℕ) → IsWhole bytes fs x → IsWhole bytes gs y → (bodies_of fs ≡ bodies_of gs) × (x ≡ y)
one_whole bytes fs gs x y a b =
    let l = b.longest fs x a.each a.begins in
    let m = a.longest gs y b.each b.begins in
    same_bodies fs gs x y (omega arith) a.each b.each (sym a.begins ∙ b.begins)

one_first : (xs : List Fault) (part : List ℕ) (byte : ℕ) (j k : Fault) → FirstFit xs part byte j → FirstFit xs part byte k → j ≡ k
one_first [] part byte j k a b = absurd a
one_first (x ∷ xs) part byte j k a b =
    elim a [
      | inl i ↦ elim b [ inl h ↦ i.1 ∙ sym h.1 | inr h ↦ absurd (h.0 i.0) ]
      | inr i ↦ elim b [ inl h ↦ absurd (i.0 h.0) | inr h ↦ one_first xs part byte j k i.1 h.1 ]
    ]

one_place : (bytes : List ℕ) (fs gs : List Frame) (j k : Fault) (at to : ℕ) → IsFault bytes fs j at → IsFault bytes gs k to → at ≤ to
one_place bytes fs gs j k at to x y =
    let l = y.longest (stream fs x.part) (x.byte ∷ x.after) (x.whole.begins ∙ sym (stream_append fs x.part (x.byte ∷ x.after))) x.good in
    let e = x.place in
    omega arith

one_fault : (bytes : List ℕ) (fs gs : List Frame) (j k : Fault) (at to : ℕ) → IsFault bytes fs j at → IsFault bytes gs k to → (bodies_of fs ≡ bodies_of gs) × (fault j at ≡ fault k to)
one_fault bytes fs gs j k at to x y =
    let l = one_place bytes fs gs j k at to x y in
    let m = one_place bytes gs fs k j to at y x in
    let place : at ≡ to = omega arith in
    let p = one_whole bytes fs gs (x.part ++ (x.byte ∷ x.after)) (y.part ++ (y.byte ∷ y.after)) x.whole y.whole in
    let s = fault_size bytes fs j at x in
    let t = fault_size bytes gs k to y in
    let tails : length x.after ≡ length y.after = omega arith in
    let sizes = ap length p.1 in
    let fronts : length x.part ≡ length y.part = omega (arith, length-append x.part (x.byte ∷ x.after), length-append y.part (y.byte ∷ y.after)) in
    let q = same_front x.part y.part (x.byte ∷ x.after) (y.byte ∷ y.after) fronts p.1 in
    let bytes_are : x.byte ≡ y.byte = let h = q.1 in cc in
    let why : j ≡ k = one_first fault_order y.part y.byte j k (subst (λ (b : ℕ). FirstFit fault_order y.part b j) bytes_are (subst (λ (b : List ℕ). FirstFit fault_order b x.byte j) q.0 x.kind_is)) y.kind_is in
    (p.0, ap (λ (b : Fault). fault b at) why ∙ ap (fault k) place)

pub one_reading : (bytes : List ℕ) (bodies others : List (List ℕ)) (end other : End) → IsFrames bytes bodies end → IsFrames bytes others other → (bodies ≡ others) × (end ≡ other)
one_reading bytes bodies others (rest k) (rest l) x y = let p = one_whole bytes x.0 y.0 k l x.2 y.2 in (x.1 ∙ p.0 ∙ sym y.1, ap rest p.1)
one_reading bytes bodies others (rest k) (fault j to) x y = absurd (faulty bytes y.0 j to y.2 x.3)
one_reading bytes bodies others (fault j at) (rest l) x y = absurd (faulty bytes x.0 j at x.2 y.3)
one_reading bytes bodies others (fault j at) (fault k to) x y = let p = one_fault bytes x.0 y.0 j k at to x.2 y.2 in (x.1 ∙ p.0 ∙ sym y.1, p.1)

front_bodies : (fs gs : List Frame) (x y : List ℕ) → length fs ≤ length gs → AllByRecursion IsFrame fs → AllByRecursion IsFrame gs → stream fs x ≡ stream gs y → (new : List (List ℕ)) × (bodies_of gs ≡ bodies_of fs ++ new)
front_bodies [] gs x y l a b e = (bodies_of gs, refl)
front_bodies (f ∷ fs) [] x y l a b e = absurd (omega arith)
front_bodies (f ∷ fs) (g ∷ gs) x y l a b e =
    let s = same_frame f g (stream fs x) (stream gs y) a.0.0 b.0.0 e in
    let r = front_bodies fs gs x y (omega arith) a.1 b.1 s.2 in
    (r.0, ap (λ (q : List (List ℕ)). g.body ∷ q) r.1 ∙ ap (λ (q : List ℕ). q ∷ (bodies_of fs ++ r.0)) (sym s.1))

-- the whole frames of a reading
whole_frames : (bytes : List ℕ) (bodies : List (List ℕ)) (end : End) → IsFrames bytes bodies end → (fs : List Frame) × (bodies ≡ bodies_of fs) × (after : List ℕ) × IsWhole bytes fs after
whole_frames bytes bodies (rest kept) x = (x.0, x.1, kept, x.2)
whole_frames bytes bodies (fault kind at) x = (x.0, x.1, x.2.part ++ (x.2.byte ∷ x.2.after), x.2.whole)

-- the bodies of more bytes begin with those of the bytes
pub bodies_grow : (bytes more : List ℕ) (bodies all : List (List ℕ)) (end other : End) → IsFrames bytes bodies end → IsFrames (bytes ++ more) all other → (new : List (List ℕ)) × (all ≡ bodies ++ new)
bodies_grow bytes more bodies all end other x y =
    let w = whole_frames bytes bodies end x in
    let v = whole_frames (bytes ++ more) all other y in
    let begins : bytes ++ more ≡ stream w.0 (w.2 ++ more) = ap (λ (q : List ℕ). q ++ more) w.3.begins ∙ stream_append w.0 w.2 more in
    let r = front_bodies w.0 v.0 (w.2 ++ more) v.2 (v.3.longest w.0 (w.2 ++ more) w.3.each begins) w.3.each v.3.each (sym begins ∙ v.3.begins) in
    (r.0, v.1 ∙ r.1 ∙ ap (λ (q : List (List ℕ)). q ++ r.0) (sym w.1))
