-- Where work on a unit ends: steps of work that may end, on two sides alike.
use Rattle.std.proofs.Common.{◌≡◌, ℕ, List, Bool, true, false, cond, Option, Some, None, refl, sym, ap, ◌∙◌, subst}
use Rattle.std.specs.Prelude.{nat_lt}
use Rattle.scheme_model.specs.Order.{Ops}
use Rattle.scheme_model.specs.UnitExpansion.{Work, ◌then◌, max_total, nodes_in, unless_over}

-- Two sides go together: what they give and their states are joined, or both ended there
pub data Both {S T X Y : Type 0} (Ended : S → T → Type 0) (Going : S → T → X → Y → Type 0) (q : Option X × S) (m : Option Y × T) : Type 0 where
  both_end : (s : S) (t : T) → q ≡ (None, s) → m ≡ (None, t) → Ended s t → Both Ended Going q m
  both_go : (x : X) (y : Y) (s : S) (t : T) → q ≡ (Some x, s) → m ≡ (Some y, t) → Going s t x y → Both Ended Going q m

pub both_at : {S T X Y : Type 0} {Ended : S → T → Type 0} {Going : S → T → X → Y → Type 0} {q q' : Option X × S} {m m' : Option Y × T} → q' ≡ q → m' ≡ m → Both Ended Going q m → Both Ended Going q' m'
both_at a b (both_end s t e d h) = both_end s t (a ∙ e) (b ∙ d) h
both_at a b (both_go x y s t e d h) = both_go x y s t (a ∙ e) (b ∙ d) h

-- one step after another
pub both_then : {S T X Y Z W : Type 0} {Ended : S → T → Type 0} {Going : S → T → X → Y → Type 0} {Next : S → T → Z → W → Type 0} {q : Option X × S} {m : Option Y × T} (f : X → Work S Z) (g : Y → Work T W)
    → Both Ended Going q m → ((x : X) (y : Y) (s : S) (t : T) → Going s t x y → Both Ended Next (f x s) (g y t)) → Both Ended Next (q then f) (m then g)
both_then f g (both_end s t e d h) next = both_end s t (ap (λ z. z then f) e) (ap (λ z. z then g) d) h
both_then f g (both_go x y s t e d h) next = both_at (ap (λ z. z then f) e) (ap (λ z. z then g) d) (next x y s t h)

-- both have counted alike
pub both_over : {E F A B L M S T X Y : Type 0} {Ended : S → T → Type 0} {Going : S → T → X → Y → Type 0} (ops : Ops E A L S) (others : Ops F B M T) (fs : List ℕ) (q : X × S) (m : Y × T)
    → nodes_in others fs m.1 ≡ nodes_in ops fs q.1 → Ended q.1 m.1 → Going q.1 m.1 q.0 m.0 → Both Ended Going (unless_over ops fs q) (unless_over others fs m)
both_over {Ended = Ended} {Going = Going} ops others fs q m e h k = both_at refl (ap (λ n. cond (nat_lt max_total n) (None, m.1) (Some m.0, m.1)) e) (go (nat_lt max_total (nodes_in ops fs q.1)))
  where
    go : (b : Bool) → Both Ended Going (cond b (None, q.1) (Some q.0, q.1)) (cond b (None, m.1) (Some m.0, m.1))
    go true = both_end q.1 m.1 refl refl h
    go false = both_go q.0 m.0 q.1 m.1 refl refl k

-- what holds of what one side gives, and of its state
abbrev pub OnWork : {S X : Type 0} → (S → Type 0) → (S → X → Type 0) → Option X × S → Type 0
OnWork P Q (None, s) = P s
OnWork P Q (Some x, s) = Q s x

pub on_work : {S T X Y : Type 0} {Ended : S → T → Type 0} {Going : S → T → X → Y → Type 0} {q : Option X × S} {m : Option Y × T} (P : S → Type 0) (Q : S → X → Type 0)
    → ((s : S) (t : T) → Ended s t → P s) → ((s : S) (t : T) (x : X) (y : Y) → Going s t x y → Q s x) → Both Ended Going q m → OnWork P Q q
on_work P Q f g (both_end s t e d h) = subst (OnWork P Q) (sym e) (f s t h)
on_work P Q f g (both_go x y s t e d h) = subst (OnWork P Q) (sym e) (g s t x y h)

-- more is known of what one side gives
pub both_know : {S T X Y : Type 0} {Ended : S → T → Type 0} {Going : S → T → X → Y → Type 0} {q : Option X × S} {m : Option Y × T} (P : S → Type 0) (Q : S → X → Type 0)
    → OnWork P Q q → Both Ended Going q m → Both (λ s t. P s × Ended s t) (λ s t x y. Q s x × Going s t x y) q m
both_know P Q k (both_end s t e d h) = both_end s t e d (subst (OnWork P Q) e k, h)
both_know P Q k (both_go x y s t e d h) = both_go x y s t e d (subst (OnWork P Q) e k, h)
