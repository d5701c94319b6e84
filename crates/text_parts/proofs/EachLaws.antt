-- A fact at each place of a list, one more.
use Rattle.std.proofs.Common.{◌≡◌, ℕ, zero, suc, ◌<◌, List, [], ◌∷◌, ◌++◌, length, get_or, refl, sym, subst, arith}
use Rattle.text_parts.specs.Places.{Each}

pub each_none : {X : Type 0} (P : ℕ → X → Type 0) → Each P []
each_none P k d lt = absurd (omega arith)

pub each_more : {X : Type 0} (P : ℕ → X → Type 0) (xs : List X) (x : X) → Each P xs → P (length xs) x → Each P (xs ++ x ∷ [])
each_more P [] x h p zero d lt = p
each_more P [] x h p (suc k) d lt = absurd (omega arith)
each_more P (y ∷ ys) x h p zero d lt = h zero d (omega arith)
each_more P (y ∷ ys) x h p (suc k) d lt = each_more (λ n. P (suc n)) ys x (λ n e low. h (suc n) e (omega arith)) p k d (omega arith)

-- what stands at a place
pub each_at : {X : Type 0} (P : ℕ → X → Type 0) (xs : List X) (k : ℕ) (x : X) → k < length xs → x ≡ get_or xs k x → Each P xs → P k x
each_at P xs k x lt is h = subst (P k) (sym is) (h k x lt)
