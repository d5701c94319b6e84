-- Where work on a unit ends, and how its forms are numbered (R7RS 5.1, 5.3).
use Rattle.std.specs.Prelude.{◌≡◌, ◌⊎◌, ℕ, suc, ◌≤◌, nat_lt, List, [], ◌∷◌, map, true, false, Option, Some, None}
use Rattle.scheme_model.specs.Order.{Ops}
use Rattle.scheme_model.specs.UnitExpansion.{max_total, nodes_in}

-- ---- numbers of forms

abbrev pub numbers_of : {X : Type 0} → List (ℕ × X) → List ℕ
numbers_of rs = map (λ r. r.0) rs

-- numbers that rise, from one on
abbrev pub Rise : ℕ → List ℕ → Type 0
Rise n [] = Unit {0}
Rise n (f ∷ fs) = (n ≤ f) × Rise (suc f) fs

abbrev pub IsAmong : ℕ → List ℕ → Type 0
IsAmong n [] = ⊥
IsAmong n (f ∷ fs) = (f ≡ n) ⊎ IsAmong n fs

-- ---- where work ends

-- forms have counted so many nodes in the last state of work: it ended there if these are too many, and else gave something of
-- which this holds
pub record Comes {E A L S X : Type 0} (ops : Ops E A L S) (fs : List ℕ) (work : Option X × S) (total : ℕ) (last : S) (P : X → Type 0) : Type 0 where
  pub counted : nodes_in ops fs last ≡ total
  pub over : nat_lt max_total total ≡ true → work ≡ (None, last)
  pub whole : nat_lt max_total total ≡ false → (x : X) × (work ≡ (Some x, last)) × P x
