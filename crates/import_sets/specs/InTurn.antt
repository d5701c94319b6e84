-- The units in their turns, each after what it imports.
use Rattle.std.specs.Prelude.{◌≡◌, ℕ, zero, suc, List, [], ◌∷◌, ◌++◌, Bool, true, false, not, ◌&&◌, Option, Some, None}
use Rattle.scheme_model.specs.Program.{Prepared, imports_at, is_in, first_ready}

abbrev pub all_in : List ℕ → List ℕ → Bool
all_in done [] = true
all_in done (n ∷ ns) = is_in n done && all_in done ns

-- a unit isn't done, and all that it imports is
abbrev pub is_open : List ℕ → Prepared → Bool
is_open done p = not (is_in p.number done) && all_in done p.imports

abbrev pub and_then : Option Prepared → (Prepared → List ℕ) → List ℕ
and_then None next = []
and_then (Some p) next = next p

-- the first unit that is open, and then the next: so many of them at most, behind those that are done
abbrev pub in_turn : List Prepared → ℕ → List ℕ → List ℕ
in_turn ps zero done = []
in_turn ps (suc turns) done = and_then (first_ready (is_open done) ps) (λ p. p.number ∷ in_turn ps turns (done ++ p.number ∷ []))

-- behind these units a unit comes for the first time, and all that it imports is among them
pub record ComesAfter (ps : List Prepared) (before : List ℕ) (n : ℕ) : Type 0 where
  pub once : is_in n before ≡ false
  pub imports : (m : ℕ) → is_in m (imports_at ps n) ≡ true → is_in m before ≡ true
