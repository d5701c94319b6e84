-- The units that import themselves, directly or not.
use Rattle.std.proofs.Common.{◌≡◌, ℕ, zero, suc, ◌+◌, ◌<◌, Bool, true, false, cond, ◌⊎◌, inl, inr, List, [], ◌∷◌, ◌++◌, append-nil, length, refl, sym, ap, ◌∙◌, arith}
use Rattle.std.specs.Prelude.{◌==◌}
use Rattle.std.proofs.lemmas.Bool.{eqb-true, or_cases}
use Rattle.std.proofs.lemmas.Bool.Decides.{nat_tests}
use Rattle.std.proofs.lemmas.List.{nil_from_length}
use Rattle.scheme_model.specs.Program.{Prepared, imports_at, is_in}
use Rattle.import_sets.specs.Graphs.{row, IsGraph, is_circular, passing}
use Rattle.import_sets.proofs.ReachLaws.{in_push, reached_within}

pub plus_one : (k i : ℕ) → suc k + i ≡ k + suc i
plus_one k i = omega arith

-- the numbers from one on that pass a test, of so many
abbrev pub passing_from : (ℕ → Bool) → ℕ → ℕ → List ℕ
passing_from f n zero = []
passing_from f n (suc k) = cond (f n) (n ∷ passing_from f (suc n) k) (passing_from f (suc n) k)

abbrev if_passing : Bool → ℕ → List ℕ
if_passing b n = cond b (n ∷ []) []

from_push : (f : ℕ → Bool) (n k : ℕ) → passing_from f n (suc k) ≡ passing_from f n k ++ if_passing (f (n + k)) (n + k)
from_push f n zero = ap (λ m. if_passing (f m) m) (none_more n)
  where
    none_more : (n : ℕ) → n ≡ n + 0
    none_more n = omega arith
from_push f n (suc k) = go (from_push f (suc n) k) (f n) ∙ ap (λ m. cond (f n) (n ∷ passing_from f (suc n) k) (passing_from f (suc n) k) ++ if_passing (f m) m) (plus_one n k)
  where
    go : passing_from f (suc n) (suc k) ≡ passing_from f (suc n) k ++ if_passing (f (suc n + k)) (suc n + k) → (b : Bool) → cond b (n ∷ passing_from f (suc n) (suc k)) (passing_from f (suc n) (suc k)) ≡ cond b (n ∷ passing_from f (suc n) k) (passing_from f (suc n) k) ++ if_passing (f (suc n + k)) (suc n + k)
    go more true = ap (λ (l : List ℕ). n ∷ l) more
    go more false = more

pub passing_same : (f : ℕ → Bool) (n : ℕ) → passing f n ≡ passing_from f 0 n
passing_same f zero = refl
passing_same f (suc n) = go (passing_same f n) (f n) refl
  where
    none_less : (n : ℕ) → n ≡ 0 + n
    none_less n = omega arith

    go : passing f n ≡ passing_from f 0 n → (b : Bool) → f n ≡ b → cond b (passing f n ++ n ∷ []) (passing f n) ≡ passing_from f 0 (suc n)
    go more true e = ap (λ (l : List ℕ). l ++ n ∷ []) more ∙ sym (from_push f 0 n ∙ ap (λ m. passing_from f 0 n ++ if_passing (f m) m) (sym (none_less n)) ∙ ap (λ b. passing_from f 0 n ++ if_passing b n) e)
    go more false e = more ∙ sym (from_push f 0 n ∙ ap (λ m. passing_from f 0 n ++ if_passing (f m) m) (sym (none_less n)) ∙ ap (λ b. passing_from f 0 n ++ if_passing b n) e ∙ append-nil (passing_from f 0 n))

-- where none passes, each fails; and what passes is below
pub passing_none : (f : ℕ → Bool) (n : ℕ) → passing f n ≡ [] → (m : ℕ) → m < n → f m ≡ false
passing_none f zero h m lt = absurd (omega arith)
passing_none f (suc n) h m lt = go (λ e. passing_none f n e m) (f n) refl h (m == n) refl
  where
    no_end : (xs : List ℕ) (x : ℕ) → xs ++ x ∷ [] ≡ [] → ⊥
    no_end [] x e = absurd cc
    no_end (y ∷ xs) x e = absurd cc

    apart : (m == n) ≡ false → m < n
    apart e = grind (arith, nat_tests)

    go : (passing f n ≡ [] → m < n → f m ≡ false) → (b : Bool) → f n ≡ b → cond b (passing f n ++ n ∷ []) (passing f n) ≡ [] → (c : Bool) → (m == n) ≡ c → f m ≡ false
    go more true p e c q = absurd (no_end (passing f n) n e)
    go more false p e true q = ap f (eqb-true m n q) ∙ p
    go more false p e false q = more e (apart q)

pub passing_below : (f : ℕ → Bool) (n m : ℕ) → is_in m (passing f n) ≡ true → m < n
passing_below f zero m h = absurd cc
passing_below f (suc n) m h = go (passing_below f n m) (f n) h
  where
    go : (is_in m (passing f n) ≡ true → m < n) → (b : Bool) → is_in m (cond b (passing f n ++ n ∷ []) (passing f n)) ≡ true → m < suc n
    go more true e = by (or_cases (is_in m (passing f n)) (m == n) (sym (in_push m (passing f n) n) ∙ e))
      where
        by : (is_in m (passing f n) ≡ true) ⊎ ((m == n) ≡ true) → m < suc n
        by (inl i) = let lt = more i in omega arith
        by (inr i) = let same = eqb-true m n i in omega arith
    go more false e = let lt = more e in omega arith

-- ---- the units on circles

-- a unit that imports nothing is on no circle
pub imports_none : (g : List (List ℕ)) (ps : List Prepared) (n : ℕ) (r : List ℕ) → IsGraph g ps → r ≡ row g n → length r ≡ 0 → false ≡ is_circular ps n
imports_none g ps n r is e none = go (is_circular ps n) refl
  where
    nothing : (m : ℕ) → is_in m (imports_at ps n) ≡ true → false ≡ true
    nothing m i = sym (ap (is_in m) (nil_from_length r none)) ∙ ap (is_in m) e ∙ is.imports n m ∙ i

    go : (b : Bool) → is_circular ps n ≡ b → false ≡ b
    go true h = reached_within ps (λ m. false) (λ k m i j. i) (length ps) (imports_at ps n) nothing n h
    go false h = refl

-- ---- one place more

pub passing_next : (f : ℕ → Bool) (n : ℕ) (b : Bool) (old new : List ℕ) → b ≡ f n → old ≡ passing f n → new ≡ cond b (old ++ n ∷ []) old → new ≡ passing f (n + 1)
passing_next f n b old new test o e =
    e ∙ (λ j. cond (test j) (o j ++ n ∷ []) (o j)) ∙ ap (passing f) (more n)
  where
    more : (n : ℕ) → suc n ≡ n + 1
    more n = omega arith

pub below_next : (n m : ℕ) (b : Bool) (old new : List ℕ) → ((m : ℕ) → is_in m old ≡ true → m < n) → new ≡ cond b (old ++ n ∷ []) old → is_in m new ≡ true → m < n + 1
below_next n m b old new below e h = go b (sym (ap (is_in m) e) ∙ h)
  where
    go : (b : Bool) → is_in m (cond b (old ++ n ∷ []) old) ≡ true → m < n + 1
    go true i = by (or_cases (is_in m old) (m == n) (sym (in_push m old n) ∙ i))
      where
        by : (is_in m old ≡ true) ⊎ ((m == n) ≡ true) → m < n + 1
        by (inl k) = let lt = below m k in omega arith
        by (inr k) = let same = eqb-true m n k in omega arith
    go false i = let lt = below m i in omega arith
