-- A unit is among the repeated ones where the first unit with its name is another.
use Rattle.std.proofs.Common.{◌≡◌, ℕ, zero, suc, ◌+◌, ◌≤◌, Bool, true, false, cond, ◌⊎◌, inl, inr, List, [], ◌∷◌, slice_get, Option, Some, None, refl, sym, ap, ◌∙◌, arith}
use Rattle.std.specs.Prelude.{◌||◌, ◌==◌}
use Rattle.std.proofs.lemmas.Bool.{eqb-true, or_cases}
use Rattle.std.proofs.lemmas.Bool.Decides.{nat_tests}
use Rattle.std.proofs.lemmas.Option.{same_Some}
use Rattle.scheme_model.specs.Requirements.{LibraryName}
use Rattle.scheme_model.specs.Order.{is_some}
use Rattle.scheme_model.specs.StandardLibraries.{standard}
use Rattle.scheme_model.specs.IncludedUnits.{Placed}
use Rattle.scheme_model.specs.Program.{prepared, is_in, name_if, unless_standard, imported_as, unit_named, is_repeated}
use Rattle.unit_sources.specs.Repeated.{is_repeated_name, repeated_from, repeated_places, has_standard_name}

-- from a place on, places aren't before it
not_before : (all us : List Placed) (k n : ℕ) → is_in n (repeated_from all k us) ≡ true → k ≤ n
not_before all [] k n h = absurd cc
not_before all (u ∷ us) k n h = go (not_before all us (suc k) n) (is_repeated_name all k (imported_as k u.source)) h
  where
    go : (is_in n (repeated_from all (suc k) us) ≡ true → suc k ≤ n) → (b : Bool) → is_in n (cond b (k ∷ repeated_from all (suc k) us) (repeated_from all (suc k) us)) ≡ true → k ≤ n
    go more true e = by (or_cases (n == k) (is_in n (repeated_from all (suc k) us)) e)
      where
        by : ((n == k) ≡ true) ⊎ (is_in n (repeated_from all (suc k) us) ≡ true) → k ≤ n
        by (inl i) = let same = eqb-true n k i in omega arith
        by (inr i) = let le = more i in omega arith
    go more false e = let le = more e in omega arith

unless_true : (b : Bool) → (b ≡ true → ⊥) → b ≡ false
unless_true true h = absurd (h refl)
unless_true false h = refl

repeated_at : (all us : List Placed) (k i n : ℕ) (u : Placed) → n ≡ k + i → slice_get us i ≡ Some u → is_in n (repeated_from all k us) ≡ is_repeated_name all n (imported_as n u.source)
repeated_at all [] k i n u e h = absurd cc
repeated_at all (v ∷ us) k zero n u e h =
    ap (λ m. is_in m (repeated_from all k (v ∷ us))) same ∙ go (is_repeated_name all k (imported_as k v.source)) ∙ (λ j. is_repeated_name all (sym same j) (imported_as (sym same j) (same_Some v u h j).source))
  where
    same : n ≡ k
    same = omega arith

    itself : (k == k) ≡ true
    itself = grind (arith, nat_tests)

    later : is_in k (repeated_from all (suc k) us) ≡ false
    later = unless_true (is_in k (repeated_from all (suc k) us)) (λ e. let le = not_before all us (suc k) k e in absurd (omega arith))

    go : (b : Bool) → is_in k (cond b (k ∷ repeated_from all (suc k) us) (repeated_from all (suc k) us)) ≡ b
    go true = ap (λ b. b || is_in k (repeated_from all (suc k) us)) itself
    go false = later
repeated_at all (v ∷ us) k (suc i) n u e h = go (is_repeated_name all k (imported_as k v.source)) ∙ repeated_at all us (suc k) i n u (omega arith) h
  where
    apart : (n == k) ≡ false
    apart = grind (arith, nat_tests)

    go : (b : Bool) → is_in n (cond b (k ∷ repeated_from all (suc k) us) (repeated_from all (suc k) us)) ≡ is_in n (repeated_from all (suc k) us)
    go true = ap (λ b. b || is_in n (repeated_from all (suc k) us)) apart
    go false = refl

defined_twice : (all : List Placed) (n : ℕ) (u : Placed) (o : Option LibraryName) → name_if n u.source ≡ o →
    is_repeated all (prepared all n u) ≡ (has_standard_name o || is_repeated_name all n (unless_standard o))
defined_twice all n u None e = rw e refl
defined_twice all n u (Some m) e = go (is_some (standard m)) refl (unit_named m 0 all) refl
  where
    go : (b : Bool) → is_some (standard m) ≡ b → (o : Option ℕ) → unit_named m 0 all ≡ o →
        is_repeated all (prepared all n u) ≡ (has_standard_name (Some m) || is_repeated_name all n (unless_standard (Some m)))
    go true s o q = rw (e, s) refl
    go false s None q = rw (e, s, q) refl
    go false s (Some p) q = rw (e, s, q) refl

pub repeated_are : (all : List Placed) (n : ℕ) (u : Placed) → slice_get all n ≡ Some u → is_repeated all (prepared all n u) ≡ (has_standard_name (name_if n u.source) || is_in n (repeated_places all))
repeated_are all n u h =
    defined_twice all n u (name_if n u.source) refl ∙ ap (λ b. has_standard_name (name_if n u.source) || b) (sym (repeated_at all all 0 n n u (none_more n) h))
  where
    none_more : (n : ℕ) → n ≡ 0 + n
    none_more n = omega arith
