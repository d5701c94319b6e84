-- Which units a unit imports: those that are named first, among those that aren't too many.
use Rattle.std.proofs.Common.{◌≡◌, ℕ, zero, suc, ◌+◌, ◌<◌, ◌≤◌, Bool, true, false, cond, ◌⊎◌, inl, inr, List, [], ◌∷◌, take, slice_get, Option, Some, None, refl, sym, ap, ◌∙◌, arith}
use Rattle.std.specs.Prelude.{◌==◌, nat_lt}
use Rattle.std.proofs.lemmas.Bool.{eqb-true, or_cases, ltb-true}
use Rattle.std.proofs.lemmas.Option.{same_Some}
use Rattle.scheme_model.specs.Requirements.{LibraryName}
use Rattle.scheme_model.specs.Entries.{library_in}
use Rattle.scheme_model.specs.IncludedUnits.{Placed}
use Rattle.scheme_model.specs.Program.{ImportSpec, Prepared, prepared, prepare, imports_at, imported_units, imported_as, unless_standard, is_named, unit_named, is_in, specs_from, forms_or_none}

one_more : (k i : ℕ) → suc k + i ≡ k + suc i
one_more k i = omega arith

-- ---- the first unit with a name

-- it is imported by that name, and isn't one too many
pub record HasName (l : LibraryName) (us : List Placed) (k m : ℕ) : Type 0 where
  pub place : ℕ
  pub unit : Placed
  pub number : m ≡ k + place
  pub there : slice_get us place ≡ Some unit
  pub named : is_named l (imported_as m unit.source) ≡ true

pub named_at : (l : LibraryName) (us : List Placed) (k m : ℕ) → unit_named l k us ≡ Some m → HasName l us k m
named_at l [] k m h = absurd cc
named_at l (u ∷ us) k m h = go (named_at l us (suc k) m) (is_named l (imported_as k u.source)) refl h
  where
    go : (unit_named l (suc k) us ≡ Some m → HasName l us (suc k) m) → (b : Bool) → is_named l (imported_as k u.source) ≡ b → cond b (Some k) (unit_named l (suc k) us) ≡ Some m → HasName l (u ∷ us) k m
    go more true e i = let same : k ≡ m = same_Some k m i in record { place = 0; unit = u; number = omega arith; there = refl; named = ap (λ n. is_named l (imported_as n u.source)) (sym same) ∙ e }
    go more false e i = let r = more i in record { place = suc r.place; unit = r.unit; number = r.number ∙ one_more k r.place; there = r.there; named = r.named }

-- one that has a name isn't one too many
pub few_named : (l : LibraryName) (n : ℕ) (u : Placed) → is_named l (imported_as n u.source) ≡ true → n < 128
few_named l n u h = by (nat_lt n 128) refl _ h
  where
    by : (b : Bool) → nat_lt n 128 ≡ b → (o : Option LibraryName) → is_named l (unless_standard (cond b o None)) ≡ true → n < 128
    by true low o e = ltb-true n 128 low
    by false low o e = absurd cc

-- from the 129th on no unit has a name
unnamed : (l : LibraryName) (n : ℕ) (u : Placed) → 128 ≤ n → is_named l (imported_as n u.source) ≡ false
unnamed l n u le = go (is_named l (imported_as n u.source)) refl
  where
    go : (b : Bool) → is_named l (imported_as n u.source) ≡ b → is_named l (imported_as n u.source) ≡ false
    go true e = let lt = few_named l n u e in absurd (omega arith)
    go false e = e

none_named : (l : LibraryName) (us : List Placed) (k : ℕ) → 128 ≤ k → unit_named l k us ≡ None
none_named l [] k le = refl
none_named l (u ∷ us) k le = ap (λ (b : Bool). cond b (Some k) (unit_named l (suc k) us)) (unnamed l k u le) ∙ none_named l us (suc k) (omega arith)

-- names are those of the units that aren't too many
taken_named : (l : LibraryName) (m : ℕ) (us : List Placed) (k : ℕ) → m + k ≡ 128 → unit_named l k (take m us) ≡ unit_named l k us
taken_named l zero us k e = sym (none_named l us k (omega arith))
taken_named l (suc m) [] k e = refl
taken_named l (suc m) (u ∷ us) k e = ap (cond (is_named l (imported_as k u.source)) (Some k)) (taken_named l m us (suc k) (omega arith))

pub named_of_taken : (l : LibraryName) (us : List Placed) → unit_named l 0 (take 128 us) ≡ unit_named l 0 us
named_of_taken l us = taken_named l 128 us 0 refl

-- ---- imports

abbrev pub place_for : List Placed → Option LibraryName → Option ℕ
place_for us None = None
place_for us (Some n) = unit_named n 0 us

abbrev pub before : Option ℕ → List ℕ → List ℕ
before None rest = rest
before (Some n) rest = n ∷ rest

pub unit_before : (us : List Placed) (s : ImportSpec) (ss : List ImportSpec) (o : Option LibraryName) → library_in s.set ≡ o → imported_units us (s ∷ ss) ≡ before (place_for us o) (imported_units us ss)
unit_before us s ss None e = rw e refl
unit_before us s ss (Some n) e = go (unit_named n 0 us) refl
  where
    go : (o : Option ℕ) → unit_named n 0 us ≡ o → imported_units us (s ∷ ss) ≡ before (place_for us (Some n)) (imported_units us ss)
    go None q = rw (e, q) refl
    go (Some m) q = rw (e, q) refl

-- what holds of each unit that is named first holds of all that are imported
module _ (us : List Placed) (P : ℕ → Type 0) (named : (l : LibraryName) (m : ℕ) → unit_named l 0 us ≡ Some m → P m) where
  place_holds : (o : Option LibraryName) (m : ℕ) → place_for us o ≡ Some m → P m
  place_holds None m h = absurd cc
  place_holds (Some n) m h = named n m h

  pub imported_hold : (ss : List ImportSpec) (m : ℕ) → is_in m (imported_units us ss) ≡ true → P m
  imported_hold [] m h = absurd cc
  imported_hold (s ∷ ss) m h = go (imported_hold ss m) (place_for us (library_in s.set)) refl (sym (ap (is_in m) (unit_before us s ss (library_in s.set) refl)) ∙ h)
    where
      go : (is_in m (imported_units us ss) ≡ true → P m) → (o : Option ℕ) → place_for us (library_in s.set) ≡ o → is_in m (before o (imported_units us ss)) ≡ true → P m
      go more None e i = more i
      go more (Some n) e i = by (or_cases (m == n) (is_in m (imported_units us ss)) i)
        where
          by : ((m == n) ≡ true) ⊎ (is_in m (imported_units us ss) ≡ true) → P m
          by (inl j) = place_holds (library_in s.set) m (e ∙ ap Some (sym (eqb-true m n j)))
          by (inr j) = more j

  pub imports_hold : (vs : List Placed) (k n m : ℕ) → is_in m (imports_at (prepare us k vs) n) ≡ true → P m
  imports_hold [] k n m h = absurd cc
  imports_hold (v ∷ vs) k n m h = go (imports_hold vs (suc k) n m) ((prepared us k v).number == n) h
    where
      go : (is_in m (imports_at (prepare us (suc k) vs) n) ≡ true → P m) → (b : Bool) → is_in m (cond b (prepared us k v).imports (imports_at (prepare us (suc k) vs) n)) ≡ true → P m
      go more true i = imported_hold (prepared us k v).specs m i
      go more false i = more i

-- ---- where names mean the same units

module _ (us vs : List Placed) (same : (l : LibraryName) → unit_named l 0 us ≡ unit_named l 0 vs) where
  place_same : (o : Option LibraryName) → place_for us o ≡ place_for vs o
  place_same None = refl
  place_same (Some n) = same n

  pub imported_same : (ss : List ImportSpec) → imported_units us ss ≡ imported_units vs ss
  imported_same [] = refl
  imported_same (s ∷ ss) =
      unit_before us s ss (library_in s.set) refl ∙ (λ j. before (place_same (library_in s.set) j) (imported_same ss j)) ∙ sym (unit_before vs s ss (library_in s.set) refl)

  pub prepared_same : (n : ℕ) (u : Placed) → prepared us n u ≡ prepared vs n u
  prepared_same n u = ap (λ (ms : List ℕ). record (prepared us n u) { imports = ms }) (imported_same (specs_from n 0 (forms_or_none u.source.forms)))

  pub prepare_same : (ws : List Placed) (k : ℕ) → prepare us k ws ≡ prepare vs k ws
  prepare_same [] k = refl
  prepare_same (w ∷ ws) k = λ j. prepared_same k w j ∷ prepare_same ws (suc k) j

pub prepare_taken : (us vs : List Placed) (m k : ℕ) → prepare us k (take m vs) ≡ take m (prepare us k vs)
prepare_taken us vs zero k = refl
prepare_taken us [] (suc m) k = refl
prepare_taken us (v ∷ vs) (suc m) k = ap (λ (ps : List Prepared). prepared us k v ∷ ps) (prepare_taken us vs m (suc k))

-- the first units, by themselves
pub taken_same : (us : List Placed) → prepare (take 128 us) 0 (take 128 us) ≡ take 128 (prepare us 0 us)
taken_same us = prepare_same (take 128 us) us (λ l. named_of_taken l us) (take 128 us) 0 ∙ prepare_taken us us 128 0
