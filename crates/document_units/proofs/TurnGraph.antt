-- Units wait for units that aren't too many, and in no circle: those on one are broken. So each comes in its turn, and once.
use Rattle.std.proofs.Common.{◌≡◌, ℕ, zero, suc, ◌+◌, ◌<◌, ◌≤◌, Bool, true, false, cond, ◌⊎◌, inl, inr, List, [], ◌∷◌, ◌++◌, length, map, take, slice_get, Option, Some, None, Result, Ok, Err, refl, sym, ap, ◌∙◌, arith}
use Rattle.std.specs.Prelude.{◌==◌}
use Rattle.std.proofs.lemmas.Bool.{eqb-true, eq-eqb, or_cases}
use Rattle.std.proofs.lemmas.Bool.Decides.{nat_tests}
use Rattle.std.proofs.lemmas.Option.{same_Some, slice_get_within}
use Rattle.std.proofs.lemmas.List.{length-map}
use Rattle.scheme_model.specs.Requirements.{LibraryName}
use Rattle.scheme_model.specs.Declarations.{UnitForm}
use Rattle.scheme_model.specs.IncludedUnits.{EarlyFault, Placed}
use Rattle.scheme_model.specs.Program.{Prepared, prepared, prepare, imports_at, unit_named, is_in, reached, on_circle, WholeFault, TooMany, DefinedTwice, ImportCycle, declared_fault, fault_before, first_ready}
use Rattle.import_sets.specs.InTurn.{is_open, and_then, in_turn, ComesAfter}
use Rattle.import_sets.specs.Graphs.{AreNumbered, is_circular}
use Rattle.import_sets.proofs.ReachLaws.{IsWithin, reached_closed, reached_start, reached_within}
use Rattle.import_sets.proofs.TurnLaws.{ready_found, every_unit, comes_after}
use Rattle.document_units.proofs.NamedUnits.{named_at, few_named, imports_hold}
use Rattle.document_units.specs.Turned.{waits_if, waits, waiting, turns}

-- ---- units at their numbers

one_more : (k i : ℕ) → suc k + i ≡ k + suc i
one_more k i = omega arith

abbrev pub AreFrom : ℕ → List Prepared → Type 0
AreFrom k ps = (i : ℕ) (p : Prepared) → slice_get ps i ≡ Some p → p.number ≡ k + i

next_from : (k : ℕ) (x : Prepared) (xs : List Prepared) → AreFrom k (x ∷ xs) → AreFrom (suc k) xs
next_from k x xs h i p at = h (suc i) p at ∙ sym (one_more k i)

pub prepared_from : (all us : List Placed) (k : ℕ) → AreFrom k (prepare all k us)
prepared_from all [] k i p h = absurd cc
prepared_from all (u ∷ us) k zero p h = let same : prepared all k u ≡ p = same_Some (prepared all k u) p h in let e : p.number ≡ k = ap (λ (q : Prepared). q.number) (sym same) in omega arith
prepared_from all (u ∷ us) k (suc i) p h = prepared_from all us (suc k) i p h ∙ one_more k i

pub at_numbers : (all : List Placed) (n : ℕ) (p : Prepared) → slice_get (prepare all 0 all) n ≡ Some p → p.number ≡ n
at_numbers all n p h = let e = prepared_from all all 0 n p h in omega arith

pub as_many : (all us : List Placed) (k : ℕ) → length (prepare all k us) ≡ length us
as_many all [] k = refl
as_many all (u ∷ us) k = ap suc (as_many all us (suc k))

imports_from : (k : ℕ) (ps : List Prepared) → AreFrom k ps → (i : ℕ) (p : Prepared) → slice_get ps i ≡ Some p → p.imports ≡ imports_at ps (k + i)
imports_from k [] from i p at = absurd cc
imports_from k (x ∷ ps) from zero p at =
    let e = from 0 x refl in
    ap (λ (q : Prepared). q.imports) (sym (same_Some x p at)) ∙ sym (ap (λ (b : Bool). cond b x.imports (imports_at ps (k + 0))) (eq-eqb x.number (k + 0) e))
imports_from k (x ∷ ps) from (suc i) p at =
    imports_from (suc k) ps (next_from k x ps from) i p at ∙ ap (imports_at ps) (one_more k i) ∙ sym (ap (λ (b : Bool). cond b x.imports (imports_at ps (k + suc i))) (ahead x.number (from 0 x refl)))
  where
    ahead : (n : ℕ) → n ≡ k + 0 → (n == k + suc i) ≡ false
    ahead n e = grind (arith, nat_tests)

numbered : (ps : List Prepared) → AreFrom 0 ps → AreNumbered ps
numbered ps from n p at = (let e = from n p at in omega arith, imports_from 0 ps from n p at ∙ ap (imports_at ps) (none_more n))
  where
    none_more : (n : ℕ) → 0 + n ≡ n
    none_more n = omega arith

pub all_numbered : (all : List Placed) → AreNumbered (prepare all 0 all)
all_numbered all = numbered (prepare all 0 all) (prepared_from all all 0)

-- ---- those that wait

same_number : (o : Option WholeFault) (p : Prepared) → (waits_if o p).number ≡ p.number
same_number None p = refl
same_number (Some f) p = refl

fewer : (o : Option WholeFault) (p : Prepared) (m : ℕ) → is_in m (waits_if o p).imports ≡ true → is_in m p.imports ≡ true
fewer None p m h = h
fewer (Some f) p m h = absurd cc

-- what stands among the first units, as they became others
mapped_at : (w : Prepared → Prepared) (k : ℕ) (ps : List Prepared) (n : ℕ) (q : Prepared) → slice_get (map w (take k ps)) n ≡ Some q → (p : Prepared) × ((slice_get ps n ≡ Some p) × (w p ≡ q))
mapped_at w zero ps n q h = absurd cc
mapped_at w (suc k) [] n q h = absurd cc
mapped_at w (suc k) (x ∷ ps) zero q h = (x, (refl, same_Some (w x) q h))
mapped_at w (suc k) (x ∷ ps) (suc n) q h = mapped_at w k ps n q h

pub waiting_at : (all : List Placed) (n : ℕ) (q : Prepared) → slice_get (waiting all) n ≡ Some q → (p : Prepared) × ((slice_get (prepare all 0 all) n ≡ Some p) × (waits all p ≡ q))
waiting_at all n q h = mapped_at (waits all) 128 (prepare all 0 all) n q h

waiting_from : (all : List Placed) → AreFrom 0 (waiting all)
waiting_from all n q h =
    let r = waiting_at all n q h in
    ap (λ (p : Prepared). p.number) (sym r.1.1) ∙ same_number (fault_before all (prepare all 0 all) r.0) r.0 ∙ prepared_from all all 0 n r.0 r.1.0

pub waiting_numbered : (all : List Placed) → AreNumbered (waiting all)
waiting_numbered all = numbered (waiting all) (waiting_from all)

waits_for_fewer : (all : List Placed) (k : ℕ) (ps : List Prepared) (n m : ℕ) → is_in m (imports_at (map (waits all) (take k ps)) n) ≡ true → is_in m (imports_at ps n) ≡ true
waits_for_fewer all zero ps n m h = absurd cc
waits_for_fewer all (suc k) [] n m h = absurd cc
waits_for_fewer all (suc k) (x ∷ ps) n m h = go (waits_for_fewer all k ps n m) (x.number == n) (ap (λ i. cond (i == n) (is_in m (waits all x).imports) (is_in m (imports_at (map (waits all) (take k ps)) n))) (sym (same_number (fault_before all (prepare all 0 all) x) x)) ∙ inside ((waits all x).number == n) ∙ h)
  where
    inside : (b : Bool) → cond b (is_in m (waits all x).imports) (is_in m (imports_at (map (waits all) (take k ps)) n)) ≡ is_in m (cond b (waits all x).imports (imports_at (map (waits all) (take k ps)) n))
    inside true = refl
    inside false = refl

    go : (is_in m (imports_at (map (waits all) (take k ps)) n) ≡ true → is_in m (imports_at ps n) ≡ true) → (b : Bool) → cond b (is_in m (waits all x).imports) (is_in m (imports_at (map (waits all) (take k ps)) n)) ≡ true →
        is_in m (cond b x.imports (imports_at ps n)) ≡ true
    go more true i = fewer (fault_before all (prepare all 0 all) x) x m i
    go more false i = more i

-- ---- all that units wait for are units, and not too many

abbrev pub IsLow : List Placed → ℕ → Type 0
IsLow us m = (m < length us) × (m < 128)

named_low : (us : List Placed) (l : LibraryName) (m : ℕ) → unit_named l 0 us ≡ Some m → IsLow us m
named_low us l m h =
    let at = named_at l us 0 m h in
    let lt = slice_get_within us at.place at.unit at.there in
    let e = at.number in
    (omega arith, few_named l m at.unit at.named)

pub row_low : (all : List Placed) (n m : ℕ) → is_in m (imports_at (prepare all 0 all) n) ≡ true → IsLow all m
row_low all n m h = imports_hold all (IsLow all) (named_low all) all 0 n m h

pub taken_has : {A : Type 0} (k : ℕ) (xs : List A) (m : ℕ) → m < length xs → m < k → m < length (take k xs)
taken_has zero xs m lt low = absurd (omega arith)
taken_has (suc k) [] m lt low = absurd (omega arith)
taken_has (suc k) (x ∷ xs) zero lt low = omega arith
taken_has (suc k) (x ∷ xs) (suc m) lt low = let r = taken_has k xs m (omega arith) (omega arith) in omega arith

pub waiting_length : (all : List Placed) → length (waiting all) ≡ length (take 128 (prepare all 0 all))
waiting_length all = length-map (take 128 (prepare all 0 all)) (waits all)

pub low_waits : (all : List Placed) (m : ℕ) → IsLow all m → m < length (waiting all)
low_waits all m low = let e = waiting_length all in let f = as_many all all 0 in let r = taken_has 128 (prepare all 0 all) m (let lt = low.0 in omega arith) low.1 in omega arith

pub all_within : (all : List Placed) → IsWithin (prepare all 0 all)
all_within all n m h = let e = as_many all all 0 in let lt = (row_low all n m h).0 in omega arith

waiting_within : (all : List Placed) → IsWithin (waiting all)
waiting_within all n m h = low_waits all m (row_low all n m (waits_for_fewer all 128 (prepare all 0 all) n m h))

-- ---- none is on a circle

unbroken : (all : List Placed) (ps : List Prepared) (p : Prepared) → fault_before all ps p ≡ None → on_circle ps p ≡ false
unbroken all ps p h = go _ p.placed.source.forms _ (on_circle ps p) h
  where
    go : (a : Bool) (fs : Result (List UnitForm) EarlyFault) (r c : Bool) → cond a (Some TooMany) (declared_fault p.number fs (cond r (Some DefinedTwice) (cond c (Some ImportCycle) None))) ≡ None → c ≡ false
    go true fs r c e = absurd cc
    go false (Err d) r c e = absurd cc
    go false (Ok fs) true c e = absurd cc
    go false (Ok fs) false true e = absurd cc
    go false (Ok fs) false false e = refl

get : {A : Type 0} (xs : List A) (n : ℕ) → n < length xs → (x : A) × (slice_get xs n ≡ Some x)
get [] n lt = absurd (omega arith)
get (x ∷ xs) zero lt = (x, refl)
get (x ∷ xs) (suc n) lt = get xs n (omega arith)

no_circle : (all : List Placed) (n : ℕ) → n < length (waiting all) → is_circular (waiting all) n ≡ false
no_circle all n lt = go (is_circular (waiting all) n) refl
  where
    q : (q : Prepared) × (slice_get (waiting all) n ≡ Some q)
    q = get (waiting all) n lt

    p : (p : Prepared) × ((slice_get (prepare all 0 all) n ≡ Some p) × (waits all p ≡ q.0))
    p = waiting_at all n q.0 q.1

    wrong : {A : Type 0} → false ≡ true → A
    wrong e = absurd cc

    by : is_circular (waiting all) n ≡ true → (o : Option WholeFault) → fault_before all (prepare all 0 all) p.0 ≡ o → false ≡ true
    by h (Some f) e = reached_within (waiting all) (λ m. false) (λ k m i j. i) (length (waiting all)) (imports_at (waiting all) n) nothing n h
      where
        none : imports_at (waiting all) n ≡ []
        none = sym (waiting_numbered all n q.0 q.1).1 ∙ ap (λ (r : Prepared). r.imports) (sym p.1.1) ∙ ap (λ (o : Option WholeFault). (waits_if o p.0).imports) e

        nothing : (m : ℕ) → is_in m (imports_at (waiting all) n) ≡ true → false ≡ true
        nothing m i = sym (ap (is_in m) none) ∙ i
    by h None e = sym free ∙ there
      where
        own : (p.0.number ≡ n) × (p.0.imports ≡ imports_at (prepare all 0 all) n)
        own = all_numbered all n p.0 p.1.0

        free : is_in n (reached (prepare all 0 all) (length (prepare all 0 all)) (imports_at (prepare all 0 all) n)) ≡ false
        free = (λ j. is_in (sym own.0 j) (reached (prepare all 0 all) (length (prepare all 0 all)) (sym own.1 j))) ∙ unbroken all (prepare all 0 all) p.0 e

        there : is_in n (reached (prepare all 0 all) (length (prepare all 0 all)) (imports_at (prepare all 0 all) n)) ≡ true
        there =
            reached_within (waiting all) (λ m. is_in m (reached (prepare all 0 all) (length (prepare all 0 all)) (imports_at (prepare all 0 all) n)))
            (λ k m i j. reached_closed (prepare all 0 all) (all_within all) (imports_at (prepare all 0 all) n) k m i (waits_for_fewer all 128 (prepare all 0 all) k m j)) (length (waiting all)) (imports_at (waiting all) n)
            (λ m i. reached_start (prepare all 0 all) (length (prepare all 0 all)) (imports_at (prepare all 0 all) n) m (waits_for_fewer all 128 (prepare all 0 all) n m i)) n h

    go : (b : Bool) → is_circular (waiting all) n ≡ b → is_circular (waiting all) n ≡ false
    go true h = wrong (by h (fault_before all (prepare all 0 all) p.0) refl)
    go false h = h

-- ---- each comes, and once

pub each_turn : (all : List Placed) (n : ℕ) → n < length (waiting all) → is_in n (turns all) ≡ true
each_turn all n lt = every_unit (waiting all) (waiting_numbered all) (waiting_within all) (no_circle all) n lt

pub turn_after : (all : List Placed) (n : ℕ) (before rest : List ℕ) → turns all ≡ before ++ n ∷ rest → ComesAfter (waiting all) before n
turn_after all n before rest e = comes_after (waiting all) (waiting_numbered all) (length (waiting all)) [] before rest n e

below : (qs : List Prepared) → AreNumbered qs → (t : ℕ) (done : List ℕ) (n : ℕ) → is_in n (in_turn qs t done) ≡ true → n < length qs
below qs numbered zero done n h = absurd cc
below qs numbered (suc t) done n h = go (λ next. below qs numbered t next n) (first_ready (is_open done) qs) refl h
  where
    go : ((next : List ℕ) → is_in n (in_turn qs t next) ≡ true → n < length qs) → (o : Option Prepared) → first_ready (is_open done) qs ≡ o → is_in n (and_then o (λ p. p.number ∷ in_turn qs t (done ++ p.number ∷ []))) ≡ true → n < length qs
    go more None e i = absurd cc
    go more (Some q) e i = by (or_cases (n == q.number) (is_in n (in_turn qs t (done ++ q.number ∷ []))) i)
      where
        by : ((n == q.number) ≡ true) ⊎ (is_in n (in_turn qs t (done ++ q.number ∷ [])) ≡ true) → n < length qs
        by (inl j) =
            let found = ready_found (is_open done) qs q e in
            let own = numbered found.1.0 q found.1.1 in
            let inside = slice_get_within qs found.1.0 q found.1.1 in
            let same = eqb-true n q.number j in
            let number = own.0 in
            omega arith
        by (inr j) = more (done ++ q.number ∷ []) j

pub turn_below : (all : List Placed) (n : ℕ) → is_in n (turns all) ≡ true → n < length (waiting all)
turn_below all n h = below (waiting all) (waiting_numbered all) (length (waiting all)) [] n h

few : (qs : List Prepared) (t : ℕ) (done : List ℕ) → length (in_turn qs t done) ≤ t
few qs zero done = omega arith
few qs (suc t) done = go (λ next. few qs t next) (first_ready (is_open done) qs)
  where
    go : ((next : List ℕ) → length (in_turn qs t next) ≤ t) → (o : Option Prepared) → length (and_then o (λ p. p.number ∷ in_turn qs t (done ++ p.number ∷ []))) ≤ suc t
    go more None = omega arith
    go more (Some q) = let le = more (done ++ q.number ∷ []) in omega arith

pub few_turns : (all : List Placed) → length (turns all) ≤ length (waiting all)
few_turns all = few (waiting all) (length (waiting all)) []
