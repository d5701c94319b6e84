-- The units on circles are told by the names of their libraries.
use Rattle.std.proofs.Common.{◌≡◌, ℕ, zero, suc, ◌+◌, ◌≤◌, Bool, true, false, cond, ◌⊎◌, inl, inr, List, [], ◌∷◌, length, map, slice_get, Option, Some, None, refl, sym, ap, ◌∙◌, arith}
use Rattle.std.specs.Prelude.{◌||◌, ◌==◌, filter}
use Rattle.std.proofs.lemmas.Bool.{eqb-true, eq-eqb, or_cases}
use Rattle.std.proofs.lemmas.Bool.Decides.{nat_tests}
use Rattle.std.proofs.lemmas.Option.{same_Some}
use Rattle.scheme_model.specs.Requirements.{LibraryName}
use Rattle.scheme_model.specs.IncludedUnits.{Placed}
use Rattle.scheme_model.specs.Program.{Prepared, prepared, prepare, imports_at, is_in, on_circle, imported_as, is_named, unit_named}
use Rattle.import_sets.proofs.ReachLaws.{reached_within}
use Rattle.unit_sources.specs.declared.units.UnitSource as code
use Rattle.unit_sources.specs.Sources.{TellsNames, AreUnits}
use Rattle.unit_sources.specs.Named.{place_named, with_place}
use Rattle.unit_sources.specs.Orders.{with_imports, circles, name_before, names_of}
use Rattle.unit_sources.specs.Repeated.{is_at}
use Rattle.unit_sources.proofs.NamedLaws.{library_told, place_same}
use Rattle.read_documents.specs.Libraries.{places_by}
use Rattle.document_units.proofs.NamedUnits.{named_at, imports_hold}
use Rattle.document_units.proofs.TurnGraph.{all_numbered}

-- ---- units that are named first

abbrev by_name : List Placed → ℕ → Option LibraryName → Bool
by_name us n None = false
by_name us n (Some m) = is_at n (unit_named m 0 us)

abbrev has_first : List Placed → ℕ → Option Placed → Bool
has_first us n None = false
has_first us n (Some u) = by_name us n (imported_as n u.source)

abbrev named_first : List Placed → ℕ → Bool
named_first us n = has_first us n (slice_get us n)

is_first : (us : List Placed) (l : LibraryName) (m : ℕ) → unit_named l 0 us ≡ Some m → named_first us m ≡ true
is_first us l m h =
    let at = named_at l us 0 m h in
    ap (has_first us m) (ap (slice_get us) (same at.place at.number) ∙ at.there) ∙ go (imported_as m at.unit.source) at.named
  where
    same : (i : ℕ) → m ≡ 0 + i → m ≡ i
    same i e = omega arith

    go : (o : Option LibraryName) → is_named l o ≡ true → by_name us m o ≡ true
    go None e = absurd cc
    go (Some k) e = ap (λ (n : LibraryName). is_at m (unit_named n 0 us)) (library_told k l e) ∙ ap (is_at m) h ∙ eq-eqb m m refl

-- the library's name, which means this unit
first_name : (us : List Placed) (n : ℕ) (o : Option LibraryName) → by_name us n o ≡ true → (m : LibraryName) × ((o ≡ Some m) × (unit_named m 0 us ≡ Some n))
first_name us n None h = absurd cc
first_name us n (Some m) h = (m, (refl, go (unit_named m 0 us) h))
  where
    go : (o : Option ℕ) → is_at n o ≡ true → o ≡ Some n
    go None e = absurd cc
    go (Some k) e = ap Some (eqb-true k n e)

-- ---- units on circles

pub prepared_at : (us vs : List Placed) (k i : ℕ) (p : Prepared) → slice_get (prepare us k vs) i ≡ Some p → (u : Placed) × ((slice_get vs i ≡ Some u) × (prepared us (k + i) u ≡ p))
prepared_at us [] k i p h = absurd cc
prepared_at us (v ∷ vs) k zero p h = (v, (refl, ap (λ n. prepared us n v) (none_more k) ∙ same_Some (prepared us k v) p h))
  where
    none_more : (k : ℕ) → k + 0 ≡ k
    none_more k = omega arith
prepared_at us (v ∷ vs) k (suc i) p h = let r = prepared_at us vs (suc k) i p h in (r.0, (r.1.0, ap (λ n. prepared us n r.0) (one_more k i) ∙ r.1.1))
  where
    one_more : (k i : ℕ) → k + suc i ≡ suc k + i
    one_more k i = omega arith

-- a unit on a circle is a library, and the first with its name
circle_name : (us : List Placed) (n : ℕ) (p : Prepared) → slice_get (with_imports us) n ≡ Some p → on_circle (with_imports us) p ≡ true →
    (m : LibraryName) × ((imported_as p.number p.placed.source ≡ Some m) × (unit_named m 0 us ≡ Some p.number))
circle_name us n p at h =
    first_name us p.number (imported_as p.number p.placed.source) (sym (ap (has_first us p.number) here) ∙ first)
  where
    own : (p.number ≡ n) × (p.imports ≡ imports_at (with_imports us) n)
    own = all_numbered us n p at

    unit : (u : Placed) × ((slice_get us n ≡ Some u) × (prepared us (0 + n) u ≡ p))
    unit = prepared_at us us 0 n p at

    here : slice_get us p.number ≡ Some p.placed
    here = ap (slice_get us) own.0 ∙ unit.1.0 ∙ ap (λ (q : Prepared). Some q.placed) unit.1.1

    by_imports : (k m : ℕ) → is_in m (imports_at (with_imports us) k) ≡ true → named_first us m ≡ true
    by_imports k m i = imports_hold us (λ m. named_first us m ≡ true) (is_first us) us 0 k m i

    first : named_first us p.number ≡ true
    first =
        reached_within (with_imports us) (named_first us) (λ k m i j. by_imports k m j) (length (with_imports us)) p.imports
        (λ m i. by_imports n m (ap (is_in m) (sym own.1) ∙ i)) p.number h

-- ---- those that pass a test

filter_at : (f : Prepared → Bool) (ps : List Prepared) (i : ℕ) (q : Prepared) → slice_get (filter f ps) i ≡ Some q → (f q ≡ true) × ((n : ℕ) × (slice_get ps n ≡ Some q))
filter_at f [] i q h = absurd cc
filter_at f (x ∷ ps) i q h = go (λ i. filter_at f ps i q) (f x) refl i h
  where
    behind : (f q ≡ true) × ((n : ℕ) × (slice_get ps n ≡ Some q)) → (f q ≡ true) × ((n : ℕ) × (slice_get (x ∷ ps) n ≡ Some q))
    behind r = (r.0, (suc r.1.0, r.1.1))

    go : ((i : ℕ) → slice_get (filter f ps) i ≡ Some q → (f q ≡ true) × ((n : ℕ) × (slice_get ps n ≡ Some q))) → (b : Bool) → f x ≡ b → (i : ℕ) → slice_get (cond b (x ∷ filter f ps) (filter f ps)) i ≡ Some q →
        (f q ≡ true) × ((n : ℕ) × (slice_get (x ∷ ps) n ≡ Some q))
    go more true e zero k = (ap f (sym (same_Some x q k)) ∙ e, (0, k))
    go more true e (suc i) k = behind (more i k)
    go more false e i k = behind (more i k)

abbrev AreFrom : ℕ → List Prepared → Type 0
AreFrom k ps = (i : ℕ) (p : Prepared) → slice_get ps i ≡ Some p → p.number ≡ k + i

abbrev numbers_of : List Prepared → List ℕ
numbers_of ps = map (λ (p : Prepared). p.number) ps

next_from : (k : ℕ) (x : Prepared) (xs : List Prepared) → AreFrom k (x ∷ xs) → AreFrom (suc k) xs
next_from k x xs h i p at = h (suc i) p at ∙ more k i
  where
    more : (k i : ℕ) → k + suc i ≡ suc k + i
    more k i = omega arith

not_below : (f : Prepared → Bool) (ps : List Prepared) (k n : ℕ) → AreFrom k ps → is_in n (numbers_of (filter f ps)) ≡ true → k ≤ n
not_below f [] k n from h = absurd cc
not_below f (x ∷ ps) k n from h = go (not_below f ps (suc k) n (next_from k x ps from)) (f x) h
  where
    go : (is_in n (numbers_of (filter f ps)) ≡ true → suc k ≤ n) → (b : Bool) → is_in n (numbers_of (cond b (x ∷ filter f ps) (filter f ps))) ≡ true → k ≤ n
    go more true e = by (or_cases (n == x.number) (is_in n (numbers_of (filter f ps))) e)
      where
        by : ((n == x.number) ≡ true) ⊎ (is_in n (numbers_of (filter f ps)) ≡ true) → k ≤ n
        by (inl i) = let same = eqb-true n x.number i in let own = from 0 x refl in omega arith
        by (inr i) = let le = more i in omega arith
    go more false e = let le = more e in omega arith

unless_true : (b : Bool) → (b ≡ true → ⊥) → b ≡ false
unless_true true h = absurd (h refl)
unless_true false h = refl

passes_at : (f : Prepared → Bool) (ps : List Prepared) (k i : ℕ) (p : Prepared) → AreFrom k ps → slice_get ps i ≡ Some p → is_in (k + i) (numbers_of (filter f ps)) ≡ f p
passes_at f [] k i p from at = absurd cc
passes_at f (x ∷ ps) k zero p from at = go (f x) ∙ ap f (same_Some x p at)
  where
    itself : (k + 0 == x.number) ≡ true
    itself = eq-eqb (k + 0) x.number (sym (from 0 x refl))

    none : is_in (k + 0) (numbers_of (filter f ps)) ≡ false
    none = unless_true (is_in (k + 0) (numbers_of (filter f ps))) (λ e. let le = not_below f ps (suc k) (k + 0) (next_from k x ps from) e in absurd (omega arith))

    go : (b : Bool) → is_in (k + 0) (numbers_of (cond b (x ∷ filter f ps) (filter f ps))) ≡ b
    go true = ap (λ b. b || is_in (k + 0) (numbers_of (filter f ps))) itself
    go false = none
passes_at f (x ∷ ps) k (suc i) p from at = go (f x) ∙ ap (λ n. is_in n (numbers_of (filter f ps))) (more k i) ∙ passes_at f ps (suc k) i p (next_from k x ps from) at
  where
    more : (k i : ℕ) → k + suc i ≡ suc k + i
    more k i = omega arith

    apart : (n : ℕ) → n ≡ k + 0 → (k + suc i == n) ≡ false
    apart n e = grind (arith, nat_tests)

    go : (b : Bool) → is_in (k + suc i) (numbers_of (cond b (x ∷ filter f ps) (filter f ps))) ≡ is_in (k + suc i) (numbers_of (filter f ps))
    go true = ap (λ b. b || is_in (k + suc i) (numbers_of (filter f ps))) (apart x.number (from 0 x refl))
    go false = refl

all_from : (us : List Placed) → AreFrom 0 (with_imports us)
all_from us i p at = (all_numbered us i p at).0 ∙ none_more i
  where
    none_more : (i : ℕ) → i ≡ 0 + i
    none_more i = omega arith

-- ---- by their names

pub in_circles : (us : List Placed) (n : ℕ) (p : Prepared) → slice_get (with_imports us) n ≡ Some p → is_in n (numbers_of (circles us)) ≡ on_circle (with_imports us) p
in_circles us n p at = ap (λ m. is_in m (numbers_of (circles us))) (none_more n) ∙ passes_at (on_circle (with_imports us)) (with_imports us) 0 n p (all_from us) at
  where
    none_more : (n : ℕ) → n ≡ 0 + n
    none_more n = omega arith

places_of : (spelled : LibraryName → List ℕ) (us : List Placed) (find : List ℕ → Option ℕ) → ((l : LibraryName) → find (spelled l) ≡ unit_named l 0 us) → (qs : List Prepared) →
    ((i : ℕ) (q : Prepared) → slice_get qs i ≡ Some q → (m : LibraryName) × ((imported_as q.number q.placed.source ≡ Some m) × (unit_named m 0 us ≡ Some q.number))) →
    places_by find (map spelled (names_of qs)) ≡ numbers_of qs
places_of spelled us find finds [] each = refl
places_of spelled us find finds (q ∷ qs) each =
    let r = each 0 q refl in
    ap (λ (o : Option LibraryName). places_by find (map spelled (name_before o (names_of qs)))) r.1.0
    ∙ (λ j. with_place ((finds r.0 ∙ r.1.1) j) (places_of spelled us find finds qs (λ i p at. each (suc i) p at) j))

pub circle_places : (spelled : LibraryName → List ℕ) → TellsNames spelled → (cs : List code.UnitSource) (us : List Placed) → AreUnits spelled cs us → (find : List ℕ → Option ℕ) → ((s : List ℕ) → find s ≡ place_named s 0 cs) →
    (names : List (List ℕ)) → names ≡ map spelled (names_of (circles us)) → (n : ℕ) (p : Prepared) → slice_get (with_imports us) n ≡ Some p → is_in n (places_by find names) ≡ on_circle (with_imports us) p
circle_places spelled tells cs us are find named names told n p at =
    ap (λ (l : List (List ℕ)). is_in n (places_by find l)) told
    ∙ ap (is_in n) (places_of spelled us find (λ l. named (spelled l) ∙ place_same spelled tells l 0 cs us are) (circles us) each) ∙ in_circles us n p at
  where
    each : (i : ℕ) (q : Prepared) → slice_get (circles us) i ≡ Some q → (m : LibraryName) × ((imported_as q.number q.placed.source ≡ Some m) × (unit_named m 0 us ≡ Some q.number))
    each i q here = let r = filter_at (on_circle (with_imports us)) (with_imports us) i q here in circle_name us r.1.0 q r.1.1 r.0

pub no_places : (us : List Placed) → circles us ≡ [] → (n : ℕ) (p : Prepared) → slice_get (with_imports us) n ≡ Some p → false ≡ on_circle (with_imports us) p
no_places us none n p at = ap (λ (qs : List Prepared). is_in n (numbers_of qs)) (sym none) ∙ in_circles us n p at
