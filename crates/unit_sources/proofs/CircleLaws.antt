-- The units on circles, and their names.
use Rattle.std.proofs.Common.{◌≡◌, ℕ, zero, suc, ◌+◌, ◌<◌, Bool, true, false, cond, List, [], ◌∷◌, ◌++◌, append-nil, length, take, get_or, map, slice_get, Option, Some, None, refl, sym, ap, ◌∙◌, arith}
use Rattle.std.specs.Prelude.{filter}
use Rattle.std.specs.Option.{option_map}
use Rattle.std.proofs.lemmas.List.{take_more}
use Rattle.std.proofs.lemmas.List.Concat.{flat_map-append}
use Rattle.scheme_model.specs.Requirements.{LibraryName}
use Rattle.scheme_model.specs.IncludedUnits.{Placed}
use Rattle.scheme_model.specs.Program.{Prepared, prepared, prepare, is_in, reached, on_circle, imported_as}
use Rattle.unit_sources.specs.declared.units.UnitSource as code
use Rattle.unit_sources.specs.Sources.{AreUnitsFrom, AreUnits}
use Rattle.unit_sources.specs.Orders.{with_imports, circles, name_before, names_of}
use Rattle.import_sets.specs.Graphs.{AreNumbered, is_circular, passing}
use Rattle.unit_sources.specs.Graphs.{name_at, as_list, names_at}
use Rattle.unit_sources.proofs.GraphLaws.{are_numbered, prepare_length}
use Rattle.import_sets.proofs.CircleLaws.{plus_one, passing_from, passing_same}

-- from a place on the units are these
abbrev StandFrom : List Prepared → ℕ → List Prepared → Type 0
StandFrom ps k qs = (i : ℕ) → slice_get ps (k + i) ≡ slice_get qs i

next_stand : (ps : List Prepared) (k : ℕ) (q : Prepared) (qs : List Prepared) → StandFrom ps k (q ∷ qs) → StandFrom ps (suc k) qs
next_stand ps k q qs h i = ap (slice_get ps) (plus_one k i) ∙ h (suc i)

first_stands : (ps : List Prepared) (k : ℕ) (q : Prepared) (qs : List Prepared) → StandFrom ps k (q ∷ qs) → slice_get ps k ≡ Some q
first_stands ps k q qs h = ap (slice_get ps) (none_more k) ∙ h 0
  where
    none_more : (k : ℕ) → k ≡ k + 0
    none_more k = omega arith

circular_same : (ps : List Prepared) → AreNumbered ps → (k : ℕ) (q : Prepared) → slice_get ps k ≡ Some q → on_circle ps q ≡ is_circular ps k
circular_same ps numbered k q at = let own = numbered k q at in (λ j. is_in (own.0 j) (reached ps (length ps) (own.1 j)))

-- none of the units from a place on is on a circle
none_from : (ps : List Prepared) → AreNumbered ps → (qs : List Prepared) (k : ℕ) → StandFrom ps k qs → passing_from (is_circular ps) k (length qs) ≡ [] → filter (on_circle ps) qs ≡ []
none_from ps numbered [] k h e = refl
none_from ps numbered (q ∷ qs) k h e = go (none_from ps numbered qs (suc k) (next_stand ps k q qs h)) (is_circular ps k) refl e
  where
    go : (passing_from (is_circular ps) (suc k) (length qs) ≡ [] → filter (on_circle ps) qs ≡ []) → (b : Bool) → is_circular ps k ≡ b → cond b (k ∷ passing_from (is_circular ps) (suc k) (length qs)) (passing_from (is_circular ps) (suc k) (length qs)) ≡ [] → filter (on_circle ps) (q ∷ qs) ≡ []
    go more true p i = absurd cc
    go more false p i = rw (circular_same ps numbered k q (first_stands ps k q qs h) ∙ p) (more i)

some_from : (ps : List Prepared) → AreNumbered ps → (qs : List Prepared) (k : ℕ) → StandFrom ps k qs → filter (on_circle ps) qs ≡ [] → passing_from (is_circular ps) k (length qs) ≡ []
some_from ps numbered [] k h e = refl
some_from ps numbered (q ∷ qs) k h e = go (some_from ps numbered qs (suc k) (next_stand ps k q qs h)) (on_circle ps q) refl e
  where
    go : (filter (on_circle ps) qs ≡ [] → passing_from (is_circular ps) (suc k) (length qs) ≡ []) → (b : Bool) → on_circle ps q ≡ b → cond b (q ∷ filter (on_circle ps) qs) (filter (on_circle ps) qs) ≡ [] → passing_from (is_circular ps) k (suc (length qs)) ≡ []
    go more true p i = absurd cc
    go more false p i = rw (sym (circular_same ps numbered k q (first_stands ps k q qs h)) ∙ p) (more i)

pub none_on_circles : (us : List Placed) → passing (is_circular (with_imports us)) (length us) ≡ [] → circles us ≡ []
none_on_circles us e =
    none_from (with_imports us) (are_numbered us) (with_imports us) 0 (λ i. ap (slice_get (with_imports us)) (none_more i))
    (ap (passing_from (is_circular (with_imports us)) 0) (prepare_length us us 0) ∙ sym (passing_same (is_circular (with_imports us)) (length us)) ∙ e)
  where
    none_more : (i : ℕ) → 0 + i ≡ i
    none_more i = omega arith

pub some_on_circles : (us : List Placed) → circles us ≡ [] → passing (is_circular (with_imports us)) (length us) ≡ []
some_on_circles us e =
    passing_same (is_circular (with_imports us)) (length us) ∙ ap (passing_from (is_circular (with_imports us)) 0) (sym (prepare_length us us 0))
    ∙ some_from (with_imports us) (are_numbered us) (with_imports us) 0 (λ i. ap (slice_get (with_imports us)) (none_more i)) e
  where
    none_more : (i : ℕ) → 0 + i ≡ i
    none_more i = omega arith

-- ---- their names

named_list : (spelled : LibraryName → List ℕ) (o : Option LibraryName) (ns : List LibraryName) → as_list (option_map spelled o) ++ map spelled ns ≡ map spelled (name_before o ns)
named_list spelled None ns = refl
named_list spelled (Some n) ns = refl

names_from : (spelled : LibraryName → List ℕ) (ps : List Prepared) → AreNumbered ps → (all : List Placed) (cs : List code.UnitSource) → (ds : List code.UnitSource) (vs : List Placed) (k : ℕ) → AreUnitsFrom spelled k ds vs →
    ((i : ℕ) → name_at cs (k + i) ≡ name_at ds i) → StandFrom ps k (prepare all k vs) →
    names_at cs (passing_from (is_circular ps) k (length vs)) ≡ map spelled (names_of (filter (on_circle ps) (prepare all k vs)))
names_from spelled ps numbered all cs [] [] k h named stand = refl
names_from spelled ps numbered all cs [] (v ∷ vs) k h named stand = absurd h
names_from spelled ps numbered all cs (d ∷ ds) [] k h named stand = absurd h
names_from spelled ps numbered all cs (d ∷ ds) (v ∷ vs) k h named stand =
    go (is_circular ps k) refl (circular_same ps numbered k (prepared all k v) (first_stands ps k (prepared all k v) (prepare all (suc k) vs) stand))
    (names_from spelled ps numbered all cs ds vs (suc k) h.1 (λ i. ap (name_at cs) (plus_one k i) ∙ named (suc i)) (next_stand ps k (prepared all k v) (prepare all (suc k) vs) stand))
  where
    none_more : (k : ℕ) → k ≡ k + 0
    none_more k = omega arith

    own : name_at cs k ≡ option_map spelled (imported_as k v.source)
    own = ap (name_at cs) (none_more k) ∙ named 0 ∙ h.0.name

    go : (b : Bool) → is_circular ps k ≡ b → on_circle ps (prepared all k v) ≡ is_circular ps k →
        names_at cs (passing_from (is_circular ps) (suc k) (length vs)) ≡ map spelled (names_of (filter (on_circle ps) (prepare all (suc k) vs))) →
        names_at cs (passing_from (is_circular ps) k (suc (length vs))) ≡ map spelled (names_of (filter (on_circle ps) (prepare all k (v ∷ vs))))
    go true p same rest =
        rw (p, same ∙ p)
        ((λ j. as_list (own j) ++ rest j) ∙ named_list spelled (imported_as k v.source) (names_of (filter (on_circle ps) (prepare all (suc k) vs))))
    go false p same rest = rw (p, same ∙ p) rest

pub names_on_circles : (spelled : LibraryName → List ℕ) (cs : List code.UnitSource) (us : List Placed) → AreUnits spelled cs us →
    names_at cs (passing (is_circular (with_imports us)) (length us)) ≡ map spelled (names_of (circles us))
names_on_circles spelled cs us h =
    ap (names_at cs) (passing_same (is_circular (with_imports us)) (length us))
    ∙ names_from spelled (with_imports us) (are_numbered us) us cs cs us 0 h (λ i. ap (name_at cs) (none_more i)) (λ i. ap (slice_get (with_imports us)) (none_more i))
  where
    none_more : (i : ℕ) → 0 + i ≡ i
    none_more i = omega arith

-- ---- the code's way

pub name_is : (us : List code.UnitSource) (n : ℕ) (u : code.UnitSource) → n < length us → u ≡ get_or us n u → u.name ≡ name_at us n
name_is [] n u lt is = absurd (omega arith)
name_is (x ∷ us) zero u lt is = ap (λ (v : code.UnitSource). v.name) is
name_is (x ∷ us) (suc n) u lt is = name_is us n u (omega arith) is

pub names_next : (us : List code.UnitSource) (ps : List ℕ) (i : ℕ) (o : Option (List ℕ)) (old new : List (List ℕ)) → i < length ps → o ≡ name_at us (get_or ps i 0) → old ≡ names_at us (take i ps) → new ≡ old ++ as_list o → new ≡ names_at us (take (i + 1) ps)
names_next us ps i o old new lt name h e =
    e ∙ (λ j. h j ++ as_list (name j)) ∙ ap (λ (l : List (List ℕ)). names_at us (take i ps) ++ l) (sym (append-nil (as_list (name_at us (get_or ps i 0)))))
    ∙ sym (flat_map-append (λ n. as_list (name_at us n)) (take i ps) (get_or ps i 0 ∷ [])) ∙ ap (names_at us) (sym (take_more ps i 0 lt))
