-- The rows of the code's graph are what the units import; the units stand at their numbers.
use Rattle.std.proofs.Common.{◌≡◌, ℕ, zero, suc, ◌+◌, ◌<◌, Bool, true, false, cond, ◌⊎◌, inl, inr, List, [], ◌∷◌, ◌++◌, length, take, get_or, slice_get, Option, Some, None, refl, sym, ap, ◌∙◌, subst, arith}
use Rattle.std.specs.Prelude.{◌||◌, ◌==◌}
use Rattle.std.proofs.lemmas.Bool.{eqb-true, or_cases}
use Rattle.std.proofs.lemmas.Bool.Decides.{nat_tests}
use Rattle.std.proofs.lemmas.Option.{same_Some}
use Rattle.std.proofs.lemmas.List.{length-map, take_more, map_push}
use Rattle.scheme_model.specs.Requirements.{LibraryName}
use Rattle.scheme_model.specs.Entries as model
use Rattle.scheme_model.specs.IncludedUnits.{Placed}
use Rattle.scheme_model.specs.Program.{ImportSpec, Prepared, prepared, prepare, imports_at, imported_units, unit_named, is_in, specs_from, forms_or_none}
use Rattle.import_sets.specs.declared.set.ImportSet as code_set
use Rattle.import_sets.specs.Sets.{IsSetOf}
use Rattle.unit_sources.specs.declared.units.ImportSpec as code_import
use Rattle.unit_sources.specs.declared.units.UnitSource as code
use Rattle.unit_sources.specs.Named.{is_name, place_named, with_place, imported_places}
use Rattle.import_sets.specs.Firsts.{place_in}
use Rattle.import_sets.specs.Graphs.{is_place}
use Rattle.unit_sources.specs.Sources.{TellsNames, AreImports, AreUnitsFrom, AreUnits}
use Rattle.unit_sources.specs.Orders.{with_imports}
use Rattle.import_sets.specs.Graphs.{row, AreWithin, IsGraph, AreNumbered}
use Rattle.unit_sources.specs.Graphs.{SameMembers, SameRows, rows_of, graph_of}
use Rattle.unit_sources.proofs.NamedLaws.{place_same}
use Rattle.import_sets.proofs.CircleLaws.{plus_one}
use Rattle.import_sets.proofs.ReachLaws.{or_none, or_joined}

-- ---- units at their numbers

-- a number isn't one behind it
ahead : (k i : ℕ) → (k == k + suc i) ≡ false
ahead k i = grind (arith, nat_tests)

here : (k : ℕ) → (k == k + 0) ≡ true
here k = grind (arith, nat_tests)

pub number_at : (all : List Placed) (us : List Placed) (k i : ℕ) (p : Prepared) → slice_get (prepare all k us) i ≡ Some p → p.number ≡ k + i
number_at all [] k i p h = absurd cc
number_at all (u ∷ us) k zero p h = let same : prepared all k u ≡ p = same_Some (prepared all k u) p h in let e : p.number ≡ k = ap (λ (q : Prepared). q.number) (sym same) in omega arith
number_at all (u ∷ us) k (suc i) p h = number_at all us (suc k) i p h ∙ plus_one k i

imports_are : (all : List Placed) (us : List Placed) (k i : ℕ) (p : Prepared) → slice_get (prepare all k us) i ≡ Some p → p.imports ≡ imports_at (prepare all k us) (k + i)
imports_are all [] k i p h = absurd cc
imports_are all (u ∷ us) k zero p h =
    ap (λ (q : Prepared). q.imports) (sym (same_Some (prepared all k u) p h)) ∙ sym (ap (λ (b : Bool). cond b (prepared all k u).imports (imports_at (prepare all (suc k) us) (k + 0))) (here k))
imports_are all (u ∷ us) k (suc i) p h =
    imports_are all us (suc k) i p h ∙ ap (imports_at (prepare all (suc k) us)) (plus_one k i)
    ∙ sym (ap (λ (b : Bool). cond b (prepared all k u).imports (imports_at (prepare all (suc k) us) (k + suc i))) (ahead k i))

pub are_numbered : (all : List Placed) → AreNumbered (with_imports all)
are_numbered all n p h = (number_at all all 0 n p h ∙ none_more n, imports_are all all 0 n p h ∙ ap (imports_at (with_imports all)) (none_more n))
  where
    none_more : (n : ℕ) → 0 + n ≡ n
    none_more n = omega arith

pub prepare_length : (all : List Placed) (us : List Placed) (k : ℕ) → length (prepare all k us) ≡ length us
prepare_length all [] k = refl
prepare_length all (u ∷ us) k = ap suc (prepare_length all us (suc k))

-- ---- what an import names

abbrev place_for : List Placed → Option LibraryName → Option ℕ
place_for us None = None
place_for us (Some n) = unit_named n 0 us

set_place : (spelled : LibraryName → List ℕ) (find : List ℕ → Option ℕ) (us : List Placed) → ((n : LibraryName) → find (spelled n) ≡ unit_named n 0 us) → (c : code_set.ImportSet) (s : model.ImportSet) →
    IsSetOf (λ t n. t ≡ spelled n) c s → place_in find c ≡ place_for us (model.library_in s)
set_place spelled find us finds (code_set.Library t) s h = ap find h.1.1 ∙ finds h.0 ∙ ap (λ (x : model.ImportSet). place_for us (model.library_in x)) (sym h.1.0)
set_place spelled find us finds (code_set.Only' p c ns) s h = set_place spelled find us finds c h.0 h.1.1 ∙ ap (λ (x : model.ImportSet). place_for us (model.library_in x)) (sym h.1.0)
set_place spelled find us finds (code_set.Except' p c ns) s h = set_place spelled find us finds c h.0 h.1.1 ∙ ap (λ (x : model.ImportSet). place_for us (model.library_in x)) (sym h.1.0)
set_place spelled find us finds (code_set.Prefix' p c t) s h = set_place spelled find us finds c h.0 h.1.1 ∙ ap (λ (x : model.ImportSet). place_for us (model.library_in x)) (sym h.1.0)
set_place spelled find us finds (code_set.Rename' p c ps) s h = set_place spelled find us finds c h.0 h.1.1 ∙ ap (λ (x : model.ImportSet). place_for us (model.library_in x)) (sym h.1.0)
set_place spelled find us finds code_set.Bad s h = ap (λ (x : model.ImportSet). place_for us (model.library_in x)) (sym h)

unit_before : (us : List Placed) (s : ImportSpec) (ss : List ImportSpec) (o : Option LibraryName) → model.library_in s.set ≡ o → imported_units us (s ∷ ss) ≡ with_place (place_for us o) (imported_units us ss)
unit_before us s ss None e = rw e refl
unit_before us s ss (Some n) e = go (unit_named n 0 us) refl
  where
    go : (o : Option ℕ) → unit_named n 0 us ≡ o → imported_units us (s ∷ ss) ≡ with_place (place_for us (Some n)) (imported_units us ss)
    go None q = rw (e, q) refl
    go (Some m) q = rw (e, q) refl

pub imports_same : (spelled : LibraryName → List ℕ) (find : List ℕ → Option ℕ) (us : List Placed) → ((n : LibraryName) → find (spelled n) ≡ unit_named n 0 us) → (cs : List code_import.ImportSpec) (ss : List ImportSpec) →
    AreImports spelled cs ss → imported_places find cs ≡ imported_units us ss
imports_same spelled find us finds [] [] h = refl
imports_same spelled find us finds [] (s ∷ ss) h = absurd h
imports_same spelled find us finds (c ∷ cs) [] h = absurd h
imports_same spelled find us finds (c ∷ cs) (s ∷ ss) h =
    (λ j. with_place (set_place spelled find us finds c.set s.set h.0 j) (imports_same spelled find us finds cs ss h.1 j)) ∙ sym (unit_before us s ss (model.library_in s.set) refl)

-- ---- rows

rows_same : (spelled : LibraryName → List ℕ) (find : List ℕ → Option ℕ) (us : List Placed) → ((n : LibraryName) → find (spelled n) ≡ unit_named n 0 us) → (k : ℕ) (cs : List code.UnitSource) (vs : List Placed) →
    AreUnitsFrom spelled k cs vs → (i : ℕ) → row (rows_of find cs) i ≡ imports_at (prepare us k vs) (k + i)
rows_same spelled find us finds k [] [] h i = refl
rows_same spelled find us finds k [] (v ∷ vs) h i = absurd h
rows_same spelled find us finds k (c ∷ cs) [] h i = absurd h
rows_same spelled find us finds k (c ∷ cs) (v ∷ vs) h zero =
    imports_same spelled find us finds c.imports (specs_from k 0 (forms_or_none v.source.forms)) h.0.imports
    ∙ sym (ap (λ (b : Bool). cond b (prepared us k v).imports (imports_at (prepare us (suc k) vs) (k + 0))) (here k))
rows_same spelled find us finds k (c ∷ cs) (v ∷ vs) h (suc i) =
    rows_same spelled find us finds (suc k) cs vs h.1 i ∙ ap (imports_at (prepare us (suc k) vs)) (plus_one k i)
    ∙ sym (ap (λ (b : Bool). cond b (prepared us k v).imports (imports_at (prepare us (suc k) vs) (k + suc i))) (ahead k i))

units_length : (spelled : LibraryName → List ℕ) (k : ℕ) (cs : List code.UnitSource) (us : List Placed) → AreUnitsFrom spelled k cs us → length cs ≡ length us
units_length spelled k [] [] h = refl
units_length spelled k [] (u ∷ us) h = absurd h
units_length spelled k (c ∷ cs) [] h = absurd h
units_length spelled k (c ∷ cs) (u ∷ us) h = ap suc (units_length spelled (suc k) cs us h.1)

pub are_as_many : (spelled : LibraryName → List ℕ) (cs : List code.UnitSource) (us : List Placed) → AreUnits spelled cs us → length cs ≡ length us
are_as_many spelled cs us h = units_length spelled 0 cs us h

same_row : (g h : List (List ℕ)) → SameRows g h → (n m : ℕ) → is_in m (row g n) ≡ is_in m (row h n)
same_row [] [] e n m = refl
same_row [] (h ∷ hs) e n m = absurd e
same_row (g ∷ gs) [] e n m = absurd e
same_row (g ∷ gs) (h ∷ hs) e zero m = e.0 m
same_row (g ∷ gs) (h ∷ hs) e (suc n) m = same_row gs hs e.1 n m

same_length : (g h : List (List ℕ)) → SameRows g h → length g ≡ length h
same_length [] [] e = refl
same_length [] (h ∷ hs) e = absurd e
same_length (g ∷ gs) [] e = absurd e
same_length (g ∷ gs) (h ∷ hs) e = ap suc (same_length gs hs e.1)

pub graph_size : (cs : List code.UnitSource) (g : List (List ℕ)) → SameRows g (graph_of cs) → length g ≡ length cs
graph_size cs g same = same_length g (graph_of cs) same ∙ length-map cs (λ (u : code.UnitSource). imported_places (λ s. place_named s 0 cs) u.imports)

pub rows_push : (g h : List (List ℕ)) (x y : List ℕ) → SameRows g h → SameMembers x y → SameRows (g ++ x ∷ []) (h ++ y ∷ [])
rows_push [] [] x y e same = (same, tt)
rows_push [] (h ∷ hs) x y e same = absurd e
rows_push (g ∷ gs) [] x y e same = absurd e
rows_push (g ∷ gs) (h ∷ hs) x y e same = (e.0, rows_push gs hs x y e.1 same)

-- the rows that the code makes are what the units import
pub is_graph : (spelled : LibraryName → List ℕ) → TellsNames spelled → (cs : List code.UnitSource) (us : List Placed) → AreUnits spelled cs us → (g : List (List ℕ)) → SameRows g (graph_of cs) → IsGraph g (with_imports us)
is_graph spelled tells cs us are g same = record {
  size = graph_size cs g same ∙ units_length spelled 0 cs us are ∙ sym (prepare_length us us 0);
  imports = λ n m.
      same_row g (graph_of cs) same n m
      ∙ ap (is_in m) (rows_same spelled (λ s. place_named s 0 cs) us (λ n. place_same spelled tells n 0 cs us are) 0 cs us are n ∙ ap (imports_at (with_imports us)) (none_more n));
}
  where
    none_more : (n : ℕ) → 0 + n ≡ n
    none_more n = omega arith

-- ---- one import more

place_first : (n : ℕ) (o : Option ℕ) (rest : List ℕ) → is_in n (with_place o rest) ≡ (is_place n o || is_in n rest)
place_first n None rest = refl
place_first n (Some p) rest = refl

pub imports_push : (find : List ℕ → Option ℕ) (cs : List code_import.ImportSpec) (c : code_import.ImportSpec) (n : ℕ) → is_in n (imported_places find (cs ++ c ∷ [])) ≡ (is_in n (imported_places find cs) || is_place n (place_in find c.set))
imports_push find [] c n = place_first n (place_in find c.set) [] ∙ or_none (is_place n (place_in find c.set))
imports_push find (d ∷ cs) c n =
    place_first n (place_in find d.set) (imported_places find (cs ++ c ∷ [])) ∙ ap (λ b. is_place n (place_in find d.set) || b) (imports_push find cs c n)
    ∙ or_joined (is_place n (place_in find d.set)) (is_in n (imported_places find cs)) (is_place n (place_in find c.set))
    ∙ ap (λ b. b || is_place n (place_in find c.set)) (sym (place_first n (place_in find d.set) (imported_places find cs)))

pub imports_step : (find : List ℕ → Option ℕ) (cs : List code_import.ImportSpec) (i : ℕ) (c : code_import.ImportSpec) (n : ℕ) (old new : Bool) → i < length cs → c ≡ get_or cs i c →
    old ≡ is_in n (imported_places find (take i cs)) → new ≡ (old || is_place n (place_in find c.set)) → new ≡ is_in n (imported_places find (take (i + 1) cs))
imports_step find cs i c n old new lt is o e =
    e ∙ ap (λ b. b || is_place n (place_in find c.set)) o ∙ sym (imports_push find (take i cs) c n)
    ∙ ap (λ (d : code_import.ImportSpec). is_in n (imported_places find (take i cs ++ d ∷ []))) is ∙ ap (λ (l : List code_import.ImportSpec). is_in n (imported_places find l)) (sym (take_more cs i c lt))

pub rows_step : (find : List ℕ → Option ℕ) (us : List code.UnitSource) (i : ℕ) (u : code.UnitSource) (g : List (List ℕ)) (x : List ℕ) → i < length us → u ≡ get_or us i u →
    SameRows g (rows_of find (take i us)) → SameMembers x (imported_places find u.imports) → SameRows (g ++ x ∷ []) (rows_of find (take (i + 1) us))
rows_step find us i u g x lt is same members =
    subst (λ (l : List code.UnitSource). SameRows (g ++ x ∷ []) (rows_of find l)) (sym (take_more us i u lt))
    (subst (λ (v : code.UnitSource). SameRows (g ++ x ∷ []) (rows_of find (take i us ++ v ∷ []))) is
    (subst (SameRows (g ++ x ∷ [])) (sym (map_push (λ (u : code.UnitSource). imported_places find u.imports) (take i us) u))
    (rows_push g (rows_of find (take i us)) x (imported_places find u.imports) same members)))

-- ---- all that a unit imports is a unit

named_below : (s : List ℕ) (k : ℕ) (us : List code.UnitSource) (m : ℕ) → place_named s k us ≡ Some m → m < k + length us
named_below s k [] m h = absurd cc
named_below s k (u ∷ us) m h = go (named_below s (suc k) us m) (is_name s u.name) h
  where
    go : (place_named s (suc k) us ≡ Some m → m < suc k + length us) → (b : Bool) → cond b (Some k) (place_named s (suc k) us) ≡ Some m → m < k + suc (length us)
    go more true e = let same : k ≡ m = same_Some k m e in omega arith
    go more false e = let lt = more e in omega arith

set_below : (us : List code.UnitSource) (c : code_set.ImportSet) (m : ℕ) → place_in (λ s. place_named s 0 us) c ≡ Some m → m < length us
set_below us (code_set.Library t) m h = let lt = named_below t 0 us m h in omega arith
set_below us (code_set.Only' p c ns) m h = set_below us c m h
set_below us (code_set.Except' p c ns) m h = set_below us c m h
set_below us (code_set.Prefix' p c t) m h = set_below us c m h
set_below us (code_set.Rename' p c ps) m h = set_below us c m h
set_below us code_set.Bad m h = absurd cc

imported_below : (us : List code.UnitSource) (cs : List code_import.ImportSpec) (m : ℕ) → is_in m (imported_places (λ s. place_named s 0 us) cs) ≡ true → m < length us
imported_below us [] m h = absurd cc
imported_below us (c ∷ cs) m h = go (imported_below us cs m) (place_in (λ s. place_named s 0 us) c.set) refl h
  where
    go : (is_in m (imported_places (λ s. place_named s 0 us) cs) ≡ true → m < length us) → (o : Option ℕ) → place_in (λ s. place_named s 0 us) c.set ≡ o → is_in m (with_place o (imported_places (λ s. place_named s 0 us) cs)) ≡ true → m < length us
    go more None q e = more e
    go more (Some n) q e = by (or_cases (m == n) (is_in m (imported_places (λ s. place_named s 0 us) cs)) e)
      where
        by : ((m == n) ≡ true) ⊎ (is_in m (imported_places (λ s. place_named s 0 us) cs) ≡ true) → m < length us
        by (inl i) = set_below us c.set m (q ∙ ap Some (sym (eqb-true m n i)))
        by (inr i) = more i

row_below : (us vs : List code.UnitSource) (n m : ℕ) → is_in m (row (rows_of (λ s. place_named s 0 us) vs) n) ≡ true → m < length us
row_below us [] n m h = absurd cc
row_below us (v ∷ vs) zero m h = imported_below us v.imports m h
row_below us (v ∷ vs) (suc n) m h = row_below us vs n m h

pub rows_within : (us : List code.UnitSource) (g : List (List ℕ)) → SameRows g (graph_of us) → AreWithin g
rows_within us g same n m h =
    let lt = row_below us us n m (sym (same_row g (graph_of us) same n m) ∙ h) in
    let size : length g ≡ length us = graph_size us g same in
    omega arith
