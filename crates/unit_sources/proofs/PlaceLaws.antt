-- The turns of any graph are its places, each of them once; and so are the places of names that stand twice.
use Rattle.std.proofs.Common.{◌≡◌, ℕ, zero, suc, ◌+◌, ◌<◌, Bool, true, false, cond, ◌⊎◌, inl, inr, List, [], ◌∷◌, ◌++◌, length, slice_get, Option, Some, None, Ok, refl, sym, ap, ◌∙◌, arith}
use Rattle.std.specs.Prelude.{◌==◌}
use Rattle.std.proofs.lemmas.Bool.{eqb-true, or_cases}
use Rattle.std.proofs.lemmas.Bool.Decides.{nat_tests}
use Rattle.std.proofs.lemmas.Option.{slice_get_within}
use Rattle.scheme_model.specs.Data.{Place}
use Rattle.scheme_model.specs.Declarations.{IsProgram}
use Rattle.scheme_model.specs.IncludedUnits.{Placed}
use Rattle.scheme_model.specs.Program.{Prepared, imports_at, is_in, first_ready}
use Rattle.import_sets.specs.InTurn.{is_open, and_then, in_turn}
use Rattle.import_sets.specs.Graphs.{row, IsGraph, AreNumbered}
use Rattle.import_sets.proofs.CircleLaws.{plus_one}
use Rattle.import_sets.proofs.TurnLaws.{ready_found, comes_after}
use Rattle.unit_sources.specs.declared.units.UnitSource as code
use Rattle.unit_sources.specs.Named.{is_later, later}
use Rattle.unit_sources.specs.Orders.{ArePlaces}

-- ---- units that import what a graph says

empty_place : Place
empty_place = record { first = 0; last = 0; start = 0; end = 0 }

empty_unit : Placed
empty_unit = record { document = 0; source = record { kind = IsProgram; name = None; start = empty_place; forms = Ok []; lost = [] } }

abbrev graph_units : ℕ → List (List ℕ) → List Prepared
graph_units k [] = []
graph_units k (r ∷ rs) = record { placed = empty_unit; number = k; forms = []; specs = []; exports = []; imports = r } ∷ graph_units (suc k) rs

as_many : (k : ℕ) (g : List (List ℕ)) → length (graph_units k g) ≡ length g
as_many k [] = refl
as_many k (r ∷ rs) = ap suc (as_many (suc k) rs)

here : (k : ℕ) → (k == k + 0) ≡ true
here k = grind (arith, nat_tests)

ahead : (k i : ℕ) → (k == k + suc i) ≡ false
ahead k i = grind (arith, nat_tests)

row_at : (k : ℕ) (g : List (List ℕ)) (i : ℕ) → imports_at (graph_units k g) (k + i) ≡ row g i
row_at k [] i = refl
row_at k (r ∷ rs) zero = ap (λ (b : Bool). cond b r (imports_at (graph_units (suc k) rs) (k + 0))) (here k)
row_at k (r ∷ rs) (suc i) =
    ap (λ (b : Bool). cond b r (imports_at (graph_units (suc k) rs) (k + suc i))) (ahead k i)
    ∙ ap (imports_at (graph_units (suc k) rs)) (sym (plus_one k i)) ∙ row_at (suc k) rs i

at_number : (k : ℕ) (g : List (List ℕ)) (i : ℕ) (p : Prepared) → slice_get (graph_units k g) i ≡ Some p → (p.number ≡ k + i) × (p.imports ≡ row g i)
at_number k [] i p h = absurd cc
at_number k (r ∷ rs) zero p h = (let e : p.number ≡ k = cc in omega arith, cc)
at_number k (r ∷ rs) (suc i) p h = let more = at_number (suc k) rs i p h in (more.0 ∙ plus_one k i, more.1)

none_more : (n : ℕ) → 0 + n ≡ n
none_more n = omega arith

are_numbered : (g : List (List ℕ)) → AreNumbered (graph_units 0 g)
are_numbered g n p h =
    let at = at_number 0 g n p h in (at.0 ∙ none_more n, at.1 ∙ sym (row_at 0 g n) ∙ ap (imports_at (graph_units 0 g)) (none_more n))

is_graph : (g : List (List ℕ)) → IsGraph g (graph_units 0 g)
is_graph g = record {
  size = sym (as_many 0 g);
  imports = λ n m. ap (is_in m) (sym (row_at 0 g n) ∙ ap (imports_at (graph_units 0 g)) (none_more n));
}

-- ---- turns are places

below : (ps : List Prepared) → AreNumbered ps → (t : ℕ) (done : List ℕ) (n : ℕ) → is_in n (in_turn ps t done) ≡ true → n < length ps
below ps numbered zero done n h = absurd cc
below ps numbered (suc t) done n h = go (λ next i. below ps numbered t next n i) (first_ready (is_open done) ps) refl h
  where
    go : ((next : List ℕ) → is_in n (in_turn ps t next) ≡ true → n < length ps) → (o : Option Prepared) → first_ready (is_open done) ps ≡ o →
        is_in n (and_then o (λ p. p.number ∷ in_turn ps t (done ++ p.number ∷ []))) ≡ true → n < length ps
    go more None e i = absurd cc
    go more (Some p) e i = by (or_cases (n == p.number) (is_in n (in_turn ps t (done ++ p.number ∷ []))) i)
      where
        by : ((n == p.number) ≡ true) ⊎ (is_in n (in_turn ps t (done ++ p.number ∷ [])) ≡ true) → n < length ps
        by (inl j) =
            let same = eqb-true n p.number j in
            let found = ready_found (is_open done) ps p e in
            let own = (numbered found.1.0 p found.1.1).0 in
            let inside = slice_get_within ps found.1.0 p found.1.1 in
            omega arith
        by (inr j) = more (done ++ p.number ∷ []) j

pub turns_are_places : (g : List (List ℕ)) (count : ℕ) (places : List ℕ) → length g ≡ count →
    ((ps : List Prepared) → IsGraph g ps → AreNumbered ps → places ≡ in_turn ps (length ps) []) → ArePlaces count places
turns_are_places g count places size turns = record {
  within = λ n i. let lt = below ps (are_numbered g) (length ps) [] n (sym (ap (is_in n) here) ∙ i) in let e = as_many 0 g in omega arith;
  once = λ n before rest e. (comes_after ps (are_numbered g) (length ps) [] before rest n (sym here ∙ e)).once;
}
  where
    ps : List Prepared
    ps = graph_units 0 g

    here : places ≡ in_turn (graph_units 0 g) (length (graph_units 0 g)) []
    here = turns (graph_units 0 g) (is_graph g) (are_numbered g)

-- ---- later places

pub later_below : (find : List ℕ → Option ℕ) (k : ℕ) (us : List code.UnitSource) (n : ℕ) → is_in n (later find k us) ≡ true → n < k + length us
later_below find k [] n h = absurd cc
later_below find k (u ∷ us) n h = go (later_below find (suc k) us n) (is_later find k u.name) h
  where
    go : (is_in n (later find (suc k) us) ≡ true → n < suc k + length us) → (b : Bool) → is_in n (cond b (k ∷ later find (suc k) us) (later find (suc k) us)) ≡ true → n < k + suc (length us)
    go more true i = by (or_cases (n == k) (is_in n (later find (suc k) us)) i)
      where
        by : ((n == k) ≡ true) ⊎ (is_in n (later find (suc k) us) ≡ true) → n < k + suc (length us)
        by (inl j) = let same = eqb-true n k j in omega arith
        by (inr j) = let lt = more j in omega arith
    go more false i = let lt = more i in omega arith
