-- The forms of a program's units come to their ends within the turns.
use Rattle.std.proofs.Common.{◌≡◌, ℕ, zero, suc, ◌^◌, ◌<◌, List, [], ◌∷◌, map, length, Bool, Option, Some, None, Result, Ok, Err, refl, arith}
use Rattle.std.specs.Prelude.{◌==◌}
use Rattle.scheme_model.specs.Identifiers.{Name, Written}
use Rattle.scheme_model.specs.Trees.{Tree, placed_by}
use Rattle.scheme_model.specs.Data.{Datum}
use Rattle.scheme_model.specs.DataTrees.{form_as}
use Rattle.scheme_model.specs.Cores.{Parts}
use Rattle.scheme_model.specs.Steps.{Broken}
use Rattle.scheme_model.specs.Requirements.{Known}
use Rattle.scheme_model.specs.UnitExpansion.{Formed}
use Rattle.scheme_model.specs.Substitution.{State, model}
use Rattle.scheme_model.specs.Entries.{Entry}
use Rattle.scheme_model.specs.Declarations.{UnitForm, is_part_kind, home_of}
use Rattle.scheme_model.specs.Includes.{Document, data_of, Naming, naming}
use Rattle.scheme_model.specs.Included.{Sources, all_texts}
use Rattle.scheme_model.specs.IncludedUnits.{EarlyFault, Placed, units_in, units_from, max_tokens, sources_within}
use Rattle.scheme_model.specs.Program.{known_in, units_of, is_include, forms_or_none, Prepared, prepare, WholeFault, fault_before, SetResult, UnitResult, Progress, result_at, unit_entries, form_trees, start_of, enough_turns, by_fault, refused_form, with_refused, unit_result, unit_over, with_entries, is_ready, first_ready, worked, work, progress_before, in_order, program_of, forms_at_work}
use Rattle.program_laws.specs.Turns.{Each, datum_size, AreBounded, IsDone}
use Rattle.program_laws.proofs.Faults.{Any, not_out}
use Rattle.program_laws.proofs.Steps.{Ended}
use Rattle.program_laws.proofs.Units.{Comes, NumberedWithin, unit_comes}
use Rattle.program_laws.proofs.Model.{model_keeps}
use Rattle.program_laws.proofs.Lists.{each_of, each_map, each_both, one_of_two, three_ways}
use Rattle.program_laws.proofs.Declared.{as_large, DatumWithin, FormWithin, FormsWithin, SourceWithin, units_within, DocumentWithin, all_within}

-- the most nodes of a datum
abbrev most : ℕ
most = 2 ^ 60

abbrev pub FormFine : Formed → Type 0
FormFine f = Ended Any f.result

abbrev pub UnitFine : UnitResult → Type 0
UnitFine r = Each FormFine r.forms

-- ---- the units of the documents

abbrev PlacedWithin : Placed → Type 0
PlacedWithin u = SourceWithin most u.source

abbrev PreparedWithin : Prepared → Type 0
PreparedWithin p = Each (FormWithin most) p.forms

placed_within : (o : Sources) → Each (DocumentWithin most) o.documents → (all : Naming) (k : ℕ) (ds : List Document) → Each (DocumentWithin most) ds → Each PlacedWithin (units_from (all_texts o) o.known all k ds)
placed_within o within all k [] h = tt
placed_within o within all k (d ∷ ds) h =
    let us = units_in (all_texts o) o.known all k (data_of d) in
    each_both PlacedWithin (map (λ u. record { document = k; source = u }) us) (units_from (all_texts o) o.known all (suc k) ds)
    (each_map (SourceWithin most) PlacedWithin (λ u. record { document = k; source = u }) us (units_within most (all_texts o) (all_within most o within) o.known all k (data_of d) h.0) (λ u x. x)) (placed_within o within all (suc k) ds h.1)

forms_within : (r : Result (List UnitForm) EarlyFault) → FormsWithin most r → Each (FormWithin most) (forms_or_none r)
forms_within (Ok fs) h = h
forms_within (Err e) h = tt

work_within : (p : Prepared) → PreparedWithin p → Each (FormWithin most) (forms_at_work p)
work_within p h = one_of_two (Each (FormWithin most)) (is_part_kind p.placed.source.kind) [] p.forms tt h

prepared_within : (all : List Placed) (k : ℕ) (us : List Placed) → Each PlacedWithin us → Each PreparedWithin (prepare all k us)
prepared_within all k [] h = tt
prepared_within all k (u ∷ us) h = (forms_within u.source.forms h.0, prepared_within all (suc k) us h.1)

trees_within : (unit form : ℕ) (fs : List UnitForm) → Each (FormWithin most) fs → Each (NumberedWithin most) (form_trees unit form fs)
trees_within unit form [] h = tt
trees_within unit form (f ∷ fs) h =
    let e = as_large (Written unit) (placed_by (home_of unit form f)) f.datum in
    let small = h.0 in
    one_of_two (Each (NumberedWithin most)) f.declared (form_trees unit (suc form) fs) ((form, form_as unit (home_of unit form f) f.datum) ∷ form_trees unit (suc form) fs) (trees_within unit (suc form) fs h.1) (omega (arith, e, small), trees_within unit (suc form) fs h.1)

-- ---- a unit

refused_fine : (unit form : ℕ) (fs : List UnitForm) (es : List Formed) → Each FormFine es → Each FormFine (with_refused unit form fs es)
refused_fine unit form [] es h = h
refused_fine unit form (f ∷ fs) [] h =
    three_ways (Each FormFine) (is_include f) f.declared (refused_form unit form ∷ with_refused unit (suc form) fs []) (with_refused unit (suc form) fs []) (with_refused unit (suc form) fs [])
    (tt, refused_fine unit (suc form) fs [] tt) (refused_fine unit (suc form) fs [] tt) (refused_fine unit (suc form) fs [] tt)
refused_fine unit form (f ∷ fs) (e ∷ es) h =
    three_ways (Each FormFine) (is_include f) f.declared (refused_form unit form ∷ with_refused unit (suc form) fs (e ∷ es)) (with_refused unit (suc form) fs (e ∷ es)) (e ∷ with_refused unit (suc form) fs es)
    (tt, refused_fine unit (suc form) fs (e ∷ es) h) (refused_fine unit (suc form) fs (e ∷ es) h) (h.0, refused_fine unit (suc form) fs es h.1)

-- 2 ^ 62 turns suffice for the forms of a body
abbrev body_turns : ℕ
body_turns = 2 ^ 62

unit_done : (known : Known) (ts : List (ℕ × Tree Name)) (s : State) → Each (NumberedWithin most) ts → Comes (Each FormFine) (unit_over known ts s)
unit_done known ts s h = unit_comes (model known) (model_keeps known) most body_turns enough_turns (omega arith) (omega arith) (omega arith) tt ts s h

result_fine : (p : Prepared) (imports : List Entry × List SetResult) (q : Option (List Formed) × State) → Comes (Each FormFine) q → UnitFine (unit_result p imports q.1.table q.0)
result_fine p imports (None, s) h = tt
result_fine p imports (Some fs, s) h = refused_fine p.number 0 (forms_at_work p) fs h

-- ---- one unit after another

module _ (all : List Placed) (units : List Prepared) (known : Known) (within : Each PreparedWithin units) where
  abbrev AllFine : Progress → Type 0
  AllFine g = Each UnitFine g.results

  fault_fine : (p : Prepared) (fault : Option WholeFault) (g : Progress) → PreparedWithin p → AllFine g → AllFine (by_fault all units known p fault g)
  fault_fine p (Some fault) g w h = (tt, h)
  fault_fine p None g w h =
      let imports : List Entry × List SetResult = unit_entries all g.results p in
      let s : State = start_of p g.table g.macros (with_entries p.number imports.0 g.entry) in
      (result_fine p imports (unit_over known (form_trees p.number 0 (forms_at_work p)) s) (unit_done known (form_trees p.number 0 (forms_at_work p)) s (trees_within p.number 0 (forms_at_work p) (work_within p w))), h)

  abbrev Ready : Option Prepared → Type 0
  Ready None = Unit {0}
  Ready (Some p) = PreparedWithin p

  ready_within : (ready : Prepared → Bool) (ps : List Prepared) → Each PreparedWithin ps → Ready (first_ready ready ps)
  ready_within ready [] h = tt
  ready_within ready (p ∷ ps) h = one_of_two Ready (ready p) (Some p) (first_ready ready ps) h.0 (ready_within ready ps h.1)

  worked_fine : (o : Option Prepared) (g : Progress) → Ready o → AllFine g → AllFine (worked all units known o g)
  worked_fine None g w h = h
  worked_fine (Some p) g w h = fault_fine p (fault_before all units p) g w h

  work_fine : (n : ℕ) (g : Progress) → AllFine g → AllFine (work all units known n g)
  work_fine zero g h = h
  work_fine (suc n) g h =
      let o : Option Prepared = first_ready (is_ready all units g.results) units in
      work_fine n (worked all units known o g) (worked_fine o g (ready_within (is_ready all units g.results) units within) h)

-- ---- the program

abbrev SomeFine : Option UnitResult → Type 0
SomeFine None = Unit {0}
SomeFine (Some r) = UnitFine r

found_fine : (rs : List UnitResult) (n : ℕ) → Each UnitFine rs → SomeFine (result_at rs n)
found_fine [] n h = tt
found_fine (r ∷ rs) n h = one_of_two SomeFine (r.unit.number == n) (Some r) (result_at rs n) h.0 (found_fine rs n h.1)

ordered_by : (rs : List UnitResult) (n more : ℕ) (o : Option UnitResult) → result_at rs n ≡ o → SomeFine o → Each UnitFine (in_order rs (suc n) more) → Each UnitFine (in_order rs n (suc more))
ordered_by rs n more None e h k = rw e k
ordered_by rs n more (Some r) e h k = rw e (h, k)

ordered_fine : (rs : List UnitResult) (n more : ℕ) → Each UnitFine rs → Each UnitFine (in_order rs n more)
ordered_fine rs n zero h = tt
ordered_fine rs n (suc more) h = ordered_by rs n more (result_at rs n) refl (found_fine rs n h) (ordered_fine rs (suc n) more h)

pub program_fine : (ds : List Document) → AreBounded ds → Each UnitFine (program_of ds).units
program_fine ds h =
    let us : List Placed = units_of ds in
    let ps : List Prepared = prepare us 0 us in
    let bounded : Each (DocumentWithin most) ds = each_of (λ (d : Document). Each (λ (x : Datum). datum_size x < 2 ^ 60) (data_of d)) (DocumentWithin most) ds h (λ d x. each_of (λ (y : Datum). datum_size y < 2 ^ 60) (DatumWithin most) (data_of d) x (λ y z. omega arith)) in
    let within : Each PreparedWithin ps = prepared_within us 0 us (placed_within (sources_within max_tokens (naming ds) (known_in ds) ds) bounded (naming ds) 0 ds bounded) in
    ordered_fine (work us ps (known_in ds) (length ps) progress_before).results 0 (length ps) (work_fine us ps (known_in ds) within (length ps) progress_before tt)

done_of : (r : Result Parts Broken) → Ended Any r → IsDone r
done_of (Ok ps) h = tt
done_of (Err b) h = not_out b.fault h

pub program_done : (ds : List Document) → AreBounded ds → Each (λ (u : UnitResult). Each (λ (f : Formed). IsDone f.result) u.forms) (program_of ds).units
program_done ds h = each_of UnitFine (λ (u : UnitResult). Each (λ (f : Formed). IsDone f.result) u.forms) (program_of ds).units (program_fine ds h) (λ u x. each_of FormFine (λ (f : Formed). IsDone f.result) u.forms x (λ f y. done_of f.result y))
