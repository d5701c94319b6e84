-- The units of a program, with definitions that ask the notes that speak of their identifiers: each comes to what it comes to by counts.
-- What units import and export is standard, or is defined by a unit that is done, so a unit at work imports nothing of its own.
use Rattle.std.proofs.Common.{◌≡◌, ℕ, zero, suc, List, [], ◌∷◌, Bool, true, false, cond, Option, Some, None, refl, sym, ap, ◌∙◌, subst, arith}
use Rattle.std.specs.Prelude.{◌==◌, ◌&&◌}
use Rattle.std.proofs.lemmas.Bool.{false_from_ne_true, eq-eqb}
use Rattle.std.proofs.lemmas.Bool.Decides.{nat_tests}
use Rattle.scheme_model.specs.Meaning.{Meaning, Local, Global, Standard, Free}
use Rattle.scheme_model.specs.Requirements.{Known}
use Rattle.scheme_model.specs.Order.{is_some}
use Rattle.scheme_model.specs.UnitExpansion.{Formed}
use Rattle.scheme_model.specs.ScopedExpansion.{ScopedMacro, ScopedState}
use Rattle.scheme_model.specs.CountedExpansion.{counted}
use Rattle.scheme_model.specs.Entries.{Entry}
use Rattle.scheme_model.specs.IncludedUnits.{Placed}
use Rattle.scheme_model.specs.Program.{Prepared, WholeFault, fault_before, UnitResult, result_at, unit_entries, enough_turns, broken_result, unit_result, is_ready, first_ready, is_standard, prelude_unit}
use Rattle.scheme_model.specs.ScopedProgram.{ScopedProgress, scoped_unit_over, scoped_start_after, scoped_by_fault, scoped_worked, scoped_work, scoped_before}
use Rattle.unit_scopes.specs.Searched.{searched, forms_of, searched_unit_over, numbers_of, all_passed, front_passed, front_finished}
use Rattle.model_laws.proofs.FrameEras.{Era}
use Rattle.model_laws.proofs.FrameAsks.{AllOf, all_of_more, BindersCounted}
use Rattle.model_laws.proofs.FrameStates.{MacroFine}
use Rattle.model_laws.proofs.FrameBetween.{none_yet}
use Rattle.model_laws.proofs.FrameUnit.{UnitState}
use Rattle.model_laws.proofs.FrameUnits.{FormHeld}
use Rattle.model_laws.proofs.EntryLaws.{NoLocal, GivenSo, Fits, Exports, unit_entries_fit, with_entries_fit, exports_all_fit}
use Rattle.model_laws.proofs.CountedStates.{LocalsKept}
use Rattle.model_laws.proofs.FramePrograms.{done, coming, Between, locals_none, start_unit, forms_held, not_done, work_gone, between_before}
use Rattle.expansion_laws.proofs.BoundedNotes.{Foreign, Bounded}
use Rattle.expansion_laws.proofs.SearchedUnits.{unit_searched, all_passed as units_passed, front_passed as units_front_passed, front_finished as units_front_finished}

-- ---- what units import and export

abbrev DoneBy : List UnitResult → Meaning → Type 0
DoneBy rs (Local v) = ⊥
DoneBy rs (Global z i) = done rs z ≡ true
DoneBy rs (Standard s) = Unit {0}
DoneBy rs (Free s) = Unit {0}

record Settled (g : ScopedProgress) : Type 0 where
  entries : (u : ℕ) (s : List ℕ) → GivenSo (DoneBy g.results) (g.entry u s)
  exports : Exports (DoneBy g.results) g.results

-- one more is done
module _ (r : UnitResult) (rs : List UnitResult) where
  done_still : (z : ℕ) → done rs z ≡ true → done (r ∷ rs) z ≡ true
  done_still z h = go (r.unit.number == z)
    where
      go : (t : Bool) → is_some (cond t (Some r) (result_at rs z)) ≡ true
      go true = refl
      go false = h

  done_itself : (n : ℕ) → r.unit.number ≡ n → done (r ∷ rs) n ≡ true
  done_itself n e = ap (λ t. is_some (cond t (Some r) (result_at rs n))) (ap (λ m. m == n) e ∙ eq-eqb n n refl)

  means_still : (m : Meaning) → DoneBy rs m → DoneBy (r ∷ rs) m
  means_still (Local v) h = h
  means_still (Global z i) h = done_still z h
  means_still (Standard s) h = tt
  means_still (Free s) h = tt

  given_still : (o : Option Meaning) → GivenSo (DoneBy rs) o → GivenSo (DoneBy (r ∷ rs)) o
  given_still None h = tt
  given_still (Some m) h = means_still m h

  fits_still : (es : List Entry) → Fits (DoneBy rs) es → Fits (DoneBy (r ∷ rs)) es
  fits_still es h = all_of_more (λ (e : Entry). DoneBy rs e.meaning) (λ (e : Entry). DoneBy (r ∷ rs) e.meaning) (λ e q. means_still e.meaning q) es h

  exports_still : (qs : List UnitResult) → Exports (DoneBy rs) qs → Exports (DoneBy (r ∷ rs)) qs
  exports_still qs h = all_of_more (λ (q : UnitResult). Fits (DoneBy rs) q.exports) (λ (q : UnitResult). Fits (DoneBy (r ∷ rs)) q.exports) (λ q e. fits_still q.exports e) qs h

module _ (all : List Placed) (known : Known) (p : Prepared) (g : ScopedProgress) (h : Settled g) where
  imports_settled : Fits (DoneBy g.results) (unit_entries all g.results p).0
  imports_settled = unit_entries_fit (DoneBy g.results) (λ s. tt) all g.results h.exports p

  abbrev by_scopes : Option (List Formed) × ScopedState
  by_scopes = scoped_unit_over known p (scoped_start_after all p g)

  abbrev result : UnitResult
  result = unit_result p (unit_entries all g.results p) by_scopes.1.table by_scopes.0

  number_is : result.unit.number ≡ p.number
  number_is = go by_scopes.0
    where
      go : (forms : Option (List Formed)) → (unit_result p (unit_entries all g.results p) by_scopes.1.table forms).unit.number ≡ p.number
      go None = refl
      go (Some forms) = refl

  exports_settled : Fits (DoneBy (result ∷ g.results)) result.exports
  exports_settled = go by_scopes.0
    where
      go : (forms : Option (List Formed)) → Fits (DoneBy (result ∷ g.results)) (unit_result p (unit_entries all g.results p) by_scopes.1.table forms).exports
      go None = tt
      go (Some forms) = exports_all_fit (DoneBy (result ∷ g.results)) by_scopes.1.table p.number (λ i. done_itself result g.results p.number number_is) (unit_entries all g.results p).0 (fits_still result g.results (unit_entries all g.results p).0 imports_settled) p.exports

  step_settled : (f : Option WholeFault) → Settled (scoped_by_fault all known p f g)
  step_settled (Some fault) = record {
    entries = λ u s. given_still (broken_result p fault) g.results (g.entry u s) (h.entries u s);
    exports = (tt, exports_still (broken_result p fault) g.results g.results h.exports);
  }
  step_settled None = record {
    entries = with_entries_fit (DoneBy (result ∷ g.results)) p.number (unit_entries all g.results p).0 g.entry (fits_still result g.results (unit_entries all g.results p).0 imports_settled) (λ u s. given_still result g.results (g.entry u s) (h.entries u s));
    exports = (exports_settled, exports_still result g.results g.results h.exports);
  }

work_settled : (all : List Placed) (ps : List Prepared) (known : Known) (n : ℕ) (g : ScopedProgress) → Settled g → Settled (scoped_work all ps known n g)
work_settled all ps known zero g h = h
work_settled all ps known (suc n) g h = work_settled all ps known n (scoped_worked all ps known (first_ready (is_ready all ps g.results) ps) g) (go (first_ready (is_ready all ps g.results) ps))
  where
    go : (o : Option Prepared) → Settled (scoped_worked all ps known o g)
    go None = h
    go (Some p) = step_settled all known p g h (fault_before all ps p)

before_settled : Settled scoped_before
before_settled = record { entries = λ u s. go s ((u == prelude_unit) && is_standard s); exports = tt }
  where
    go : (s : List ℕ) (t : Bool) → GivenSo (DoneBy []) (cond t (Some (Standard s)) None)
    go s true = tt
    go s false = tt

-- ---- a unit that is ready

module _ (all : List Placed) (ps : List Prepared) (known : Known) (n : ℕ) (p : Prepared) where
  abbrev left : ScopedProgress
  left = scoped_work all ps known n scoped_before

  module _ (ready : is_ready all ps left.results p ≡ true) where
    between : Between left
    between = (work_gone all ps known n scoped_before between_before).between

    new : done left.results p.number ≡ false
    new = not_done all ps known (done left.results p.number) _ ready

    abbrev w : Era
    w = coming left.results p.number

    abbrev start : ScopedState
    start = scoped_start_after all p left

    fit : Fits NoLocal (unit_entries all left.results p).0
    fit = unit_entries_fit NoLocal (λ s. tt) all left.results between.exports p

    unit_state : UnitState w known start
    unit_state = start_unit known left between p new (unit_entries all left.results p) fit

    locals : LocalsKept w start
    locals = locals_none w start left.macros (between.fine p.number new).macros

    held : AllOf (FormHeld w known start) (forms_of p)
    held = forms_held known left between p new (unit_entries all left.results p) fit

    -- it imports nothing of its own
    foreign : (m : Meaning) → DoneBy left.results m → Foreign p.number m
    foreign (Local v) h = h
    foreign (Global z i) h = false_from_ne_true (z == p.number) (λ e.
        let same : z ≡ p.number = grind (arith, nat_tests) in
        let q : true ≡ false = sym (subst (λ (u : ℕ). done left.results u ≡ true) same h) ∙ new in absurd cc)
    foreign (Standard s) h = tt
    foreign (Free s) h = tt

    given_foreign : (o : Option Meaning) → GivenSo (DoneBy left.results) o → GivenSo (Foreign p.number) o
    given_foreign None h = tt
    given_foreign (Some m) h = foreign m h

    settled : Settled left
    settled = work_settled all ps known n scoped_before before_settled

    pub bounded : Bounded w start
    bounded = record {
      unit = refl;
      definitions = unit_state.fine.1.binders;
      places = unit_state.fine.1.places;
      macros = all_of_more (MacroFine w none_yet none_yet none_yet) (λ (k : ScopedMacro). BindersCounted w none_yet k.frames) (λ k f. f.binders) left.macros (between.fine p.number new).macros;
      entries = λ v x. given_foreign (start.entry v x) (with_entries_fit (DoneBy left.results) p.number (unit_entries all left.results p).0 left.entry (imports_settled all known p left settled) settled.entries v x);
    }

    pub unit_law : searched_unit_over known p start ≡ scoped_unit_over known p start
    unit_law = unit_searched w known enough_turns (numbers_of p) (forms_of p) start unit_state between.formed locals held bounded

    pub passed_law : all_passed (searched known) p start ≡ all_passed (counted known) p start
    passed_law = units_passed w known enough_turns (numbers_of p) (forms_of p) start unit_state between.formed locals held bounded

    pub front_passed_law : (k : ℕ) → front_passed (searched known) k p start ≡ front_passed (counted known) k p start
    front_passed_law k = units_front_passed w known enough_turns (numbers_of p) (forms_of p) start unit_state between.formed locals held bounded k

    pub front_finished_law : (k : ℕ) → front_finished (searched known) k p (all_passed (counted known) p start) ≡ front_finished (counted known) k p (all_passed (counted known) p start)
    front_finished_law k = units_front_finished w known enough_turns (numbers_of p) (forms_of p) start unit_state between.formed locals held bounded k
