-- One turn more, as what expands the units goes through their places.
use Rattle.std.proofs.Common.{◌≡◌, ℕ, ◌+◌, true, false, List, [], ◌∷◌, ◌++◌, length, slice_get, Option, Some, None, sym, ap, ◌∙◌, arith}
use Rattle.std.specs.Prelude.{◌||◌, not}
use Rattle.std.proofs.lemmas.List.Sums.{fold_push}
use Rattle.std.proofs.lemmas.Bool.{not-true, and_parts}
use Rattle.scheme_model.specs.Order.{is_some}
use Rattle.scheme_model.specs.Requirements.{Known}
use Rattle.scheme_model.specs.IncludedUnits.{Placed}
use Rattle.scheme_model.specs.Program.{Prepared, prepared, prepare, WholeFault, result_at, is_in, fault_before, unit_entries, broken_result, is_ready, all_done}
use Rattle.scheme_model.specs.ScopedProgram.{scoped_expanded, scoped_by_fault, scoped_worked, scoped_work, scoped_before}
use Rattle.document_units.specs.Turned.{turns, scoped_by_number, scoped_at}
use Rattle.document_units.proofs.CircleNames.{prepared_at}
use Rattle.program_expansion.proofs.TurnSteps.{done_there}
use Rattle.program_expansion.proofs.TurnedLaws.{scoped_after, scoped_done_after, scoped_turn}

-- the turn of the unit at a place, after those at these places: it is ready, and has no result yet; what is expanded so far is what
-- the definition has after as many units
pub record TurnOf (all : List Placed) (known : Known) (x : List ℕ) (n : ℕ) : Type 0 where
  pub unit : Placed
  pub there : slice_get all n ≡ Some unit
  pub place : slice_get (prepare all 0 all) n ≡ Some (prepared all n unit)
  pub reached : scoped_work all (prepare all 0 all) known (length x) scoped_before ≡ scoped_at all known x
  pub ready : is_ready all (prepare all 0 all) (scoped_at all known x).results (prepared all n unit) ≡ true
  pub fresh : is_some (result_at (scoped_at all known x).results n) ≡ false
  pub next : scoped_at all known (x ++ n ∷ []) ≡ scoped_by_fault all known (prepared all n unit) (fault_before all (prepare all 0 all) (prepared all n unit)) (scoped_at all known x)

pub turn_of : (all : List Placed) (known : Known) (x y : List ℕ) (n : ℕ) → turns all ≡ x ++ n ∷ y → TurnOf all known x n
turn_of all known x y n h =
    let turn = scoped_turn all known x y n h in
    let at = prepared_at all all 0 n turn.0 turn.1.place in
    let own : prepared all n at.0 ≡ turn.0 = ap (λ m. prepared all m at.0) (sym (from_none n)) ∙ at.1.1 in
    record {
      unit = at.0;
      there = at.1.0;
      place = turn.1.place ∙ ap Some (sym own);
      reached = scoped_after all known x (n ∷ y) h;
      ready = ap (is_ready all (prepare all 0 all) (scoped_at all known x).results) own ∙ turn.1.ready;
      fresh =
          not-true (is_some (result_at (scoped_at all known x).results n))
          (ap (λ m. not (is_some (result_at (scoped_at all known x).results m))) (sym turn.1.number)
          ∙ (and_parts (not (is_some (result_at (scoped_at all known x).results turn.0.number)))
          (is_some (fault_before all (prepare all 0 all) turn.0) || all_done (scoped_at all known x).results turn.0.imports) turn.1.ready).0);
      next =
          fold_push (scoped_by_number all known) scoped_before x n
          ∙ ap (λ (o : Option Prepared). scoped_worked all (prepare all 0 all) known o (scoped_at all known x)) (turn.1.place ∙ ap Some (sym own));
    }
  where
    from_none : (n : ℕ) → 0 + n ≡ n
    from_none n = omega arith

-- a unit has a result where it is among those so far
pub turn_done : (all : List Placed) (known : Known) (x y : List ℕ) → turns all ≡ x ++ y → (n : ℕ) → is_some (result_at (scoped_at all known x).results n) ≡ is_in n x
turn_done all known x y h n = done_there (scoped_at all known x).results n ∙ ap (is_in n) (scoped_done_after all known x y h)

-- a broken unit changes nothing but the results
pub turn_broken : (all : List Placed) (known : Known) (x : List ℕ) (n : ℕ) (turn : TurnOf all known x n) (f : WholeFault) → fault_before all (prepare all 0 all) (prepared all n turn.unit) ≡ Some f →
    let g = scoped_at all known x in scoped_at all known (x ++ n ∷ []) ≡ record g { results = broken_result (prepared all n turn.unit) f ∷ g.results }
turn_broken all known x n turn f e = turn.next ∙ ap (λ (o : Option WholeFault). scoped_by_fault all known (prepared all n turn.unit) o (scoped_at all known x)) e

-- another is expanded
pub turn_expanded : (all : List Placed) (known : Known) (x : List ℕ) (n : ℕ) (turn : TurnOf all known x n) → fault_before all (prepare all 0 all) (prepared all n turn.unit) ≡ None →
    let g = scoped_at all known x in scoped_at all known (x ++ n ∷ []) ≡ scoped_expanded known (prepared all n turn.unit) (unit_entries all g.results (prepared all n turn.unit)) g
turn_expanded all known x n turn e = turn.next ∙ ap (λ (o : Option WholeFault). scoped_by_fault all known (prepared all n turn.unit) o (scoped_at all known x)) e
