-- The result of a unit that is worked on stays to the end.
use Rattle.std.proofs.Common.{◌≡◌, ℕ, zero, suc, ◌+◌, ◌-◌, ◌<◌, ◌==◌, List, ◌∷◌, Bool, true, false, cond, Option, Some, None, refl, sym, ap, ◌∙◌, subst, arith, eq-eqb, eqb-true}
use Rattle.scheme_model.specs.Requirements.{Known}
use Rattle.scheme_model.specs.Order.{is_some}
use Rattle.scheme_model.specs.UnitExpansion.{Formed}
use Rattle.scheme_model.specs.ScopedExpansion.{ScopedState}
use Rattle.scheme_model.specs.IncludedUnits.{Placed}
use Rattle.scheme_model.specs.Program.{Prepared, WholeFault, UnitResult, broken_result, unit_result, unit_entries, with_entries, fault_before, is_ready, first_ready, result_at}
use Rattle.scheme_model.specs.ScopedProgram.{ScopedProgress, scoped_start_of, scoped_start_after, scoped_unit_over, scoped_by_fault, scoped_worked, scoped_work, scoped_before}
use Rattle.model_laws.proofs.FramePrograms.{done}
use Rattle.kept_forms.proofs.Programs.{OrReady, first_is, new_unit, result_number}

-- a result of another unit is behind that of a new one
behind : (rs : List UnitResult) (r x : UnitResult) (u n : ℕ) → r.unit.number ≡ n → done rs n ≡ false → result_at rs u ≡ Some x → result_at (r ∷ rs) u ≡ Some x
behind rs r x u n e new h = go (r.unit.number == u) refl
  where
    go : (t : Bool) → (r.unit.number == u) ≡ t → cond (r.unit.number == u) (Some r) (result_at rs u) ≡ Some x
    go true k =
        let same : u ≡ n = sym (eqb-true r.unit.number u k) ∙ e in
        let z : true ≡ false = sym (ap is_some (ap (result_at rs) (sym same) ∙ h)) ∙ new in absurd cc
    go false k = ap (λ t. cond t (Some r) (result_at rs u)) k ∙ h

module _ (all : List Placed) (ps : List Prepared) (known : Known) where
  abbrev step : ScopedProgress → ScopedProgress
  step g = scoped_worked all ps known (first_ready (is_ready all ps g.results) ps) g

  fault_stays : (g : ScopedProgress) (p : Prepared) → done g.results p.number ≡ false → (f : Option WholeFault) (u : ℕ) (x : UnitResult) → result_at g.results u ≡ Some x → result_at (scoped_by_fault all known p f g).results u ≡ Some x
  fault_stays g p new (Some f) u x h = behind g.results (broken_result p f) x u p.number refl new h
  fault_stays g p new None u x h =
      let imports = unit_entries all g.results p in
      let q = scoped_unit_over known p (scoped_start_of p g (with_entries p.number imports.0 g.entry)) in
      behind g.results (unit_result p imports q.1.table q.0) x u p.number (result_number p imports q.1.table q.0) new h

  next_stays : (g : ScopedProgress) (o : Option Prepared) → OrReady all ps known (is_ready all ps g.results) o → (u : ℕ) (x : UnitResult) → result_at g.results u ≡ Some x → result_at (scoped_worked all ps known o g).results u ≡ Some x
  next_stays g None r u x h = h
  next_stays g (Some p) r u x h = fault_stays g p (new_unit all ps known g p r) (fault_before all ps p) u x h

  work_stays : (n : ℕ) (g : ScopedProgress) (u : ℕ) (x : UnitResult) → result_at g.results u ≡ Some x → result_at (scoped_work all ps known n g).results u ≡ Some x
  work_stays zero g u x h = h
  work_stays (suc n) g u x h = work_stays n (step g) u x (next_stays g (first_ready (is_ready all ps g.results) ps) (first_is all ps known (is_ready all ps g.results) ps) u x h)

  work_sum : (n m : ℕ) (g : ScopedProgress) → scoped_work all ps known (n + m) g ≡ scoped_work all ps known m (scoped_work all ps known n g)
  work_sum zero m g = let e : 0 + m ≡ m = omega arith in ap (λ z. scoped_work all ps known z g) e
  work_sum (suc n) m g = let e : suc n + m ≡ suc (n + m) = omega arith in ap (λ z. scoped_work all ps known z g) e ∙ work_sum n m (step g)

  -- ---- the unit that is worked on next

  module _ (n m : ℕ) (within : n < m) (p : Prepared) (first : first_ready (is_ready all ps (scoped_work all ps known n scoped_before).results) ps ≡ Some p) (fault : fault_before all ps p ≡ None) where
    abbrev g : ScopedProgress
    g = scoped_work all ps known n scoped_before

    abbrev q : Option (List Formed) × ScopedState
    q = scoped_unit_over known p (scoped_start_after all p g)

    abbrev own : UnitResult
    own = unit_result p (unit_entries all g.results p) q.1.table q.0

    pub is_first : is_ready all ps g.results p ≡ true
    is_first = subst (λ (o : Option Prepared). OrReady all ps known (is_ready all ps g.results) o) first (first_is all ps known (is_ready all ps g.results) ps)

    next_is : step g ≡ scoped_by_fault all known p None g
    next_is = ap (λ (o : Option Prepared). scoped_worked all ps known o g) first ∙ ap (λ (f : Option WholeFault). scoped_by_fault all known p f g) fault

    result_there : result_at (step g).results p.number ≡ Some own
    result_there =
        ap (λ (z : ScopedProgress). result_at z.results p.number) next_is
        ∙ ap (λ t. cond t (Some own) (result_at g.results p.number)) (eq-eqb own.unit.number p.number (result_number p (unit_entries all g.results p) q.1.table q.0))

    pub result_stays : result_at (scoped_work all ps known m scoped_before).results p.number ≡ Some own
    result_stays =
        let k = m - suc n in
        let e : n + suc k ≡ m = omega (arith, within) in
        subst (λ (z : ScopedProgress). result_at z.results p.number ≡ Some own) (sym (work_sum n (suc k) scoped_before) ∙ ap (λ z. scoped_work all ps known z scoped_before) e) (work_stays k (step g) p.number own result_there)
