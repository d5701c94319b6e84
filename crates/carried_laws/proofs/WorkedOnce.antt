-- No two units at work have one number, nor two forms of one of them; so each form at work is found by its unit and its number.
use Rattle.std.proofs.Common.{◌≡◌, inl, inr, ℕ, zero, suc, List, [], ◌∷◌, ◌++◌, map, length, Bool, true, false, cond, Option, Some, None, refl, sym, ap, ◌∙◌, subst, eq-eqb}
use Rattle.std.specs.Prelude.{◌==◌}
use Rattle.std.proofs.lemmas.Bool.{eqb-true, false_from_ne_true}
use Rattle.scheme_model.specs.Requirements.{Known}
use Rattle.scheme_model.specs.Order.{is_some}
use Rattle.scheme_model.specs.Includes.{Document}
use Rattle.scheme_model.specs.IncludedUnits.{Placed}
use Rattle.scheme_model.specs.Program.{known_in, units_of, Prepared, prepare, WholeFault, UnitResult, result_at, fault_before, is_ready, first_ready, broken_result, unit_entries, unit_result, with_entries}
use Rattle.scheme_model.specs.ScopedProgram.{ScopedProgress, scoped_start_of, scoped_unit_over, scoped_start_after, scoped_by_fault, scoped_worked, scoped_before}
use Rattle.model_laws.proofs.FramePrograms.{done, work_gone, between_before, Between as BetweenUnits}
use Rattle.form_laws.specs.Begins.{Each}
use Rattle.kept_forms.proofs.Programs.{PlacesDone, work_placed, OrReady, first_is, distinct, new_unit, result_number}
use Rattle.kept_forms.proofs.UsesCounted.{Not, Distinct}
use Rattle.kept_forms.proofs.WholePrograms.{itself}
use Rattle.carried_forms.specs.Worked.{WorkedForm, worked_forms, WorkedUnit, worked_unit, unless_broken, worked_next, worked_units, units_at_work}
use Rattle.carried_forms.specs.Carried.{form_at, worked_at, IsIn}
use Rattle.carried_laws.specs.CarriedKeeping.{forms_worked}
use Rattle.carried_laws.proofs.AtWork.{of_tree}
use Rattle.carried_laws.proofs.StayingPrograms.{anew, anew_forms, distinct_anew, worked_form, forms_in, unit_forms, each_joined}

apart : (m n : ℕ) → (m ≡ n → ⊥) → (m == n) ≡ false
apart m n h = false_from_ne_true (m == n) (λ e. h (eqb-true m n e))

-- ---- the forms of a unit

of_worked : WorkedForm → ℕ
of_worked g = g.form

-- each is found by its number
abbrev AreFound : WorkedUnit → Type 0
AreFound w = (g : WorkedForm) → IsIn g w.forms → form_at w.forms g.form ≡ Some g

not_in : (n : ℕ) (gs : List WorkedForm) → Not of_tree n (map worked_form gs) → (g : WorkedForm) → IsIn g gs → (n == g.form) ≡ false
not_in n [] d g h = absurd h
not_in n (x ∷ gs) d g (inl e) = apart n g.form (λ c. d.0 (c ∙ ap (λ (z : WorkedForm). z.form) e))
not_in n (x ∷ gs) d g (inr h) = not_in n gs d.1 g h

all_found : (gs : List WorkedForm) → Distinct of_tree (map worked_form gs) → (g : WorkedForm) → IsIn g gs → form_at gs g.form ≡ Some g
all_found [] d g h = absurd h
all_found (x ∷ gs) d g (inl e) = ap (λ t. cond t (Some x) (form_at gs g.form)) (eq-eqb x.form g.form (ap (λ (z : WorkedForm). z.form) (sym e))) ∙ ap (λ (z : WorkedForm). Some z) (sym e)
all_found (x ∷ gs) d g (inr h) = ap (λ t. cond t (Some x) (form_at gs g.form)) (not_in x.form gs d.0 g h) ∙ all_found gs d.1 g h

-- ---- units

abbrev of_unit : WorkedUnit → ℕ
of_unit w = w.number

module _ (all : List Placed) (ps : List Prepared) (known : Known) where
  unit_found : (g : ScopedProgress) → BetweenUnits g → PlacesDone g → (p : Prepared) → done g.results p.number ≡ false → AreFound (worked_unit known p (scoped_start_after all p g))
  unit_found g b placed p new =
      let ts = forms_in all ps known p in let s = scoped_start_after all p g in
      let d = distinct_anew ts (distinct all ps known g g b placed (itself g) p new (anew ts) (anew_forms ts)) in
      all_found (worked_forms known ts s) (subst (Distinct of_tree) (sym (unit_forms known ts s)) d)

  fault_found : (g : ScopedProgress) → BetweenUnits g → PlacesDone g → (p : Prepared) → done g.results p.number ≡ false → (f : Option WholeFault) → Each AreFound (unless_broken all known p f g)
  fault_found g b placed p new (Some f) = tt
  fault_found g b placed p new None = (unit_found g b placed p new, tt)

  next_found : (g : ScopedProgress) → BetweenUnits g → PlacesDone g → (o : Option Prepared) → OrReady all ps known (is_ready all ps g.results) o → Each AreFound (worked_next all ps known o g)
  next_found g b placed None r = tt
  next_found g b placed (Some p) r = fault_found g b placed p (new_unit all ps known g p r) (fault_before all ps p)

  units_found : (n : ℕ) (g : ScopedProgress) → BetweenUnits g → PlacesDone g → Each AreFound (worked_units all ps known n g)
  units_found zero g b placed = tt
  units_found (suc n) g b placed =
      let o = first_ready (is_ready all ps g.results) ps in
      let h = scoped_worked all ps known o g in
      each_joined AreFound (worked_next all ps known o g) (worked_units all ps known n h) (next_found g b placed o (first_is all ps known (is_ready all ps g.results) ps))
      (units_found n h (work_gone all ps known 1 g b).between (work_placed all ps known 1 g placed))

  -- ---- a unit that was worked on isn't worked on again

  abbrev Fresh : List UnitResult → List WorkedUnit → Type 0
  Fresh rs ws = Each (λ (w : WorkedUnit). done rs w.number ≡ false) ws

  before_it : (rs : List UnitResult) (r : UnitResult) (u : ℕ) → done (r ∷ rs) u ≡ false → (done rs u ≡ false) × (r.unit.number ≡ u → ⊥)
  before_it rs r u h = go (r.unit.number == u) refl h
    where
      go : (t : Bool) → (r.unit.number == u) ≡ t → is_some (cond t (Some r) (result_at rs u)) ≡ false → (done rs u ≡ false) × (r.unit.number ≡ u → ⊥)
      go true e k = let z : true ≡ false = k in absurd cc
      go false e k = (k, λ d. (let z : true ≡ false = sym (eq-eqb r.unit.number u d) ∙ e in absurd cc))

  -- one more result, of this unit
  record OneMore (p : Prepared) (rs qs : List UnitResult) : Type 0 where
    result : UnitResult
    is : qs ≡ result ∷ rs
    number : result.unit.number ≡ p.number

  one_more : (g : ScopedProgress) (p : Prepared) (f : Option WholeFault) → OneMore p g.results (scoped_by_fault all known p f g).results
  one_more g p (Some f) = record { result = broken_result p f; is = refl; number = refl }
  one_more g p None =
      let imports = unit_entries all g.results p in
      let q = scoped_unit_over known p (scoped_start_of p g (with_entries p.number imports.0 g.entry)) in
      record { result = unit_result p imports q.1.table q.0; is = refl; number = result_number p imports q.1.table q.0 }

  fresh_before : (p : Prepared) (rs qs : List UnitResult) → OneMore p rs qs → (ws : List WorkedUnit) → Fresh qs ws → Fresh rs ws × Not of_unit p.number ws
  fresh_before p rs qs m [] h = (tt, tt)
  fresh_before p rs qs m (w ∷ ws) h =
      let a = before_it rs m.result w.number (subst (λ (z : List UnitResult). done z w.number ≡ false) m.is h.0) in
      let rest = fresh_before p rs qs m ws h.1 in
      ((a.0, rest.0), ((λ e. a.1 (m.number ∙ e)), rest.1))

  abbrev Once : List UnitResult → List WorkedUnit → Type 0
  Once rs ws = Fresh rs ws × Distinct of_unit ws

  fault_once : (g : ScopedProgress) (p : Prepared) → done g.results p.number ≡ false → (f : Option WholeFault) (ws : List WorkedUnit) → Once (scoped_by_fault all known p f g).results ws → Once g.results (unless_broken all known p f g ++ ws)
  fault_once g p new (Some f) ws h = ((fresh_before p g.results (scoped_by_fault all known p (Some f) g).results (one_more g p (Some f)) ws h.0).0, h.1)
  fault_once g p new None ws h = let a = fresh_before p g.results (scoped_by_fault all known p None g).results (one_more g p None) ws h.0 in ((new, a.0), (a.1, h.1))

  next_once : (g : ScopedProgress) (o : Option Prepared) → OrReady all ps known (is_ready all ps g.results) o → (ws : List WorkedUnit) → Once (scoped_worked all ps known o g).results ws → Once g.results (worked_next all ps known o g ++ ws)
  next_once g None r ws h = h
  next_once g (Some p) r ws h = fault_once g p (new_unit all ps known g p r) (fault_before all ps p) ws h

  units_once : (n : ℕ) (g : ScopedProgress) → Once g.results (worked_units all ps known n g)
  units_once zero g = (tt, tt)
  units_once (suc n) g = let o = first_ready (is_ready all ps g.results) ps in next_once g o (first_is all ps known (is_ready all ps g.results) ps) (worked_units all ps known n (scoped_worked all ps known o g)) (units_once n (scoped_worked all ps known o g))

-- ---- found

not_unit : (n : ℕ) (ws : List WorkedUnit) → Not of_unit n ws → (w : WorkedUnit) → IsIn w ws → (n == w.number) ≡ false
not_unit n [] d w h = absurd h
not_unit n (x ∷ ws) d w (inl e) = apart n w.number (λ c. d.0 (c ∙ ap (λ (z : WorkedUnit). z.number) e))
not_unit n (x ∷ ws) d w (inr h) = not_unit n ws d.1 w h

forms_found : (ws : List WorkedUnit) → Distinct of_unit ws → (w : WorkedUnit) → IsIn w ws → forms_worked ws w.number ≡ w.forms
forms_found [] d w h = absurd h
forms_found (x ∷ ws) d w (inl e) =
    ap (λ t. cond t x.forms (forms_worked ws w.number)) (eq-eqb x.number w.number (ap (λ (z : WorkedUnit). z.number) (sym e))) ∙ ap (λ (z : WorkedUnit). z.forms) (sym e)
forms_found (x ∷ ws) d w (inr h) = ap (λ t. cond t x.forms (forms_worked ws w.number)) (not_unit x.number ws d.0 w h) ∙ forms_found ws d.1 w h

form_found : (ws : List WorkedUnit) → Distinct of_unit ws → Each AreFound ws → (w : WorkedUnit) → IsIn w ws → (g : WorkedForm) → IsIn g w.forms → worked_at ws w.number g.form ≡ Some g
form_found [] d f w h g i = absurd h
form_found (x ∷ ws) d f w (inl e) g i =
    ap (λ t. cond t (form_at x.forms g.form) (worked_at ws w.number g.form)) (eq-eqb x.number w.number (ap (λ (z : WorkedUnit). z.number) (sym e)))
    ∙ f.0 g (subst (λ (z : WorkedUnit). IsIn g z.forms) e i)
form_found (x ∷ ws) d f w (inr h) g i = ap (λ t. cond t (form_at x.forms g.form) (worked_at ws w.number g.form)) (not_unit x.number ws d.0 w h) ∙ form_found ws d.1 f.1 w h g i

module _ (ds : List Document) where
  once : Distinct of_unit (units_at_work ds)
  once = let all = units_of ds in let ps = prepare all 0 all in (units_once all ps (known_in ds) (length ps) scoped_before).1

  pub forms_by_number : (w : WorkedUnit) → IsIn w (units_at_work ds) → forms_worked (units_at_work ds) w.number ≡ w.forms
  forms_by_number w h = forms_found (units_at_work ds) once w h

  pub form_by_number : (w : WorkedUnit) → IsIn w (units_at_work ds) → (g : WorkedForm) → IsIn g w.forms → worked_at (units_at_work ds) w.number g.form ≡ Some g
  form_by_number w h g i = let all = units_of ds in let ps = prepare all 0 all in form_found (units_at_work ds) once (units_found all ps (known_in ds) (length ps) scoped_before between_before tt) w h g i
