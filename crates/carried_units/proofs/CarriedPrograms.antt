-- A program that keeps all that has its answers keeps all carried forms whole, and stays within the work of the event.
use Rattle.std.proofs.Common.{◌≡◌, ◌⊎◌, inl, inr, ℕ, zero, suc, ◌<◌, ◌≤◌, List, [], ◌∷◌, length, Bool, Option, Some, None, refl, sym, ap, ◌∙◌, subst, arith}
use Rattle.scheme_model.specs.Ident.{Written}
use Rattle.scheme_model.specs.Requirements.{Known}
use Rattle.scheme_model.specs.ScopedExpansion.{ScopedState}
use Rattle.scheme_model.specs.Includes.{Document}
use Rattle.scheme_model.specs.IncludedUnits.{Placed}
use Rattle.scheme_model.specs.Program.{Prepared, WholeFault, known_in, units_of, prepare, fault_before, is_ready, first_ready, enough_turns, forms_at_work}
use Rattle.scheme_model.specs.ScopedProgram.{ScopedProgress, forms_over, scoped_start_after, scoped_worked, scoped_work, scoped_before}
use Rattle.form_laws.specs.Begins.{Each}
use Rattle.kept_forms.specs.KeptPrograms.{Keeping, ProgramKeeps}
use Rattle.kept_forms.proofs.Programs.{between_at, placed_at, new_unit, OrReady, first_is}
use Rattle.forgotten_locals.specs.Ways.{forgetting}
use Rattle.forgotten_locals.specs.Programs.{forgetting_worked, forgetting_work, AtStart, AtUnit, AtUnits, UnitIsKept, units_sum, uses_forgetting}
use Rattle.forgotten_locals.proofs.WholePrograms.{progress_outside, program_kept, program_uses, program_keeps}
use Rattle.carried_forms.specs.Worked.{WorkedForm, WorkedUnit, OpenDocument, read_documents, worked_unit, unless_broken, worked_next, worked_units, units_at_work}
use Rattle.carried_forms.specs.Carried.{IsIn, carried, work}
use Rattle.carried_laws.specs.CarriedEntries.{KeepsAll}
use Rattle.carried_laws.proofs.Places.{parted}
use Rattle.carried_laws.proofs.StayingPrograms.{unit_begins}
use Rattle.carried_laws.proofs.Bound.{work_bounds}
use Rattle.answers_at_turns.specs.Had.{Had}
use Rattle.answers_at_turns.proofs.ProgramsStay.{Same, programs_stay}
use Rattle.answers_at_turns.proofs.WholeUnits.{one_of}
use Rattle.carried_units.specs.Entries.{HasEntry, CarriedHave, AllHave, KeepsAnswers}
use Rattle.carried_units.proofs.CarriedUnits.{each_in, Whole, unit_whole, all_whole}

each_both : {X : Type 0} (P Q R : X → Type 0) → ((x : X) → P x → Q x → R x) → (xs : List X) → Each P xs → Each Q xs → Each R xs
each_both P Q R f [] h k = tt
each_both P Q R f (x ∷ xs) h k = (f x h.0 k.0, each_both P Q R f xs h.1 k.1)

module _ (all : List Placed) (ps : List Prepared) (known : Known) where
  -- ---- a unit that is worked on

  pub record IsWorked (k : ℕ) (g : ScopedProgress) (w : WorkedUnit) : Type 0 where
    pub place : ℕ
    pub within : place < k
    pub unit : Prepared
    pub first : first_ready (is_ready all ps (scoped_work all ps known place g).results) ps ≡ Some unit
    pub fault : fault_before all ps unit ≡ None
    pub is : w ≡ worked_unit known unit (scoped_start_after all unit (scoped_work all ps known place g))

  first_worked : (k : ℕ) (g : ScopedProgress) (w : WorkedUnit) (o : Option Prepared) → first_ready (is_ready all ps g.results) ps ≡ o → IsIn w (worked_next all ps known o g) → IsWorked (suc k) g w
  first_worked k g w None e i = absurd i
  first_worked k g w (Some p) e i = go (fault_before all ps p) refl i
    where
      go : (f : Option WholeFault) → fault_before all ps p ≡ f → IsIn w (unless_broken all known p f g) → IsWorked (suc k) g w
      go (Some f) d j = absurd j
      go None d (inl s) = record { place = 0; within = omega arith; unit = p; first = e; fault = d; is = s }
      go None d (inr j) = absurd j

  pub worked_at_place : (k : ℕ) (g : ScopedProgress) (w : WorkedUnit) → IsIn w (worked_units all ps known k g) → IsWorked k g w
  worked_at_place zero g w i = absurd i
  worked_at_place (suc k) g w i =
      let o = first_ready (is_ready all ps g.results) ps in
      go (parted w (worked_next all ps known o g) (worked_units all ps known k (scoped_worked all ps known o g)) i) (λ j. worked_at_place k (scoped_worked all ps known o g) w j)
    where
      go : (let o = first_ready (is_ready all ps g.results) ps in IsIn w (worked_next all ps known o g) ⊎ IsIn w (worked_units all ps known k (scoped_worked all ps known o g)))
          → (let next = scoped_worked all ps known (first_ready (is_ready all ps g.results) ps) g in IsIn w (worked_units all ps known k next) → IsWorked k next w) → IsWorked (suc k) g w
      go (inl j) rest = first_worked k g w (first_ready (is_ready all ps g.results) ps) refl j
      go (inr j) rest = let z = rest j in let l = z.within in record { place = suc z.place; within = omega (arith, l); unit = z.unit; first = z.first; fault = z.fault; is = z.is }

  -- ---- at each unit

  module _ (P Q : Prepared → ScopedState → Type 0) (f : (p : Prepared) (s : ScopedState) → P p s → Q p s) (step : Option Prepared → ScopedProgress → ScopedProgress) where
    start_more : (p : Prepared) (x : Option WholeFault) (h : ScopedProgress) → AtStart all P p x h → AtStart all Q p x h
    start_more p (Some x) h k = tt
    start_more p None h k = f p (scoped_start_after all p h) k

    unit_more : (o : Option Prepared) (h : ScopedProgress) → AtUnit all ps P o h → AtUnit all ps Q o h
    unit_more None h k = tt
    unit_more (Some p) h k = start_more p (fault_before all ps p) h k

    pub units_more : (n : ℕ) (h : ScopedProgress) → AtUnits all ps P step n h → AtUnits all ps Q step n h
    units_more zero h k = tt
    units_more (suc n) h k = let o = first_ready (is_ready all ps h.results) ps in (unit_more o h k.0, units_more n (step o h) k.1)

  module _ (keep : Keeping) (P : Prepared → ScopedState → Type 0) where
    abbrev step : Option Prepared → ScopedProgress → ScopedProgress
    step = forgetting_worked all ps known keep

    abbrev next : ScopedProgress → Option Prepared
    next h = first_ready (is_ready all ps h.results) ps

    pub at_place : (i k : ℕ) (h : ScopedProgress) → i < k → AtUnits all ps P step k h → let z = forgetting_work all ps known keep i h in AtUnit all ps P (next z) z
    at_place i zero h l a = absurd (omega (arith, l))
    at_place zero (suc k) h l a = a.0
    at_place (suc i) (suc k) h l a = at_place i k (step (next h) h) (omega (arith, l)) a.1

    pub up_to : (i k : ℕ) (h : ScopedProgress) → i < k → AtUnits all ps P step k h → AtUnits all ps P step i h
    up_to zero k h l a = tt
    up_to (suc i) zero h l a = absurd (omega (arith, l))
    up_to (suc i) (suc k) h l a = (a.0, up_to i k (step (next h) h) (omega (arith, l)) a.1)

module _ (before after : List OpenDocument) (keep : Keeping) (had : ℕ → ℕ → Option Had) (kept_first : ℕ → ℕ → Bool) where
  abbrev ds : List Document
  ds = read_documents after

  abbrev all : List Placed
  all = units_of ds

  abbrev ps : List Prepared
  ps = prepare all 0 all

  abbrev known : Known
  known = known_in ds

  abbrev Kept : Prepared → ScopedState → Type 0
  Kept p s = KeepsAnswers known keep had kept_first p s

  abbrev Plain : Prepared → ScopedState → Type 0
  Plain p s = UnitIsKept (forgetting enough_turns) known keep p s

  module _ (k : AtUnits all ps Kept (forgetting_worked all ps known keep) (length ps) scoped_before) (has : AllHave before after had) where
    plain : AtUnits all ps Plain (forgetting_worked all ps known keep) (length ps) scoped_before
    plain = units_more all ps known Kept Plain (λ p s a. a.kept) (forgetting_worked all ps known keep) (length ps) scoped_before k

    one_unit : (w : WorkedUnit) → IsIn w (units_at_work ds) → Each (Whole before after w.number) (keep w.number)
    one_unit w i = go (worked_at_place all ps known (length ps) scoped_before w i)
      where
        go : IsWorked all ps known (length ps) scoped_before w → Each (Whole before after w.number) (keep w.number)
        go z =
            let n = z.place in let p = z.unit in
            let g = scoped_work all ps known n scoped_before in let h = forgetting_work all ps known keep n scoped_before in
            let o = progress_outside all ps known keep n (up_to all ps known keep Plain n (length ps) scoped_before z.within plain) in
            let same : first_ready (is_ready all ps h.results) ps ≡ Some p = ap (λ rs. first_ready (is_ready all ps rs) ps) o.results ∙ z.first in
            let here : AtUnit all ps Kept (Some p) h = subst (λ q. AtUnit all ps Kept q h) same (at_place all ps known keep Kept n (length ps) scoped_before z.within k) in
            let kept : Kept p (scoped_start_after all p h) = subst (λ f. AtStart all Kept p f h) z.fault here in
            let t = scoped_start_after all p g in
            let ready = subst (λ (q : Option Prepared). OrReady all ps known (is_ready all ps g.results) q) z.first (first_is all ps known (is_ready all ps g.results) ps) in
            let at = unit_begins all ps known g (between_at all ps known n) (placed_at all ps known n) p (new_unit all ps known g p ready) in
            let gs = (worked_unit known p t).forms in
            let programs = programs_stay known p.number (forms_over (Written p.number) p.number 0 (forms_at_work p)) t at in
            let own = one_of (λ (x : WorkedUnit). Each (λ (y : WorkedForm). IsIn (x.number, y.form) (carried before after) → HasEntry x.number y.around.state.program (had x.number) y) x.forms) (units_at_work ds) has w i in
            let there = subst (λ (x : WorkedUnit). Each (λ (y : WorkedForm). IsIn (x.number, y.form) (carried before after) → HasEntry x.number y.around.state.program (had x.number) y) x.forms) z.is own in
            let have : CarriedHave before after p.number t.program (had p.number) gs =
            each_both (λ (y : WorkedForm). IsIn (p.number, y.form) (carried before after) → HasEntry p.number y.around.state.program (had p.number) y) (Same known p.number t)
            (λ (y : WorkedForm). IsIn (p.number, y.form) (carried before after) → HasEntry p.number t.program (had p.number) y) (λ y a b c. subst (λ q. HasEntry p.number q (had p.number) y) b.0 (a c)) gs there programs in
            subst (λ (x : WorkedUnit). Each (Whole before after x.number) (keep x.number)) (sym z.is)
            (unit_whole before after n p z.within z.first z.fault h (keep p.number) o kept.kept.0 kept.kept.1 (had p.number) (kept_first p.number) kept.first kept.turns have)

    pub program_keeps_all : KeepsAll (carried before after) keep
    program_keeps_all = all_whole before after keep (each_in (λ (w : WorkedUnit). Each (Whole before after w.number) (keep w.number)) (units_at_work ds) (λ w i. one_unit w i))

    pub program_within : units_sum all ps (uses_forgetting known keep) (forgetting_worked all ps known keep) (length ps) scoped_before ≤ work before after
    program_within =
        let there : ProgramKeeps all ps known keep (length ps) scoped_before = (program_keeps all ps known keep (length ps)).1 ((program_kept all ps known keep (length ps)).0 plain) in
        subst (λ n. n ≤ work before after) (sym (program_uses all ps known keep (length ps) plain)) (work_bounds before after keep there program_keeps_all)
