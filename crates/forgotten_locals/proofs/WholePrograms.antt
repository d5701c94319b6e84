-- A program may forget what is local: each unit goes on from what is outside of the forms of the units before it.
use Rattle.std.proofs.Common.{◌≡◌, ◌↔◌, ℕ, zero, suc, ◌+◌, List, [], ◌∷◌, map, length, Bool, true, false, cond, Option, Some, None, refl, sym, ap, ◌∙◌, subst}
use Rattle.scheme_model.specs.Requirements.{Known}
use Rattle.scheme_model.specs.Prelude.{PreludeMacro, prelude}
use Rattle.scheme_model.specs.Ident.{Written, Written as WrittenIdent}
use Rattle.scheme_model.specs.Meaning.{Global, Standard}
use Rattle.scheme_model.specs.ScopedExpansion.{UsePlace, ScopedState}
use Rattle.scheme_model.specs.FormsAlike.{bare_kept, bare_place}
use Rattle.scheme_model.specs.Includes.{Document}
use Rattle.scheme_model.specs.IncludedUnits.{Placed}
use Rattle.scheme_model.specs.Program.{known_in, units_of, Prepared, prepare, WholeFault, fault_before, broken_result, unit_result, unit_entries, with_entries, enough_turns, is_ready, first_ready, in_order, program_of, forms_at_work, is_standard, prelude_unit, prelude_meaning}
use Rattle.scheme_model.specs.ScopedProgram.{ScopedProgress, forms_over, scoped_unit_over, scoped_start_after, scoped_by_fault, scoped_worked, scoped_work, scoped_before, scoped_prelude_macro, scoped_program_of}
use Rattle.model_laws.proofs.FramePrograms.{work_gone, between_before, program_law, Between as BetweenUnits}
use Rattle.kept_forms.specs.KeptForms.{form_of}
use Rattle.kept_forms.specs.Carried.{UnitKept}
use Rattle.kept_forms.specs.KeptPrograms.{Keeping, kept_worked, UnitKeeps, WorkKeeps, ProgramKeeps, SameProgress, program_not_kept, unit_not_kept, work_not_kept}
use Rattle.kept_forms.proofs.Programs.{PlacesDone, work_placed, OrReady, first_is, new_unit, not_kept_same}
use Rattle.kept_forms.proofs.WholePrograms.{itself, worked_alike}
use Rattle.forgotten_locals.specs.Outside.{is_outside, macros_outside, ForgetsLocals}
use Rattle.forgotten_locals.specs.Ways.{Way, anew, forgetting, unit_by, AllKept}
use Rattle.forgotten_locals.specs.Programs.{forgetting_by_fault, forgetting_worked, forgetting_work, forgetting_program_of, AtStart, AtUnit, AtUnits, UnitIsKept, start_sum, unit_sum, units_sum, uses_forgetting, IsProgressOutside}
use Rattle.forgotten_locals.proofs.Units.{forgetting_kept, forgetting_same, keeping_is}

no_places : (ps : List UsePlace) → map bare_place ps ≡ [] → ps ≡ []
no_places [] e = refl
no_places (p ∷ ps) e = let q : bare_place p ∷ map bare_place ps ≡ [] = e in absurd cc

-- no macro of the prelude is local
prelude_outside : (m : PreludeMacro) → is_outside (prelude_meaning m.name) ≡ true
prelude_outside m = go (is_standard m.name)
  where
    go : (b : Bool) → is_outside (cond b (Standard m.name) (Global prelude_unit (WrittenIdent prelude_unit m.name))) ≡ true
    go true = refl
    go false = refl

preludes_outside : (ms : List PreludeMacro) → macros_outside (map scoped_prelude_macro ms) ≡ map scoped_prelude_macro ms
preludes_outside [] = refl
preludes_outside (m ∷ ms) =
    ap (λ b. cond b (scoped_prelude_macro m ∷ macros_outside (map scoped_prelude_macro ms)) (macros_outside (map scoped_prelude_macro ms))) (prelude_outside m) ∙ ap (λ ks. scoped_prelude_macro m ∷ ks) (preludes_outside ms)

-- nothing is local before the first unit
before_outside : IsProgressOutside scoped_before scoped_before
before_outside = record { table = refl; macros = ap (map bare_kept) (sym (preludes_outside prelude)); places = refl; definitions = refl; entry = refl; results = refl }

module _ (all : List Placed) (ps : List Prepared) (known : Known) (keep : Keeping) where
  abbrev way : Way
  way = forgetting enough_turns

  abbrev Kept : Prepared → ScopedState → Type 0
  Kept p s = UnitIsKept way known keep p s

  abbrev KeptAnew : Prepared → ScopedState → Type 0
  KeptAnew p s = UnitIsKept (anew enough_turns) known keep p s

  abbrev step : Option Prepared → ScopedProgress → ScopedProgress
  step = forgetting_worked all ps known keep

  -- g is where every form is expanded, and h where what is local is forgotten
  module _ (g h : ScopedProgress) (b : BetweenUnits g) (placed : PlacesDone g) (o : IsProgressOutside g h) where
    -- ---- one unit

    kept_start : (p : Prepared) → is_ready all ps g.results p ≡ true → (f : Option WholeFault) → AtStart all Kept p f h → AtStart all KeptAnew p f g
    kept_start p ready (Some f) k = tt
    kept_start p ready None k = (k.0, (forgetting_kept all ps known g b placed p (new_unit all ps known g p ready) (keep p.number) k.0 h o).0 k.1)

    start_kept : (p : Prepared) → is_ready all ps g.results p ≡ true → (f : Option WholeFault) → AtStart all KeptAnew p f g → AtStart all Kept p f h
    start_kept p ready (Some f) k = tt
    start_kept p ready None k = (k.0, (forgetting_kept all ps known g b placed p (new_unit all ps known g p ready) (keep p.number) k.0 h o).1 k.1)

    unit_after : (p : Prepared) → ForgetsLocals (scoped_unit_over known p (scoped_start_after all p g)) (unit_by way known (keep p.number) (scoped_start_after all p h)) → IsProgressOutside (scoped_by_fault all known p None g) (forgetting_by_fault all known keep p None h)
    unit_after p k =
        let e = k.state in let f = k.result in let r = o.results in let x = o.entry in
        let t = ap (λ (z : ScopedState). z.table) e in
        record {
          table = t;
          macros = ap (λ (z : ScopedState). z.macros) e;
          places = no_places (unit_by way known (keep p.number) (scoped_start_after all p h)).1.places (ap (λ (z : ScopedState). z.places) e);
          definitions = ap (λ (z : ScopedState). z.definitions) e;
          entry = λ j. with_entries p.number (unit_entries all (r j) p).0 (x j);
          results = λ j. unit_result p (unit_entries all (r j) p) (t j) (f j) ∷ r j;
        }

    fault_after : (p : Prepared) → is_ready all ps g.results p ≡ true → (f : Option WholeFault) → AtStart all Kept p f h → IsProgressOutside (scoped_by_fault all known p f g) (forgetting_by_fault all known keep p f h)
    fault_after p ready (Some f) k = record { table = o.table; macros = o.macros; places = o.places; definitions = o.definitions; entry = o.entry; results = ap (λ rs. broken_result p f ∷ rs) o.results }
    fault_after p ready None k = unit_after p (forgetting_same all ps known g b placed p (new_unit all ps known g p ready) (keep p.number) k.0 h o k.1)

    fault_uses : (p : Prepared) → is_ready all ps g.results p ≡ true → (f : Option WholeFault) → AtStart all Kept p f h → start_sum all (uses_forgetting known keep) p f h ≡ unit_not_kept all known keep p f g
    fault_uses p ready (Some f) k = refl
    fault_uses p ready None k =
        let x = forgetting_same all ps known g b placed p (new_unit all ps known g p ready) (keep p.number) k.0 h o k.1 in
        not_kept_same (keep p.number) (scoped_unit_over known p (scoped_start_after all p g)).1 (unit_by way known (keep p.number) (scoped_start_after all p h)).1 (ap (λ (z : ScopedState). z.uses) x.state)

    -- ---- the unit that is ready

    kept_unit : (q : Option Prepared) → OrReady all ps known (is_ready all ps g.results) q → AtUnit all ps Kept q h → AtUnit all ps KeptAnew q g
    kept_unit None r k = tt
    kept_unit (Some p) r k = kept_start p r (fault_before all ps p) k

    unit_kept : (q : Option Prepared) → OrReady all ps known (is_ready all ps g.results) q → AtUnit all ps KeptAnew q g → AtUnit all ps Kept q h
    unit_kept None r k = tt
    unit_kept (Some p) r k = start_kept p r (fault_before all ps p) k

    after : (q : Option Prepared) → OrReady all ps known (is_ready all ps g.results) q → AtUnit all ps Kept q h → IsProgressOutside (scoped_worked all ps known q g) (step q h)
    after None r k = o
    after (Some p) r k = fault_after p r (fault_before all ps p) k

    uses_after : (q : Option Prepared) → OrReady all ps known (is_ready all ps g.results) q → AtUnit all ps Kept q h → unit_sum all ps (uses_forgetting known keep) q h ≡ work_not_kept all ps known keep q g
    uses_after None r k = refl
    uses_after (Some p) r k = fault_uses p r (fault_before all ps p) k

    -- the same unit is the next in both
    next : first_ready (is_ready all ps h.results) ps ≡ first_ready (is_ready all ps g.results) ps
    next = ap (λ rs. first_ready (is_ready all ps rs) ps) o.results

    ready : OrReady all ps known (is_ready all ps g.results) (first_ready (is_ready all ps g.results) ps)
    ready = first_is all ps known (is_ready all ps g.results) ps

    go_on : (r : ScopedProgress → ScopedProgress → Type 0) → AtUnit all ps Kept (first_ready (is_ready all ps h.results) ps) h
        → ((q : Option Prepared) → AtUnit all ps Kept q h → OrReady all ps known (is_ready all ps g.results) q → r (scoped_worked all ps known q g) (step q h))
        → r (scoped_worked all ps known (first_ready (is_ready all ps g.results) ps) g) (step (first_ready (is_ready all ps h.results) ps) h)
    go_on r k law =
        let q = first_ready (is_ready all ps g.results) ps in
        subst (λ (z : Option Prepared). r (scoped_worked all ps known q g) (step z h)) (sym next) (law q (subst (λ (z : Option Prepared). AtUnit all ps Kept z h) next k) ready)

  -- ---- one unit after another

  abbrev first_of : ScopedProgress → Option Prepared
  first_of g = first_ready (is_ready all ps g.results) ps

  abbrev gone : (g : ScopedProgress) → BetweenUnits g → BetweenUnits (scoped_worked all ps known (first_of g) g)
  gone g b = (work_gone all ps known 1 g b).between

  then_outside : (g h : ScopedProgress) (b : BetweenUnits g) (d : PlacesDone g) (o : IsProgressOutside g h) → AtUnit all ps Kept (first_of h) h → IsProgressOutside (scoped_worked all ps known (first_of g) g) (step (first_of h) h)
  then_outside g h b d o k = go_on g h b d o (λ x y. IsProgressOutside x y) k (λ q u r. after g h b d o q r u)

  work_outside : (n : ℕ) (g h : ScopedProgress) → BetweenUnits g → PlacesDone g → IsProgressOutside g h → AtUnits all ps Kept step n h → IsProgressOutside (scoped_work all ps known n g) (forgetting_work all ps known keep n h)
  work_outside zero g h b d o k = o
  work_outside (suc n) g h b d o k = work_outside n (scoped_worked all ps known (first_of g) g) (step (first_of h) h) (gone g b) (work_placed all ps known 1 g d) (then_outside g h b d o k.0) k.1

  work_in : (n : ℕ) (g h : ScopedProgress) → BetweenUnits g → PlacesDone g → IsProgressOutside g h → AtUnits all ps Kept step n h → AtUnits all ps KeptAnew (scoped_worked all ps known) n g
  work_in zero g h b d o k = tt
  work_in (suc n) g h b d o k = (
    kept_unit g h b d o (first_of g) (ready g h b d o) (subst (λ (z : Option Prepared). AtUnit all ps Kept z h) (next g h b d o) k.0),
    work_in n (scoped_worked all ps known (first_of g) g) (step (first_of h) h) (gone g b) (work_placed all ps known 1 g d) (then_outside g h b d o k.0) k.1,
  )

  work_out : (n : ℕ) (g h : ScopedProgress) → BetweenUnits g → PlacesDone g → IsProgressOutside g h → AtUnits all ps KeptAnew (scoped_worked all ps known) n g → AtUnits all ps Kept step n h
  work_out zero g h b d o k = tt
  work_out (suc n) g h b d o k =
      let here = subst (λ (z : Option Prepared). AtUnit all ps Kept z h) (sym (next g h b d o)) (unit_kept g h b d o (first_of g) (ready g h b d o) k.0) in
      (here, work_out n (scoped_worked all ps known (first_of g) g) (step (first_of h) h) (gone g b) (work_placed all ps known 1 g d) (then_outside g h b d o here) k.1)

  work_uses : (n : ℕ) (g h : ScopedProgress) → BetweenUnits g → PlacesDone g → IsProgressOutside g h → AtUnits all ps Kept step n h → units_sum all ps (uses_forgetting known keep) step n h ≡ program_not_kept all ps known keep n g
  work_uses zero g h b d o k = refl
  work_uses (suc n) g h b d o k =
      let e = next g h b d o in
      let a = ap (λ (z : Option Prepared). unit_sum all ps (uses_forgetting known keep) z h) e ∙ uses_after g h b d o (first_of g) (ready g h b d o) (subst (λ (z : Option Prepared). AtUnit all ps Kept z h) e k.0) in
      let rest = work_uses n (scoped_worked all ps known (first_of g) g) (step (first_of h) h) (gone g b) (work_placed all ps known 1 g d) (then_outside g h b d o k.0) k.1 in
      λ j. a j + rest j

  pub progress_outside : (n : ℕ) → AtUnits all ps Kept step n scoped_before → IsProgressOutside (scoped_work all ps known n scoped_before) (forgetting_work all ps known keep n scoped_before)
  progress_outside n k = work_outside n scoped_before scoped_before between_before tt before_outside k

  pub program_kept : (n : ℕ) → AtUnits all ps Kept step n scoped_before ↔ AtUnits all ps KeptAnew (scoped_worked all ps known) n scoped_before
  program_kept n = (work_in n scoped_before scoped_before between_before tt before_outside, work_out n scoped_before scoped_before between_before tt before_outside)

  pub program_uses : (n : ℕ) → AtUnits all ps Kept step n scoped_before → units_sum all ps (uses_forgetting known keep) step n scoped_before ≡ program_not_kept all ps known keep n scoped_before
  program_uses n k = work_uses n scoped_before scoped_before between_before tt before_outside k

  -- ---- where nothing is forgotten

  module _ (g h : ScopedProgress) (b : BetweenUnits g) (placed : PlacesDone g) (alike : SameProgress h g) where
    keeps_start : (p : Prepared) → is_ready all ps g.results p ≡ true → (f : Option WholeFault) → UnitKeeps all known keep p f h ↔ AtStart all KeptAnew p f g
    keeps_start p r (Some f) = ((λ k. tt), (λ k. tt))
    keeps_start p r None =
        let x : map form_of (keep p.number) ≡ forms_over (Written p.number) p.number 0 (forms_at_work p) → UnitKept known enough_turns (keep p.number) (scoped_start_after all p h) ↔ AllKept (anew enough_turns) enough_turns known (keep p.number) (scoped_start_after all p g)
        = λ forms. keeping_is all ps known g b placed p (new_unit all ps known g p r) (keep p.number) forms h alike in
        ((λ k. (k.0, (x k.0).0 k.1)), (λ k. (k.0, (x k.0).1 k.1)))

    keeps_unit : (q : Option Prepared) → OrReady all ps known (is_ready all ps g.results) q → WorkKeeps all ps known keep q h ↔ AtUnit all ps KeptAnew q g
    keeps_unit None r = ((λ k. tt), (λ k. tt))
    keeps_unit (Some p) r = keeps_start p r (fault_before all ps p)

    same_next : first_of h ≡ first_of g
    same_next = ap (λ rs. first_ready (is_ready all ps rs) ps) (sym alike.results)

    first_keeps : WorkKeeps all ps known keep (first_of h) h ↔ AtUnit all ps KeptAnew (first_of g) g
    first_keeps =
        let x = keeps_unit (first_of g) (first_is all ps known (is_ready all ps g.results) ps) in
        ((λ k. x.0 (subst (λ (z : Option Prepared). WorkKeeps all ps known keep z h) same_next k)), (λ k. subst (λ (z : Option Prepared). WorkKeeps all ps known keep z h) (sym same_next) (x.1 k)))

    then_alike : WorkKeeps all ps known keep (first_of h) h → SameProgress (kept_worked all ps known keep (first_of h) h) (scoped_worked all ps known (first_of g) g)
    then_alike k =
        subst (λ (z : Option Prepared). SameProgress (kept_worked all ps known keep z h) (scoped_worked all ps known (first_of g) g)) (sym same_next)
        (worked_alike all ps known keep g h b placed alike (first_of g) (first_is all ps known (is_ready all ps g.results) ps) (subst (λ (z : Option Prepared). WorkKeeps all ps known keep z h) same_next k))

  keeps_in : (n : ℕ) (g h : ScopedProgress) → BetweenUnits g → PlacesDone g → SameProgress h g → ProgramKeeps all ps known keep n h → AtUnits all ps KeptAnew (scoped_worked all ps known) n g
  keeps_in zero g h b d a k = tt
  keeps_in (suc n) g h b d a k =
      ((first_keeps g h b d a).0 k.0, keeps_in n (scoped_worked all ps known (first_of g) g) (kept_worked all ps known keep (first_of h) h) (gone g b) (work_placed all ps known 1 g d) (then_alike g h b d a k.0) k.1)

  keeps_out : (n : ℕ) (g h : ScopedProgress) → BetweenUnits g → PlacesDone g → SameProgress h g → AtUnits all ps KeptAnew (scoped_worked all ps known) n g → ProgramKeeps all ps known keep n h
  keeps_out zero g h b d a k = tt
  keeps_out (suc n) g h b d a k =
      let here = (first_keeps g h b d a).1 k.0 in
      (here, keeps_out n (scoped_worked all ps known (first_of g) g) (kept_worked all ps known keep (first_of h) h) (gone g b) (work_placed all ps known 1 g d) (then_alike g h b d a here) k.1)

  pub program_keeps : (n : ℕ) → ProgramKeeps all ps known keep n scoped_before ↔ AtUnits all ps KeptAnew (scoped_worked all ps known) n scoped_before
  program_keeps n = (keeps_in n scoped_before scoped_before between_before tt (itself scoped_before), keeps_out n scoped_before scoped_before between_before tt (itself scoped_before))

pub whole_program : (ds : List Document) (keep : Keeping) → let all = units_of ds in let ps = prepare all 0 all in let known = known_in ds in
    AtUnits all ps (UnitIsKept (forgetting enough_turns) known keep) (forgetting_worked all ps known keep) (length ps) scoped_before → forgetting_program_of keep ds ≡ program_of ds
whole_program ds keep k =
    let all = units_of ds in let ps = prepare all 0 all in
    let q = progress_outside all ps (known_in ds) keep (length ps) k in
    let a = q.table in let b = q.entry in let c = q.results in
    let e : forgetting_program_of keep ds ≡ scoped_program_of ds = (λ j. record { units = in_order (c j) 0 (length ps); table = a j; entry = b j }) in
    e ∙ program_law ds
