-- A program of which some forms are kept is the program: each unit goes on from a progress that differs in times alone.
use Rattle.std.proofs.Common.{◌≡◌, ℕ, zero, suc, ◌+◌, List, ◌∷◌, length, true, Option, Some, None, refl, sym, ap, ◌∙◌, subst}
use Rattle.scheme_model.specs.Requirements.{Known}
use Rattle.scheme_model.specs.ScopedExpansion.{ScopedState}
use Rattle.scheme_model.specs.Includes.{Document}
use Rattle.scheme_model.specs.IncludedUnits.{Placed}
use Rattle.scheme_model.specs.Program.{known_in, units_of, Prepared, prepare, WholeFault, fault_before, broken_result, unit_result, unit_entries, with_entries, enough_turns, is_ready, first_ready, in_order, program_of}
use Rattle.scheme_model.specs.ScopedProgram.{ScopedProgress, scoped_unit_over, scoped_start_after, scoped_by_fault, scoped_worked, scoped_work, scoped_before, scoped_program_of}
use Rattle.model_laws.proofs.FramePrograms.{work_gone, between_before, program_law, Between as BetweenUnits}
use Rattle.kept_forms.specs.KeptForms.{unit_keeping}
use Rattle.kept_forms.specs.Carried.{SameWork}
use Rattle.kept_forms.specs.KeptPrograms.{Keeping, kept_by_fault, kept_worked, kept_work, kept_program_of, UnitKeeps, WorkKeeps, ProgramKeeps, SameProgress, unit_uses, work_uses, program_worked, unit_not_kept, work_not_kept, program_not_kept}
use Rattle.kept_forms.proofs.Programs.{PlacesDone, work_placed, OrReady, first_is, same_unit, new_unit, uses_worked}

pub itself : (g : ScopedProgress) → SameProgress g g
itself g = record { table = refl; macros = refl; places = refl; definitions = refl; entry = refl; results = refl }

module _ (all : List Placed) (ps : List Prepared) (known : Known) (keep : Keeping) where
  -- after a unit
  unit_after : (g h : ScopedProgress) → SameProgress h g → (p : Prepared) → SameWork (unit_keeping known enough_turns (keep p.number) (scoped_start_after all p h)) (scoped_unit_over known p (scoped_start_after all p g))
      → SameProgress (kept_by_fault all known keep p None h) (scoped_by_fault all known p None g)
  unit_after g h alike p k =
      let e = k.state in let f = k.result in let r = alike.results in let x = alike.entry in
      let t = ap (λ (z : ScopedState). z.table) e in
      record {
        table = t;
        macros = ap (λ (z : ScopedState). z.macros) e;
        places = ap (λ (z : ScopedState). z.places) e;
        definitions = ap (λ (z : ScopedState). z.definitions) e;
        entry = λ j. with_entries p.number (unit_entries all (r j) p).0 (x j);
        results = λ j. unit_result p (unit_entries all (r j) p) (t j) (f j) ∷ r j;
      }

  fault_alike : (g h : ScopedProgress) → BetweenUnits g → PlacesDone g → SameProgress h g → (p : Prepared) → is_ready all ps g.results p ≡ true → (f : Option WholeFault) → UnitKeeps all known keep p f h
      → SameProgress (kept_by_fault all known keep p f h) (scoped_by_fault all known p f g)
  fault_alike g h b placed alike p ready (Some f) k =
      record { table = alike.table; macros = alike.macros; places = alike.places; definitions = alike.definitions; entry = alike.entry; results = ap (λ rs. broken_result p f ∷ rs) alike.results }
  fault_alike g h b placed alike p ready None k = unit_after g h alike p (same_unit all ps known g h b placed alike p (new_unit all ps known g p ready) (keep p.number) k.0 k.1)

  pub worked_alike : (g h : ScopedProgress) → BetweenUnits g → PlacesDone g → SameProgress h g → (o : Option Prepared) → OrReady all ps known (is_ready all ps g.results) o → WorkKeeps all ps known keep o h
      → SameProgress (kept_worked all ps known keep o h) (scoped_worked all ps known o g)
  worked_alike g h b placed alike None r k = alike
  worked_alike g h b placed alike (Some p) r k = fault_alike g h b placed alike p r (fault_before all ps p) k

  work_alike : (n : ℕ) (g h : ScopedProgress) → BetweenUnits g → PlacesDone g → SameProgress h g → ProgramKeeps all ps known keep n h → SameProgress (kept_work all ps known keep n h) (scoped_work all ps known n g)
  work_alike zero g h b placed alike k = alike
  work_alike (suc n) g h b placed alike k =
      let o = first_ready (is_ready all ps g.results) ps in
      let q = first_ready (is_ready all ps h.results) ps in
      let e : o ≡ q = ap (λ rs. first_ready (is_ready all ps rs) ps) alike.results in
      let one = worked_alike g h b placed alike o (first_is all ps known (is_ready all ps g.results) ps) (subst (λ (z : Option Prepared). WorkKeeps all ps known keep z h) (sym e) k.0) in
      let there = subst (λ (z : Option Prepared). SameProgress (kept_worked all ps known keep z h) (scoped_worked all ps known o g)) e one in
      work_alike n (scoped_worked all ps known o g) (kept_worked all ps known keep q h) (work_gone all ps known 1 g b).between (work_placed all ps known 1 g placed) there k.1

  pub progress_alike : (n : ℕ) → ProgramKeeps all ps known keep n scoped_before → SameProgress (kept_work all ps known keep n scoped_before) (scoped_work all ps known n scoped_before)
  progress_alike n k = work_alike n scoped_before scoped_before between_before tt (itself scoped_before) k

  -- ---- the uses that are worked

  fault_uses : (g h : ScopedProgress) → BetweenUnits g → PlacesDone g → SameProgress h g → (p : Prepared) → is_ready all ps g.results p ≡ true → (f : Option WholeFault) → UnitKeeps all known keep p f h → unit_uses all known keep p f h ≡ unit_not_kept all known keep p f g
  fault_uses g h b placed alike p ready (Some f) k = refl
  fault_uses g h b placed alike p ready None k = uses_worked all ps known g h b placed alike p (new_unit all ps known g p ready) (keep p.number) k.0 k.1

  worked_uses : (g h : ScopedProgress) → BetweenUnits g → PlacesDone g → SameProgress h g → (o : Option Prepared) → OrReady all ps known (is_ready all ps g.results) o → WorkKeeps all ps known keep o h → work_uses all ps known keep o h ≡ work_not_kept all ps known keep o g
  worked_uses g h b placed alike None r k = refl
  worked_uses g h b placed alike (Some p) r k = fault_uses g h b placed alike p r (fault_before all ps p) k

  uses_alike : (n : ℕ) (g h : ScopedProgress) → BetweenUnits g → PlacesDone g → SameProgress h g → ProgramKeeps all ps known keep n h → program_worked all ps known keep n h ≡ program_not_kept all ps known keep n g
  uses_alike zero g h b placed alike k = refl
  uses_alike (suc n) g h b placed alike k =
      let o = first_ready (is_ready all ps g.results) ps in
      let q = first_ready (is_ready all ps h.results) ps in
      let e : o ≡ q = ap (λ rs. first_ready (is_ready all ps rs) ps) alike.results in
      let r = first_is all ps known (is_ready all ps g.results) ps in
      let keeps = subst (λ (z : Option Prepared). WorkKeeps all ps known keep z h) (sym e) k.0 in
      let there = subst (λ (z : Option Prepared). SameProgress (kept_worked all ps known keep z h) (scoped_worked all ps known o g)) e (worked_alike g h b placed alike o r keeps) in
      let a = subst (λ (z : Option Prepared). work_uses all ps known keep z h ≡ work_not_kept all ps known keep o g) e (worked_uses g h b placed alike o r keeps) in
      let rest = uses_alike n (scoped_worked all ps known o g) (kept_worked all ps known keep q h) (work_gone all ps known 1 g b).between (work_placed all ps known 1 g placed) there k.1 in
      λ j. a j + rest j

  pub program_uses : (n : ℕ) → ProgramKeeps all ps known keep n scoped_before → program_worked all ps known keep n scoped_before ≡ program_not_kept all ps known keep n scoped_before
  program_uses n k = uses_alike n scoped_before scoped_before between_before tt (itself scoped_before) k

pub whole_program : (ds : List Document) (keep : Keeping) → let all = units_of ds in let ps = prepare all 0 all in ProgramKeeps all ps (known_in ds) keep (length ps) scoped_before → kept_program_of keep ds ≡ program_of ds
whole_program ds keep k =
    let all = units_of ds in let ps = prepare all 0 all in
    let q = progress_alike all ps (known_in ds) keep (length ps) k in
    let a = sym q.table in let b = sym q.entry in let c = sym q.results in
    let e : kept_program_of keep ds ≡ scoped_program_of ds = (λ j. record { units = in_order (c j) 0 (length ps); table = a j; entry = b j }) in
    e ∙ program_law ds
