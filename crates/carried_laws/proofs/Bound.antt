-- Where all carried forms are kept, no more macro uses are worked than the work of the event: form by form, unit by unit.
use Rattle.std.proofs.Common.{◌≡◌, ◌⊎◌, inl, inr, ℕ, zero, suc, ◌+◌, ◌≤◌, List, [], ◌∷◌, ◌++◌, map, length, Bool, true, false, cond, Option, Some, None, Err, refl, sym, ap, ◌∙◌, subst, arith}
use Rattle.std.specs.Prelude.{◌&&◌, ◌==◌}
use Rattle.std.proofs.lemmas.Bool.{eqb-true}
use Rattle.scheme_model.specs.Ident.{Ident}
use Rattle.scheme_model.specs.Trees.{Tree}
use Rattle.scheme_model.specs.Requirements.{Known}
use Rattle.scheme_model.specs.Steps.{Broken}
use Rattle.scheme_model.specs.Substitution.{Clock}
use Rattle.scheme_model.specs.ScopedExpansion.{ScopedState}
use Rattle.scheme_model.specs.IncludedUnits.{Placed}
use Rattle.scheme_model.specs.Program.{known_in, units_of, Prepared, prepare, WholeFault, fault_before, enough_turns, is_ready, first_ready}
use Rattle.scheme_model.specs.ScopedProgram.{ScopedProgress, scoped_unit_over, scoped_start_after, scoped_worked, scoped_before}
use Rattle.model_laws.proofs.FramePrograms.{done, work_gone, between_before, Between as BetweenUnits}
use Rattle.form_laws.specs.Begins.{Each}
use Rattle.kept_forms.specs.KeptForms.{KeptParts, KeptForm, FormOrKept, form_of, unit_keeping}
use Rattle.kept_forms.specs.Carried.{FormFits}
use Rattle.kept_forms.specs.Worked.{rest_of, not_kept, uses_not_kept}
use Rattle.kept_forms.specs.KeptPrograms.{Keeping, kept_worked, UnitKeeps, WorkKeeps, ProgramKeeps, SameProgress, unit_not_kept, work_not_kept, program_not_kept}
use Rattle.kept_forms.proofs.Programs.{PlacesDone, work_placed, OrReady, first_is, distinct, same_unit, new_unit}
use Rattle.kept_forms.proofs.UsesCounted.{Distinct, of_form}
use Rattle.kept_forms.proofs.WholePrograms.{itself, worked_alike}
use Rattle.carried_forms.specs.Worked.{WorkedForm, WorkedUnit, worked_unit, unless_broken, worked_next, worked_units, worked_forms, OpenDocument, read_documents}
use Rattle.carried_forms.specs.Carried.{IsIn, is_among, uses_beside, work_beside, carried, work}
use Rattle.carried_laws.specs.CarriedEntries.{IsWhole, IsKeptWhole, KeepsAll}
use Rattle.carried_laws.proofs.BrokenForms.{KeptAt, broken_uses}
use Rattle.carried_laws.proofs.StayingPrograms.{worked_form, forms_in, unit_forms}

-- ---- forms by their numbers

abbrev beside : List (ℕ × ℕ) → ℕ → Clock → List (ℕ × Tree Ident) → ℕ
beside cs u uses [] = 0
beside cs u uses (t ∷ ts) = cond (is_among cs u t.0) 0 (uses t.0) + beside cs u uses ts

beside_is : (cs : List (ℕ × ℕ)) (u : ℕ) (uses : Clock) (gs : List WorkedForm) → uses_beside cs u uses gs ≡ beside cs u uses (map worked_form gs)
beside_is cs u uses [] = refl
beside_is cs u uses (g ∷ gs) = ap (λ n. cond (is_among cs u g.form) 0 (uses g.form) + n) (beside_is cs u uses gs)

both : (a b : Bool) → (a && b) ≡ true → (a ≡ true) × (b ≡ true)
both true true h = (refl, refl)
both true false h = absurd cc
both false b h = absurd cc

among_in : (cs : List (ℕ × ℕ)) (u f : ℕ) → is_among cs u f ≡ true → IsIn (u, f) cs
among_in [] u f h = absurd cc
among_in (c ∷ cs) u f h = go ((c.0 == u) && (c.1 == f)) refl h (λ k. among_in cs u f k)
  where
    go : (b : Bool) → ((c.0 == u) && (c.1 == f)) ≡ b → cond b true (is_among cs u f) ≡ true → (is_among cs u f ≡ true → IsIn (u, f) cs) → ((u, f) ≡ c) ⊎ IsIn (u, f) cs
    go true e k law = let q = both (c.0 == u) (c.1 == f) e in let a = eqb-true c.0 u q.0 in let b = eqb-true c.1 f q.1 in inl (λ j. (sym a j, sym b j))
    go false e k law = inr (law k)

-- ---- one form

at_most : (o : Option KeptForm) (n : ℕ) → not_kept o n ≤ n
at_most None n = omega arith
at_most (Some k) n = go k.parts
  where
    go : (p : Option KeptParts) → rest_of p k.aside.moment.uses n ≤ n
    go None = omega arith
    go (Some c) = omega arith

-- what is kept of it is at most what it has used
abbrev Told : Option KeptForm → ℕ → Type 0
Told None n = Unit {0}
Told (Some k) n = (e : Broken) → k.aside.pass.left ≡ Err e → n ≤ k.aside.moment.uses

none_left : (o : Option KeptForm) (n : ℕ) → IsKeptWhole o → Told o n → not_kept o n ≤ 0
none_left None n h t = absurd h
none_left (Some k) n h t = go k.parts h
  where
    go : (p : Option KeptParts) → IsWhole k.aside p → rest_of p k.aside.moment.uses n ≤ 0
    go None b = let l = t b.0 b.1 in omega (arith, l)
    go (Some c) b = omega arith

module _ (cs : List (ℕ × ℕ)) (u : ℕ) (t : ScopedState) where
  abbrev Whole : FormOrKept → Type 0
  Whole x = IsIn (u, x.form) cs → IsKeptWhole x.kept

  abbrev AllTold : List FormOrKept → Type 0
  AllTold xs = Each (λ (x : FormOrKept). Told x.kept (t.uses x.form)) xs

  one : (x : FormOrKept) → Whole x → Told x.kept (t.uses x.form) → not_kept x.kept (t.uses x.form) ≤ cond (is_among cs u x.form) 0 (t.uses x.form)
  one x h k = go (is_among cs u x.form) refl
    where
      go : (b : Bool) → is_among cs u x.form ≡ b → not_kept x.kept (t.uses x.form) ≤ cond b 0 (t.uses x.form)
      go true e = none_left x.kept (t.uses x.form) (h (among_in cs u x.form e)) k
      go false e = at_most x.kept (t.uses x.form)

  sum : (xs : List FormOrKept) → Each Whole xs → AllTold xs → uses_not_kept xs t ≤ beside cs u t.uses (map form_of xs)
  sum [] h k = omega arith
  sum (x ∷ xs) h k = let a = one x h.0 k.0 in let b = sum xs h.1 k.1 in omega (arith, a, b)

-- ---- a unit

all_told : (known : Known) (xs : List FormOrKept) (s t : ScopedState) → Distinct of_form xs → Each (λ (x : FormOrKept). FormFits x.kept) xs → ((g : ℕ) → s.uses g ≡ 0) → t.uses ≡ (unit_keeping known enough_turns xs s).1.uses
    → (u : ℕ) (ys : List FormOrKept) → ((g : ℕ) (k : KeptForm) → KeptAt g k ys → KeptAt g k xs) → Each (λ (x : FormOrKept). Told x.kept (t.uses x.form)) ys
all_told known xs s t d f z e u [] sub = tt
all_told known xs s t d f z e u (y ∷ ys) sub = (here y.kept refl, all_told known xs s t d f z e u ys (λ g k h. sub g k (inr h)))
  where
    here : (o : Option KeptForm) → y.kept ≡ o → Told o (t.uses y.form)
    here None q = tt
    here (Some k) q = λ c broken. subst (λ (uses : Clock). uses y.form ≤ k.aside.moment.uses) (sym e) (broken_uses known enough_turns xs s y.form k c broken d f (sub y.form k (inl (refl, q))) (z y.form))

module _ (all : List Placed) (ps : List Prepared) (known : Known) (keep : Keeping) (cs : List (ℕ × ℕ)) (whole : KeepsAll cs keep) where
  joined_work : (us vs : List WorkedUnit) → work_beside cs (us ++ vs) ≡ work_beside cs us + work_beside cs vs
  joined_work [] vs = omega arith
  joined_work (u ∷ us) vs = let rest = joined_work us vs in omega (arith, rest)

  module _ (g h : ScopedProgress) (b : BetweenUnits g) (placed : PlacesDone g) (alike : SameProgress h g) where
    unit_bound : (p : Prepared) → done g.results p.number ≡ false → UnitKeeps all known keep p None h → unit_not_kept all known keep p None g ≤ work_beside cs (worked_unit known p (scoped_start_after all p g) ∷ [])
    unit_bound p new k =
        let xs = keep p.number in let n = p.number in
        let s = scoped_start_after all p h in let t = scoped_start_after all p g in
        let end = (scoped_unit_over known p t).1 in
        let gs = worked_forms known (forms_in all ps known p) t in
        let same = same_unit all ps known g h b placed alike p new xs k.0 k.1 in
        let uses : end.uses ≡ (unit_keeping known enough_turns xs s).1.uses = ap (λ (z : ScopedState). z.uses) same.state in
        let told = all_told known xs s end (distinct all ps known g h b placed alike p new xs k.0) k.1.0 (λ f. refl) uses n xs (λ f c q. q) in
        let a = sum cs n end xs (whole n) told in
        let c : beside cs n end.uses (map form_of xs) ≡ uses_beside cs n end.uses gs = ap (beside cs n end.uses) (k.0 ∙ sym (unit_forms known (forms_in all ps known p) t)) ∙ sym (beside_is cs n end.uses gs) in
        omega (arith, a, c)

    fault_bound : (p : Prepared) → done g.results p.number ≡ false → (f : Option WholeFault) → UnitKeeps all known keep p f h → unit_not_kept all known keep p f g ≤ work_beside cs (unless_broken all known p f g)
    fault_bound p new (Some f) k = omega arith
    fault_bound p new None k = unit_bound p new k

    next_bound : (o : Option Prepared) → OrReady all ps known (is_ready all ps g.results) o → WorkKeeps all ps known keep o h → work_not_kept all ps known keep o g ≤ work_beside cs (worked_next all ps known o g)
    next_bound None r k = omega arith
    next_bound (Some p) r k = fault_bound p (new_unit all ps known g p r) (fault_before all ps p) k

  program_bound : (n : ℕ) (g h : ScopedProgress) → BetweenUnits g → PlacesDone g → SameProgress h g → ProgramKeeps all ps known keep n h → program_not_kept all ps known keep n g ≤ work_beside cs (worked_units all ps known n g)
  program_bound zero g h b placed alike k = omega arith
  program_bound (suc n) g h b placed alike k =
      let o = first_ready (is_ready all ps g.results) ps in
      let q = first_ready (is_ready all ps h.results) ps in
      let e : o ≡ q = ap (λ rs. first_ready (is_ready all ps rs) ps) alike.results in
      let next = scoped_worked all ps known o g in
      let r = first_is all ps known (is_ready all ps g.results) ps in
      let keeps = subst (λ (z : Option Prepared). WorkKeeps all ps known keep z h) (sym e) k.0 in
      let there = subst (λ (z : Option Prepared). SameProgress (kept_worked all ps known keep z h) next) e (worked_alike all ps known keep g h b placed alike o r keeps) in
      let here = next_bound g h b placed alike o r keeps in
      let rest = program_bound n next (kept_worked all ps known keep q h) (work_gone all ps known 1 g b).between (work_placed all ps known 1 g placed) there k.1 in
      let joined = joined_work (worked_next all ps known o g) (worked_units all ps known n next) in
      omega (arith, here, rest, joined)

pub work_bounds : (before after : List OpenDocument) (keep : Keeping) → let ds = read_documents after in let all = units_of ds in let ps = prepare all 0 all in
    ProgramKeeps all ps (known_in ds) keep (length ps) scoped_before → KeepsAll (carried before after) keep → program_not_kept all ps (known_in ds) keep (length ps) scoped_before ≤ work before after
work_bounds before after keep k whole =
    let ds = read_documents after in let all = units_of ds in let ps = prepare all 0 all in
    program_bound all ps (known_in ds) keep (carried before after) whole (length ps) scoped_before scoped_before between_before tt (itself scoped_before) k
