-- So it is in a program, unit by unit.
use Rattle.std.proofs.Common.{◌≡◌, ℕ, zero, suc, List, [], ◌∷◌, ◌++◌, map, length, false, Option, Some, None, refl, sym, ap, ◌∙◌, subst}
use Rattle.scheme_model.specs.Ident.{Ident, Written}
use Rattle.scheme_model.specs.Trees.{Tree}
use Rattle.scheme_model.specs.Requirements.{Known}
use Rattle.scheme_model.specs.Order.{Note}
use Rattle.scheme_model.specs.FormsAlike.{set_aside, finish}
use Rattle.scheme_model.specs.ScopedExpansion.{FramedIdent, ScopedState}
use Rattle.scheme_model.specs.Includes.{Document}
use Rattle.scheme_model.specs.IncludedUnits.{Placed}
use Rattle.scheme_model.specs.Program.{known_in, units_of, Prepared, prepare, WholeFault, fault_before, enough_turns, is_ready, first_ready, forms_at_work}
use Rattle.scheme_model.specs.ScopedProgram.{ScopedProgress, forms_over, scoped_start_after, scoped_worked, scoped_before}
use Rattle.model_laws.proofs.FrameAsks.{AllOf}
use Rattle.model_laws.proofs.FrameLeaves.{TreeAll}
use Rattle.model_laws.proofs.FrameUnit.{UnitLeaf}
use Rattle.model_laws.proofs.FramePrograms.{done, coming, work_gone, between_before, Between as BetweenUnits}
use Rattle.form_laws.specs.Begins.{Each}
use Rattle.kept_forms.specs.KeptForms.{FormOrKept, form_of, counts_at}
use Rattle.kept_forms.specs.Carried.{no_counts}
use Rattle.kept_forms.specs.KeptPrograms.{Keeping, kept_worked, UnitKeeps, WorkKeeps, ProgramKeeps, SameProgress}
use Rattle.kept_forms.proofs.Programs.{PlacesDone, work_placed, OrReady, first_is, starts_alike, between, held, distinct, new_unit}
use Rattle.kept_forms.proofs.UsesCounted.{Not, Distinct, of_form}
use Rattle.kept_forms.proofs.WholePrograms.{itself, worked_alike}
use Rattle.carried_forms.specs.Worked.{WorkedForm, GoneForm, around_form, gone_through, gone_on, worked_forms, WorkedUnit, worked_unit, unless_broken, worked_next, worked_units, units_at_work}
use Rattle.carried_laws.specs.Entries.{FormsStay, UnitsStay}
use Rattle.carried_laws.specs.AtWork.{IsAtWork, AreAtWork}
use Rattle.carried_laws.proofs.AtWork.{of_tree, forms_at_work as forms_begin}
use Rattle.carried_laws.proofs.Staying.{unit_stays}

-- ---- forms of which nothing is kept

abbrev pub anew : List (ℕ × Tree Ident) → List FormOrKept
anew ts = map (λ t. record { form = t.0; tree = t.1; kept = None }) ts

pub anew_forms : (ts : List (ℕ × Tree Ident)) → map form_of (anew ts) ≡ ts
anew_forms [] = refl
anew_forms (t ∷ ts) = ap (λ us. t ∷ us) (anew_forms ts)

all_anew : (P : Tree Ident → Type 0) (ts : List (ℕ × Tree Ident)) → AllOf (λ (x : FormOrKept). P x.tree) (anew ts) → AllOf (λ t. P t.1) ts
all_anew P [] h = tt
all_anew P (t ∷ ts) h = (h.0, all_anew P ts h.1)

not_anew : (g : ℕ) (ts : List (ℕ × Tree Ident)) → Not of_form g (anew ts) → Not of_tree g ts
not_anew g [] h = tt
not_anew g (t ∷ ts) h = (h.0, not_anew g ts h.1)

pub distinct_anew : (ts : List (ℕ × Tree Ident)) → Distinct of_form (anew ts) → Distinct of_tree ts
distinct_anew [] h = tt
distinct_anew (t ∷ ts) h = (not_anew t.0 ts h.0, distinct_anew ts h.1)

new_all : (s : ScopedState) → ((f : ℕ) → counts_at f s ≡ no_counts) → (ts : List (ℕ × Tree Ident)) → AllOf (λ (t : ℕ × Tree Ident). counts_at t.0 s ≡ no_counts) ts
new_all s e [] = tt
new_all s e (t ∷ ts) = (e t.0, new_all s e ts)

-- ---- the forms of which something is kept are those of the unit

abbrev gone_form : GoneForm → ℕ × Tree Ident
gone_form g = (g.form, g.tree)

abbrev pub worked_form : WorkedForm → ℕ × Tree Ident
worked_form g = (g.form, g.tree)

gone_forms : (known : Known) (ts : List (ℕ × Tree Ident)) (ns : List (Note FramedIdent)) (s : ScopedState) → map gone_form (gone_through known ts ns s).0 ≡ ts
gone_forms known [] ns s = refl
gone_forms known (t ∷ ts) ns s = let q = set_aside (around_form known ns s t.0) enough_turns t.1 in ap (λ us. t ∷ us) (gone_forms known ts q.0.notes q.1)

on_forms : (known : Known) (gs : List GoneForm) (s : ScopedState) → map worked_form (gone_on known gs s) ≡ map gone_form gs
on_forms known [] s = refl
on_forms known (g ∷ gs) s = ap (λ us. (g.form, g.tree) ∷ us) (on_forms known gs (finish (around_form known [] s g.form) enough_turns g.left).1)

same_forms : (n : ℕ) (xs : List FormOrKept) (gs : List WorkedForm) → FormsStay n xs gs → map form_of xs ≡ map worked_form gs
same_forms n [] [] h = refl
same_forms n [] (g ∷ gs) h = absurd h
same_forms n (x ∷ xs) [] h = absurd h
same_forms n (x ∷ xs) (g ∷ gs) h = let a = h.0 in let b = same_forms n xs gs h.2 in λ j. a j ∷ b j

pub unit_forms : (known : Known) (ts : List (ℕ × Tree Ident)) (s : ScopedState) → map worked_form (worked_forms known ts s) ≡ ts
unit_forms known ts s = let q = gone_through known ts [] s in on_forms known q.0 q.1 ∙ gone_forms known ts [] s

pub kept_forms_are : (known : Known) (n : ℕ) (xs : List FormOrKept) (ts : List (ℕ × Tree Ident)) (s : ScopedState) → FormsStay n xs (worked_forms known ts s) → map form_of xs ≡ ts
kept_forms_are known n xs ts s h = same_forms n xs (worked_forms known ts s) h ∙ unit_forms known ts s

pub each_joined : {X : Type 0} (P : X → Type 0) (xs ys : List X) → Each P xs → Each P ys → Each P (xs ++ ys)
each_joined P [] ys h k = k
each_joined P (x ∷ xs) ys h k = (h.0, each_joined P xs ys h.1 k)

module _ (all : List Placed) (ps : List Prepared) (known : Known) where
  abbrev pub forms_in : Prepared → List (ℕ × Tree Ident)
  forms_in p = forms_over (Written p.number) p.number 0 (forms_at_work p)

  -- ---- each form of each unit begins

  module _ (g : ScopedProgress) (b : BetweenUnits g) (placed : PlacesDone g) where
    pub unit_begins : (p : Prepared) → done g.results p.number ≡ false → AreAtWork (worked_unit known p (scoped_start_after all p g))
    unit_begins p new =
        let ts = forms_in p in let xs = anew ts in let e = anew_forms ts in
        let s = scoped_start_after all p g in
        let w = coming g.results p.number in
        forms_begin w known ts s (between all ps known g g b placed (itself g) p new xs e)
        (all_anew (λ (x : Tree Ident). TreeAll (UnitLeaf w known s) x) ts (held all ps known g g b placed (itself g) p new xs e))
        (distinct_anew ts (distinct all ps known g g b placed (itself g) p new xs e)) (new_all s (λ f. refl) ts)

    fault_begins : (p : Prepared) → done g.results p.number ≡ false → (f : Option WholeFault) → Each AreAtWork (unless_broken all known p f g)
    fault_begins p new (Some f) = tt
    fault_begins p new None = (unit_begins p new, tt)

    next_begins : (o : Option Prepared) → OrReady all ps known (is_ready all ps g.results) o → Each AreAtWork (worked_next all ps known o g)
    next_begins None r = tt
    next_begins (Some p) r = fault_begins p (new_unit all ps known g p r) (fault_before all ps p)

  pub units_begin : (n : ℕ) (g : ScopedProgress) → BetweenUnits g → PlacesDone g → Each AreAtWork (worked_units all ps known n g)
  units_begin zero g b placed = tt
  units_begin (suc n) g b placed =
      let o = first_ready (is_ready all ps g.results) ps in
      let h = scoped_worked all ps known o g in
      each_joined AreAtWork (worked_next all ps known o g) (worked_units all ps known n h) (next_begins g b placed o (first_is all ps known (is_ready all ps g.results) ps))
      (units_begin n h (work_gone all ps known 1 g b).between (work_placed all ps known 1 g placed))

  -- ---- what stays may be kept

  module _ (keep : Keeping) where
    module _ (g h : ScopedProgress) (b : BetweenUnits g) (placed : PlacesDone g) (alike : SameProgress h g) where
      unit_keeps : (p : Prepared) → done g.results p.number ≡ false → FormsStay p.number (keep p.number) (worked_unit known p (scoped_start_after all p g)).forms → UnitKeeps all known keep p None h
      unit_keeps p new k =
          let xs = keep p.number in let ts = forms_in p in let t = scoped_start_after all p g in
          let e = kept_forms_are known p.number xs ts t k in (
            e,
            unit_stays known p.number xs (scoped_start_after all p h) t (starts_alike all ps known g h b placed alike p) (distinct all ps known g h b placed alike p new xs e)
                (subst (λ (us : List (ℕ × Tree Ident)). Each (IsAtWork p.number) (worked_forms known us t)) (sym e) (unit_begins g b placed p new))
                (subst (λ (us : List (ℕ × Tree Ident)). FormsStay p.number xs (worked_forms known us t)) (sym e) k),
          )

      fault_keeps : (p : Prepared) → done g.results p.number ≡ false → (f : Option WholeFault) (rest : List WorkedUnit) → UnitsStay keep (unless_broken all known p f g ++ rest) → UnitKeeps all known keep p f h × UnitsStay keep rest
      fault_keeps p new (Some f) rest k = (tt, k)
      fault_keeps p new None rest k = (unit_keeps p new k.0, k.1)

      one_keeps : (o : Option Prepared) → OrReady all ps known (is_ready all ps g.results) o → (rest : List WorkedUnit) → UnitsStay keep (worked_next all ps known o g ++ rest) → WorkKeeps all ps known keep o h × UnitsStay keep rest
      one_keeps None r rest k = (tt, k)
      one_keeps (Some p) r rest k = fault_keeps p (new_unit all ps known g p r) (fault_before all ps p) rest k

    program_keeps : (n : ℕ) (g h : ScopedProgress) → BetweenUnits g → PlacesDone g → SameProgress h g → UnitsStay keep (worked_units all ps known n g) → ProgramKeeps all ps known keep n h
    program_keeps zero g h b placed alike k = tt
    program_keeps (suc n) g h b placed alike k =
        let o = first_ready (is_ready all ps g.results) ps in
        let q = first_ready (is_ready all ps h.results) ps in
        let e : o ≡ q = ap (λ rs. first_ready (is_ready all ps rs) ps) alike.results in
        let next = scoped_worked all ps known o g in
        let r = first_is all ps known (is_ready all ps g.results) ps in
        let a = one_keeps g h b placed alike o r (worked_units all ps known n next) k in
        let there = subst (λ (z : Option Prepared). SameProgress (kept_worked all ps known keep z h) next) e (worked_alike all ps known keep g h b placed alike o r a.0) in (
          subst (λ (z : Option Prepared). WorkKeeps all ps known keep z h) e a.0,
          program_keeps n next (kept_worked all ps known keep q h) (work_gone all ps known 1 g b).between (work_placed all ps known 1 g placed) there a.1,
        )

    pub stays_keeps : (n : ℕ) → UnitsStay keep (worked_units all ps known n scoped_before) → ProgramKeeps all ps known keep n scoped_before
    stays_keeps n k = program_keeps n scoped_before scoped_before between_before tt (itself scoped_before) k

pub program_begins : (ds : List Document) → Each AreAtWork (units_at_work ds)
program_begins ds = let all = units_of ds in let ps = prepare all 0 all in units_begin all ps (known_in ds) (length ps) scoped_before between_before tt
