-- Work goes through each unit that has a carried form, and all its carried forms are kept whole.
use Rattle.std.proofs.Common.{◌≡◌, inl, inr, ℕ, zero, suc, ◌+◌, ◌<◌, ◌==◌, List, [], ◌∷◌, map, length, Bool, true, false, cond, Option, Some, None, refl, sym, ap, ◌∙◌, subst, arith, eqb-true}
use Rattle.scheme_model.specs.Ident.{Ident, Written}
use Rattle.scheme_model.specs.Trees.{Tree}
use Rattle.scheme_model.specs.Requirements.{Known}
use Rattle.scheme_model.specs.Entries.{Entry}
use Rattle.scheme_model.specs.Substitution.{Table}
use Rattle.scheme_model.specs.UnitExpansion.{Formed}
use Rattle.scheme_model.specs.ScopedExpansion.{ScopedState}
use Rattle.scheme_model.specs.Includes.{Document}
use Rattle.scheme_model.specs.IncludedUnits.{Placed}
use Rattle.scheme_model.specs.Program.{Prepared, SetResult, UnitResult, known_in, units_of, prepare, unit_result, unit_entries, fault_before, is_ready, first_ready, result_at, enough_turns, forms_at_work}
use Rattle.scheme_model.specs.ScopedProgram.{ScopedProgress, forms_over, scoped_start_after, scoped_unit_over, scoped_work, scoped_before}
use Rattle.form_laws.specs.Begins.{Each}
use Rattle.kept_forms.specs.KeptForms.{FormOrKept, form_of}
use Rattle.kept_forms.specs.KeptPrograms.{Keeping}
use Rattle.kept_forms.proofs.Programs.{between_at, placed_at, new_unit}
use Rattle.forgotten_locals.specs.Ways.{forgetting, unit_by, AtTurns, AllKept}
use Rattle.forgotten_locals.specs.Programs.{IsProgressOutside}
use Rattle.forgotten_locals.proofs.Units.{forgetting_same}
use Rattle.carried_forms.specs.Worked.{WorkedForm, WorkedUnit, OpenDocument, read_documents, worked_forms, units_at_work, is_broken, unit_text, unit_texts}
use Rattle.carried_forms.specs.Carried.{IsIn, IsCarried, form_at, worked_at, carried}
use Rattle.carried_forms.proofs.CarriedLaws.{carried_only}
use Rattle.carried_forms.proofs.UnitLaws.{key_told}
use Rattle.carried_laws.specs.CarriedEntries.{IsKeptWhole, KeepsAll}
use Rattle.carried_laws.specs.CarriedOver.{pairs_between, numbers_between}
use Rattle.carried_laws.specs.Entries.{HasAnswers}
use Rattle.carried_laws.specs.Homes.{At}
use Rattle.carried_laws.proofs.Places.{mapped_at}
use Rattle.carried_laws.proofs.PairsSend.{pairs_found}
use Rattle.carried_laws.proofs.CarriedOver.{both_there}
use Rattle.carried_laws.proofs.StayingPrograms.{unit_forms, worked_form}
use Rattle.answers_at_turns.specs.Had.{Had, KeepsFirst, KeepsLater, AreKept, HadStands}
use Rattle.answers_at_turns.proofs.WholeUnits.{same_form, kept_whole, is_mapped, mapped_from, one_of}
use Rattle.carried_units.specs.Entries.{HasEntry, CarriedHave}
use Rattle.carried_units.proofs.Results.{is_first, result_stays}

pub numbered_at : (all : List Placed) (k : ℕ) (us : List Placed) (i : ℕ) (p : Prepared) → At (prepare all k us) i p → p.number ≡ k + i
numbered_at all k [] i p h = absurd h
numbered_at all k (u ∷ us) zero p h = let e = ap (λ (z : Prepared). z.number) h in omega (arith, e)
numbered_at all k (u ∷ us) (suc i) p h = let e = numbered_at all (suc k) us i p h in omega (arith, e)

pub each_in : {X : Type 0} (P : X → Type 0) (xs : List X) → ((x : X) → IsIn x xs → P x) → Each P xs
each_in P [] f = tt
each_in P (x ∷ xs) f = (f x (inl refl), each_in P xs (λ y i. f y (inr i)))

-- a unit that came to something wasn't ended
pub not_ended : (p : Prepared) (i : List Entry × List SetResult) (t : Table) (o : Option (List Formed)) → is_broken (Some (unit_result p i t o)) ≡ false → (fs : List Formed) × (o ≡ Some fs)
not_ended p i t None h = let z : true ≡ false = h in absurd cc
not_ended p i t (Some fs) h = (fs, refl)

pub given_too : (q : Option (List Formed) × ScopedState) (fs : List Formed) → q.0 ≡ Some fs → q ≡ (Some fs, q.1)
given_too q fs e = λ j. (e j, q.1)

module _ (before after : List OpenDocument) where
  abbrev ds : List Document
  ds = read_documents after

  abbrev all : List Placed
  all = units_of ds

  abbrev ps : List Prepared
  ps = prepare all 0 all

  abbrev known : Known
  known = known_in ds

  abbrev rs : List UnitResult
  rs = (scoped_work all ps known (length ps) scoped_before).results

  abbrev vs : List WorkedUnit
  vs = units_at_work ds

  is_carried : (c : ℕ × ℕ) → IsIn c (carried before after) → IsCarried (numbers_between before after) (units_at_work (read_documents before)) vs (pairs_between before after) c
  is_carried c i = carried_only (numbers_between before after) (units_at_work (read_documents before)) vs (pairs_between before after) c i

  not_broken : (u f : ℕ) → IsIn (u, f) (carried before after) → is_broken (result_at rs u) ≡ false
  not_broken u f i =
      let c = is_carried (u, f) i in
      let found = pairs_found 0 (unit_texts before) (unit_texts after) c.unit c.goes_on in
      let g = found.from in
      let z = mapped_at (unit_text after rs) ps g.place g.unit g.there in
      let number : z.0.number ≡ u = (let a = numbered_at all 0 all g.place z.0 z.1 in let b = g.after in let d = ap (λ (x : ℕ × ℕ). x.0) c.is in omega (arith, a, b, d)) in
      ap (λ m. is_broken (result_at rs m)) (sym number) ∙ ap (λ x. x.broken) z.2 ∙ (key_told found.unit g.unit g.same).there

  module _ (n : ℕ) (p : Prepared) (within : n < length ps) (first : first_ready (is_ready all ps (scoped_work all ps known n scoped_before).results) ps ≡ Some p) (fault : fault_before all ps p ≡ None) where
    abbrev a : ScopedProgress
    a = scoped_work all ps known n scoped_before

    abbrev t : ScopedState
    t = scoped_start_after all p a

    pub unit_went : (f : ℕ) → IsIn (p.number, f) (carried before after) → (fs : List Formed) × ((scoped_unit_over known p t).0 ≡ Some fs)
    unit_went f i = (let q = scoped_unit_over known p t in not_ended p (unit_entries all a.results p) q.1.table q.0 (ap is_broken (sym (result_stays all ps known n (length ps) within p first fault)) ∙ not_broken p.number f i))

    module _ (h : ScopedProgress) (xs : List FormOrKept) (o : IsProgressOutside a h) (forms : map form_of xs ≡ forms_over (Written p.number) p.number 0 (forms_at_work p)) (k : AllKept (forgetting enough_turns) enough_turns known xs (scoped_start_after all p h)) where
      abbrev s : ScopedState
      s = scoped_start_after all p h

      abbrev ts : List (ℕ × Tree Ident)
      ts = forms_over (Written p.number) p.number 0 (forms_at_work p)

      abbrev gs : List WorkedForm
      gs = worked_forms known ts t

      ready : is_ready all ps a.results p ≡ true
      ready = is_first all ps known n (length ps) within p first fault

      went_there : (f : ℕ) → IsIn (p.number, f) (carried before after) → (fs : List Formed) × (unit_by (forgetting enough_turns) known xs s ≡ (Some fs, (unit_by (forgetting enough_turns) known xs s).1))
      went_there f i =
          let w = unit_went f i in
          let same = forgetting_same all ps known a (between_at all ps known n) (placed_at all ps known n) p (new_unit all ps known a p ready) xs forms h o k in
          (w.0, given_too (unit_by (forgetting enough_turns) known xs s) w.0 (same.result ∙ w.1))

      worked_there : (x : FormOrKept) → IsIn x xs → (g : WorkedForm) × IsIn g gs × (g.form ≡ x.form)
      worked_there x i =
          let z = mapped_from worked_form gs (form_of x) (subst (IsIn (form_of x)) (forms ∙ sym (unit_forms known ts t)) (is_mapped form_of xs x i)) in
          (z.0, z.1, ap (λ (y : ℕ × Tree Ident). y.0) (sym z.2))

      pub unit_whole : (had : ℕ → Option Had) (kept_first : ℕ → Bool) → AreKept kept_first xs → AtTurns (KeepsFirst had) (KeepsLater had kept_first) (forgetting enough_turns) known xs s → CarriedHave before after p.number s.program had gs →
          Each (λ (x : FormOrKept). IsIn (p.number, x.form) (carried before after) → IsKeptWhole x.kept) xs
      unit_whole had kept_first are turns has = each_in (λ (x : FormOrKept). IsIn (p.number, x.form) (carried before after) → IsKeptWhole x.kept) xs (λ x i c. one x i c)
        where
          one : (x : FormOrKept) → IsIn x xs → IsIn (p.number, x.form) (carried before after) → IsKeptWhole x.kept
          one x i c =
              let w = went_there x.form c in let y = worked_there x i in let g = y.0 in let e = y.2 in
              let b = one_of (λ (z : WorkedForm). IsIn (p.number, z.form) (carried before after) → HasEntry p.number s.program had z) gs has g y.1 (subst (λ m. IsIn (p.number, m) (carried before after)) (sym e) c) in
              let tree = same_form all ps known n h p xs o ready forms k x i g y.1 e in
              kept_whole all ps known n h p xs o ready forms k had w.0 (unit_by (forgetting enough_turns) known xs s).1 w.1 x i g y.1 e b.entry (ap had (sym e) ∙ b.there)
              (subst (λ (z : ℕ × Tree Ident). HadStands p.number s.program z b.entry) (sym tree) b.stands) kept_first are turns
              (subst (λ (z : ℕ × Tree Ident). HasAnswers z b.entry.kept b.entry.first b.entry.later g) (sym tree) b.answers)

  -- ---- all units

  unit_of : (ws : List WorkedUnit) (u f : ℕ) (g : WorkedForm) → worked_at ws u f ≡ Some g → (w : WorkedUnit) × IsIn w ws × (w.number ≡ u)
  unit_of [] u f g e = let z : None ≡ Some g = e in absurd cc
  unit_of (w ∷ ws) u f g e = go (w.number == u) refl e (λ d. unit_of ws u f g d)
    where
      go : (b : Bool) → (w.number == u) ≡ b → cond b (form_at w.forms f) (worked_at ws u f) ≡ Some g → (worked_at ws u f ≡ Some g → (x : WorkedUnit) × IsIn x ws × (x.number ≡ u)) → (x : WorkedUnit) × IsIn x (w ∷ ws) × (x.number ≡ u)
      go true q k rest = (w, inl refl, eqb-true w.number u q)
      go false q k rest = let z = rest k in (z.0, inr z.1, z.2)

  abbrev pub Whole : ℕ → FormOrKept → Type 0
  Whole u x = IsIn (u, x.form) (carried before after) → IsKeptWhole x.kept

  pub all_whole : (keep : Keeping) → Each (λ (w : WorkedUnit). Each (Whole w.number) (keep w.number)) vs → KeepsAll (carried before after) keep
  all_whole keep h n = each_in (Whole n) (keep n) (λ x i c. one x i c)
    where
      one : (x : FormOrKept) → IsIn x (keep n) → IsIn (n, x.form) (carried before after) → IsKeptWhole x.kept
      one x i c =
          let d = is_carried (n, x.form) c in
          let alike = both_there (numbers_between before after) (worked_at (units_at_work (read_documents before)) d.unit.before d.forms.0) (worked_at vs d.unit.after d.forms.1) d.alike in
          let w = unit_of vs d.unit.after d.forms.1 alike.other alike.there in
          let number : w.0.number ≡ n = w.2 ∙ sym (ap (λ (z : ℕ × ℕ). z.0) d.is) in
          let each = one_of (λ (w : WorkedUnit). Each (Whole w.number) (keep w.number)) vs h w.0 w.1 in
          one_of (Whole n) (keep n) (subst (λ m. Each (Whole m) (keep m)) number each) x i c
