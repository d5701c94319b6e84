-- A form at work is a form of its unit, as its text has it.
use Rattle.std.proofs.Common.{◌≡◌, inl, inr, ℕ, zero, suc, ◌+◌, List, [], ◌∷◌, map, length, Bool, true, false, cond, Option, Some, None, refl, sym, ap, ◌∙◌, subst, arith}
use Rattle.std.specs.Prelude.{◌==◌}
use Rattle.std.proofs.lemmas.Bool.{eqb-true}
use Rattle.std.proofs.lemmas.Option.{same_Some}
use Rattle.scheme_model.specs.Ident.{Ident, Written}
use Rattle.scheme_model.specs.Trees.{Tree, placed_by}
use Rattle.scheme_model.specs.DataTrees.{tree_of}
use Rattle.scheme_model.specs.Declarations.{UnitForm, home_of, is_part_kind}
use Rattle.scheme_model.specs.Requirements.{Known}
use Rattle.scheme_model.specs.ScopedExpansion.{ScopedState}
use Rattle.scheme_model.specs.Includes.{Document}
use Rattle.scheme_model.specs.IncludedUnits.{Placed}
use Rattle.scheme_model.specs.Program.{known_in, units_of, Prepared, prepare, WholeFault, fault_before, is_ready, first_ready, forms_at_work}
use Rattle.scheme_model.specs.ScopedProgram.{ScopedProgress, forms_over, scoped_start_after, scoped_worked, scoped_before}
use Rattle.form_laws.specs.Begins.{Each}
use Rattle.carried_forms.specs.Paired.{FormText}
use Rattle.carried_forms.specs.Worked.{WorkedForm, worked_forms, WorkedUnit, worked_unit, unless_broken, worked_next, worked_units, units_at_work, form_text, form_texts}
use Rattle.carried_forms.specs.Carried.{form_at, worked_at, IsIn}
use Rattle.carried_laws.specs.AtWork.{IsAtWork, AreAtWork}
use Rattle.carried_laws.specs.Homes.{At}
use Rattle.carried_laws.proofs.StayingPrograms.{worked_form, unit_forms, each_joined, program_begins}

-- ---- units by their numbers

prepared_at : (all : List Placed) (k : ℕ) (us : List Placed) (i : ℕ) (p : Prepared) → At (prepare all k us) i p → p.number ≡ k + i
prepared_at all k [] i p h = absurd h
prepared_at all k (u ∷ us) zero p h = ap (λ (z : Prepared). z.number) (sym h) ∙ (let e : k ≡ k + 0 = omega arith in e)
prepared_at all k (u ∷ us) (suc i) p h = prepared_at all (suc k) us i p h ∙ (let e : suc k + i ≡ k + suc i = omega arith in e)

place_in : {X : Type 0} (xs : List X) (x : X) → IsIn x xs → (i : ℕ) × At xs i x
place_in [] x h = absurd h
place_in (y ∷ xs) x (inl e) = (0, sym e)
place_in (y ∷ xs) x (inr h) = let q = place_in xs x h in (suc q.0, q.1)

pub unit_number : (all : List Placed) (i : ℕ) (p : Prepared) → At (prepare all 0 all) i p → p.number ≡ i
unit_number all i p h = prepared_at all 0 all i p h ∙ (let e : 0 + i ≡ i = omega arith in e)

-- ---- forms by their numbers

pub record FormOver (written : List ℕ → Ident) (u k : ℕ) (fs : List UnitForm) (t : ℕ × Tree Ident) : Type 0 where
  pub place : ℕ
  pub form : UnitForm
  pub there : At fs place form
  pub number : t.0 ≡ k + place
  pub tree : t.1 ≡ tree_of written (placed_by (home_of u (k + place) form)) form.datum

over_at : (written : List ℕ → Ident) (u k : ℕ) (fs : List UnitForm) (t : ℕ × Tree Ident) → IsIn t (forms_over written u k fs) → FormOver written u k fs t
over_at written u k [] t h = absurd h
over_at written u k (f ∷ fs) t h = go f.declared h (λ m. over_at written u (suc k) fs t m)
  where
    later : FormOver written u (suc k) fs t → FormOver written u k (f ∷ fs) t
    later q =
        let e : suc k + q.place ≡ k + suc q.place = omega arith in
        record { place = suc q.place; form = q.form; there = q.there; number = q.number ∙ e; tree = q.tree ∙ ap (λ m. tree_of written (placed_by (home_of u m q.form)) q.form.datum) e }

    go : (b : Bool) → IsIn t (cond b (forms_over written u (suc k) fs) ((k, tree_of written (placed_by (home_of u k f)) f.datum) ∷ forms_over written u (suc k) fs)) → (IsIn t (forms_over written u (suc k) fs) → FormOver written u (suc k) fs t) → FormOver written u k (f ∷ fs) t
    go true m law = later (law m)
    go false (inl e) law =
        let d : k ≡ k + 0 = omega arith in
        record { place = 0; form = f; there = refl; number = ap (λ z. z.0) e ∙ d; tree = ap (λ z. z.1) e ∙ ap (λ m. tree_of written (placed_by (home_of u m f)) f.datum) d }
    go false (inr m) law = later (law m)

pub record TextOf (uri_of : ℕ → List ℕ) (u k : ℕ) (fs : List UnitForm) (i : ℕ) (f : FormText) : Type 0 where
  pub form : UnitForm
  pub there : At fs i form
  pub text : form_text uri_of (home_of u (k + i) form) form ≡ f

pub texts_at : (uri_of : ℕ → List ℕ) (u k : ℕ) (fs : List UnitForm) (i : ℕ) (f : FormText) → At (form_texts uri_of u k fs) i f → TextOf uri_of u k fs i f
texts_at uri_of u k [] i f h = absurd h
texts_at uri_of u k (x ∷ fs) zero f h = let e : k + 0 ≡ k = omega arith in record { form = x; there = refl; text = ap (λ m. form_text uri_of (home_of u m x) x) e ∙ h }
texts_at uri_of u k (x ∷ fs) (suc i) f h =
    let q = texts_at uri_of u (suc k) fs i f h in
    let e : k + suc i ≡ suc k + i = omega arith in
    record { form = q.form; there = q.there; text = ap (λ m. form_text uri_of (home_of u m q.form) q.form) e ∙ q.text }

-- ---- units at work

module _ (all : List Placed) (ps : List Prepared) (known : Known) where
  abbrev IsOf : WorkedUnit → Type 0
  IsOf w = (p : Prepared) × IsIn p ps × (s : ScopedState) × (w ≡ worked_unit known p s)

  abbrev OrIn : Option Prepared → List Prepared → Type 0
  OrIn None qs = Unit {0}
  OrIn (Some p) qs = IsIn p qs

  first_in : (f : Prepared → Bool) (qs : List Prepared) → OrIn (first_ready f qs) qs
  first_in f [] = tt
  first_in f (q ∷ qs) = go (f q) (first_ready f qs) (first_in f qs)
    where
      go : (t : Bool) (o : Option Prepared) → OrIn o qs → OrIn (cond t (Some q) o) (q ∷ qs)
      go true o h = inl refl
      go false None h = tt
      go false (Some p) h = inr h

  fault_of : (g : ScopedProgress) (p : Prepared) → IsIn p ps → (f : Option WholeFault) → Each IsOf (unless_broken all known p f g)
  fault_of g p h (Some f) = tt
  fault_of g p h None = ((p, h, scoped_start_after all p g, refl), tt)

  next_of : (g : ScopedProgress) (o : Option Prepared) → OrIn o ps → Each IsOf (worked_next all ps known o g)
  next_of g None h = tt
  next_of g (Some p) h = fault_of g p h (fault_before all ps p)

  units_from : (n : ℕ) (g : ScopedProgress) → Each IsOf (worked_units all ps known n g)
  units_from zero g = tt
  units_from (suc n) g =
      let o = first_ready (is_ready all ps g.results) ps in
      let h = scoped_worked all ps known o g in
      each_joined IsOf (worked_next all ps known o g) (worked_units all ps known n h) (next_of g o (first_in (is_ready all ps g.results) ps)) (units_from n h)

  -- ---- one of their forms

  found : (gs : List WorkedForm) (n : ℕ) (w : WorkedForm) → form_at gs n ≡ Some w → IsIn w gs × (w.form ≡ n)
  found [] n w h = let z : None ≡ Some w = h in absurd cc
  found (g ∷ gs) n w h = go (g.form == n) refl h (λ k. found gs n w k)
    where
      go : (t : Bool) → (g.form == n) ≡ t → cond t (Some g) (form_at gs n) ≡ Some w → (form_at gs n ≡ Some w → IsIn w gs × (w.form ≡ n)) → IsIn w (g ∷ gs) × (w.form ≡ n)
      go true e k law = let d = same_Some g w k in (inl (sym d), ap (λ (z : WorkedForm). z.form) (sym d) ∙ eqb-true g.form n e)
      go false e k law = let q = law k in (inr q.0, q.1)

  in_mapped : (gs : List WorkedForm) (w : WorkedForm) → IsIn w gs → IsIn (worked_form w) (map worked_form gs)
  in_mapped [] w h = absurd h
  in_mapped (g ∷ gs) w (inl e) = inl (ap worked_form e)
  in_mapped (g ∷ gs) w (inr h) = inr (in_mapped gs w h)

  each_in : {X : Type 0} (P : X → Type 0) (xs : List X) → Each P xs → (x : X) → IsIn x xs → P x
  each_in P [] e x h = absurd h
  each_in P (y ∷ xs) e x (inl d) = subst P (sym d) e.0
  each_in P (y ∷ xs) e x (inr h) = each_in P xs e.1 x h

  pub record FormOf (n f : ℕ) (w : WorkedForm) : Type 0 where
    pub unit : Prepared
    pub in_program : IsIn unit ps
    pub number : unit.number ≡ n
    pub form : UnitForm
    pub there : At unit.forms f form
    pub is : w.form ≡ f
    pub tree : w.tree ≡ tree_of (Written n) (placed_by (home_of n f form)) form.datum

  form_over : (p : Prepared) → IsIn p ps → (w : WorkedForm) (f : ℕ) → w.form ≡ f → (b : Bool) → IsIn (worked_form w) (forms_over (Written p.number) p.number 0 (cond b [] p.forms)) → FormOf p.number f w
  form_over p i w f e true h = absurd h
  form_over p i w f e false h =
      let q = over_at (Written p.number) p.number 0 p.forms (worked_form w) h in
      let a = q.number in
      let d : q.place ≡ f = omega (arith, a, e) in
      record {
        unit = p;
        in_program = i;
        number = refl;
        form = q.form;
        there = subst (λ m. At p.forms m q.form) d q.there;
        is = e;
        tree = q.tree ∙ (let c : 0 + q.place ≡ f = omega (arith, d) in ap (λ m. tree_of (Written p.number) (placed_by (home_of p.number m q.form)) q.form.datum) c);
      }

  unit_form : (u : WorkedUnit) → IsOf u → (n f : ℕ) (w : WorkedForm) → u.number ≡ n → form_at u.forms f ≡ Some w → FormOf n f w
  unit_form u h n f w e k =
      let p = h.0 in let ts = forms_over (Written p.number) p.number 0 (forms_at_work p) in
      let forms = ap (λ (z : WorkedUnit). z.forms) h.3 in
      let q = found (worked_forms known ts h.2) f w (ap (λ gs. form_at gs f) (sym forms) ∙ k) in
      let i = subst (IsIn (worked_form w)) (unit_forms known ts h.2) (in_mapped (worked_forms known ts h.2) w q.0) in
      subst (λ m. FormOf m f w) (ap (λ (z : WorkedUnit). z.number) (sym h.3) ∙ e) (form_over p h.1 w f q.1 (is_part_kind p.placed.source.kind) i)

  pub worked_is : (ws : List WorkedUnit) → Each IsOf ws → (n f : ℕ) (w : WorkedForm) → worked_at ws n f ≡ Some w → FormOf n f w
  worked_is [] h n f w k = let z : None ≡ Some w = k in absurd cc
  worked_is (u ∷ ws) h n f w k = go (u.number == n) refl k (λ m. worked_is ws h.1 n f w m)
    where
      go : (t : Bool) → (u.number == n) ≡ t → cond t (form_at u.forms f) (worked_at ws n f) ≡ Some w → (worked_at ws n f ≡ Some w → FormOf n f w) → FormOf n f w
      go true e m law = unit_form u h.0 n f w (eqb-true u.number n e) m
      go false e m law = law m

  pub worked_begins : (ws : List WorkedUnit) → Each AreAtWork ws → (n f : ℕ) (w : WorkedForm) → worked_at ws n f ≡ Some w → IsAtWork n w
  worked_begins [] h n f w k = let z : None ≡ Some w = k in absurd cc
  worked_begins (u ∷ ws) h n f w k = go (u.number == n) refl k (λ m. worked_begins ws h.1 n f w m)
    where
      go : (t : Bool) → (u.number == n) ≡ t → cond t (form_at u.forms f) (worked_at ws n f) ≡ Some w → (worked_at ws n f ≡ Some w → IsAtWork n w) → IsAtWork n w
      go true e m law = subst (λ j. IsAtWork j w) (eqb-true u.number n e) (each_in (IsAtWork u.number) u.forms h.0 w (found u.forms f w m).0)
      go false e m law = law m

-- ---- a program

-- a form at work, with its unit and its text
pub record IsWritten (ds : List Document) (n f : ℕ) (w : WorkedForm) : Type 0 where
  pub unit : Prepared
  pub in_program : let all = units_of ds in At (prepare all 0 all) n unit
  pub form : UnitForm
  pub there : At unit.forms f form
  pub is : w.form ≡ f
  pub tree : w.tree ≡ tree_of (Written n) (placed_by (home_of n f form)) form.datum

pub form_written : (ds : List Document) (n f : ℕ) (w : WorkedForm) → worked_at (units_at_work ds) n f ≡ Some w → IsWritten ds n f w
form_written ds n f w h =
    let all = units_of ds in let ps = prepare all 0 all in
    let q = worked_is all ps (known_in ds) (units_at_work ds) (units_from all ps (known_in ds) (length ps) scoped_before) n f w h in
    let i = place_in ps q.unit q.in_program in
    let e : i.0 ≡ n = sym (unit_number all i.0 q.unit i.1) ∙ q.number in
    record { unit = q.unit; in_program = subst (λ m. At ps m q.unit) e i.1; form = q.form; there = q.there; is = q.is; tree = q.tree }

pub work_begins : (ds : List Document) (n f : ℕ) (w : WorkedForm) → worked_at (units_at_work ds) n f ≡ Some w → IsAtWork n w
work_begins ds n f w h = let all = units_of ds in let ps = prepare all 0 all in worked_begins all ps (known_in ds) (units_at_work ds) (program_begins ds) n f w h
