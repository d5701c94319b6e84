-- Each unit of a program begins so that its forms may be kept, whatever was worked on before it.
use Rattle.std.proofs.Common.{◌≡◌, ℕ, zero, suc, ◌+◌, ◌≤◌, List, [], ◌∷◌, map, Bool, true, false, cond, ltb, arith, Option, Some, None, refl, sym, ap, ◌∙◌, subst}
use Rattle.std.specs.Prelude.{◌==◌, ◌||◌}
use Rattle.std.proofs.lemmas.Bool.{false_from_ne_true}
use Rattle.std.proofs.lemmas.Bool.Decides.{nat_tests}
use Rattle.scheme_model.specs.Identifiers.{Number}
use Rattle.scheme_model.specs.Ident.{Ident, Written}
use Rattle.scheme_model.specs.Trees.{Tree, placed_by}
use Rattle.scheme_model.specs.DataTrees.{tree_of}
use Rattle.scheme_model.specs.Declarations.{UnitForm, home_of}
use Rattle.scheme_model.specs.Requirements.{Known}
use Rattle.scheme_model.specs.Order.{is_some}
use Rattle.scheme_model.specs.UnitExpansion.{Formed, unit}
use Rattle.scheme_model.specs.Substitution.{Table, Entries}
use Rattle.scheme_model.specs.ScopedExpansion.{UsePlace, ScopedState}
use Rattle.scheme_model.specs.CountedExpansion.{counted}
use Rattle.scheme_model.specs.Questions.{Moment}
use Rattle.scheme_model.specs.FormsAlike.{bare_state}
use Rattle.scheme_model.specs.Entries.{Entry}
use Rattle.scheme_model.specs.IncludedUnits.{Placed}
use Rattle.scheme_model.specs.Program.{Prepared, WholeFault, fault_before, SetResult, UnitResult, result_at, unit_entries, with_entries, enough_turns, broken_result, unit_result, is_ready, first_ready, is_program, forms_at_work}
use Rattle.scheme_model.specs.ScopedProgram.{ScopedProgress, forms_over, scoped_start_of, scoped_unit_over, scoped_start_after, scoped_by_fault, scoped_worked, scoped_work, scoped_before}
use Rattle.model_laws.proofs.FrameEras.{Era, Worked, Before}
use Rattle.model_laws.proofs.FrameAsks.{AllOf, all_of_more}
use Rattle.model_laws.proofs.EntryLaws.{NoLocal, unit_entries_fit}
use Rattle.model_laws.proofs.FrameLeaves.{TreeAll}
use Rattle.model_laws.proofs.UnitEnds.{OnWork}
use Rattle.model_laws.proofs.FrameUnit.{UnitLeaf}
use Rattle.model_laws.proofs.FrameUnits.{FormHeld}
use Rattle.model_laws.proofs.FrameBetween.{none_yet}
use Rattle.model_laws.proofs.FramePrograms.{done, coming, locals_none, start_unit, forms_held, not_done, work_gone, between_before, Between as BetweenUnits}
use Rattle.kept_forms.specs.KeptForms.{FormOrKept, form_of, unit_keeping, counts_at}
use Rattle.form_laws.specs.Begins.{Each}
use Rattle.kept_forms.specs.Carried.{Onwards, UnitKept, UnitBegins, SameWork, no_counts}
use Rattle.kept_forms.specs.KeptPrograms.{SameProgress}
use Rattle.kept_forms.specs.Worked.{unit_worked, not_kept, uses_not_kept, UsesTold}
use Rattle.kept_forms.proofs.Uses.{IsPlaced, unit_placed}
use Rattle.kept_forms.proofs.Between.{Between}
use Rattle.kept_forms.proofs.KeptUnits.{unit_like, unit_begins}
use Rattle.kept_forms.proofs.UsesCounted.{Not, Distinct, of_form}
use Rattle.kept_forms.proofs.Ready.{AllNew}
use Rattle.kept_forms.proofs.WorkedLaw.{Zero, worked_law, told_law}

-- ---- forms of units have numbers of their own

abbrev number_of : ℕ × Tree Ident → ℕ
number_of t = t.0

module _ (written : List ℕ → Ident) (u : ℕ) where
  from_here : (fs : List UnitForm) (k form : ℕ) → k ≤ form → AllOf (λ (t : ℕ × Tree Ident). k ≤ t.0) (forms_over written u form fs)
  from_here [] k form le = tt
  from_here (x ∷ fs) k form le = go x.declared (from_here fs k (suc form) (omega (arith, le)))
    where
      go : (b : Bool) → AllOf (λ (t : ℕ × Tree Ident). k ≤ t.0) (forms_over written u (suc form) fs)
          → AllOf (λ (t : ℕ × Tree Ident). k ≤ t.0) (cond b (forms_over written u (suc form) fs) ((form, tree_of written (placed_by (home_of u form x)) x.datum) ∷ forms_over written u (suc form) fs))
      go true h = h
      go false h = (le, h)

  forms_distinct : (fs : List UnitForm) (form : ℕ) → Distinct number_of (forms_over written u form fs)
  forms_distinct [] form = tt
  forms_distinct (x ∷ fs) form = go x.declared (forms_distinct fs (suc form))
    where
      go : (b : Bool) → Distinct number_of (forms_over written u (suc form) fs) → Distinct number_of (cond b (forms_over written u (suc form) fs) ((form, tree_of written (placed_by (home_of u form x)) x.datum) ∷ forms_over written u (suc form) fs))
      go true h = h
      go false h =
          (all_of_more (λ (t : ℕ × Tree Ident). suc form ≤ t.0) (λ (t : ℕ × Tree Ident). form ≡ t.0 → ⊥) (λ t le e. omega (arith, le, e)) (forms_over written u (suc form) fs) (from_here fs (suc form) (suc form) (omega arith)), h)

not_among : (g : ℕ) (xs : List FormOrKept) → Not number_of g (map form_of xs) → Not of_form g xs
not_among g [] h = tt
not_among g (x ∷ xs) h = (h.0, not_among g xs h.1)

distinct_forms : (xs : List FormOrKept) → Distinct number_of (map form_of xs) → Distinct of_form xs
distinct_forms [] h = tt
distinct_forms (x ∷ xs) h = (not_among x.form xs h.0, distinct_forms xs h.1)

-- ---- what is told of the same work

pub not_kept_same : (xs : List FormOrKept) (s t : ScopedState) → t.uses ≡ s.uses → uses_not_kept xs t ≡ uses_not_kept xs s
not_kept_same [] s t e = refl
not_kept_same (x ∷ xs) s t e = let b = not_kept_same xs s t e in λ j. not_kept x.kept (e j x.form) + b j

value_or : {X : Type 0} → X → Option X → X
value_or x None = x
value_or x (Some y) = y

told_same : (q m : Option (List Formed) × ScopedState) → m.0 ≡ q.0 → m.1.uses ≡ q.1.uses → OnWork (λ t. Unit {0}) (λ t rs. UsesTold rs t) q → Onwards (λ rs t. UsesTold rs t) m
unfolding value_or
told_same q (None, t) e d h = tt
told_same (None, s) (Some y, t) e d h = let z : Some y ≡ None = e in absurd cc
told_same (Some x, s) (Some y, t) e d h = subst (λ (z : List Formed × (ℕ → ℕ)). Each (λ (r : Formed). r.counted.uses ≡ z.1 r.form) z.0) (λ j. (value_or x (sym e j), sym d j)) h

-- ---- the uses of units that were worked on

abbrev pub PlacesDone : ScopedProgress → Type 0
PlacesDone g = AllOf (λ (p : UsePlace). done g.results p.use_number.unit ≡ true) g.places

or_true : (t : Bool) → (t || true) ≡ true
or_true true = refl
or_true false = refl

-- z wasn't worked on yet
module _ (rs : List UnitResult) (z : ℕ) (new : done rs z ≡ false) where
  other : (u : ℕ) → done rs u ≡ true → (u == z) ≡ false
  other u h = false_from_ne_true (u == z) (λ e.
      let same : u ≡ z = grind (arith, nat_tests) in
      let p : true ≡ false = sym (subst (λ (v : ℕ). done rs v ≡ true) same h) ∙ new in absurd cc)

  number_then : (k : Number) → done rs k.unit ≡ true → Before (coming rs z) none_yet k
  number_then k d = (ap (λ t. cond t (ltb k.count 0) true) (other k.unit d), ap (λ t. k.unit == z || t) d ∙ or_true (k.unit == z))

start_placed : (known : Known) (g : ScopedProgress) (p : Prepared) → done g.results p.number ≡ false → (entry : Entries) → PlacesDone g → IsPlaced (coming g.results p.number) known (scoped_start_of p g entry)
start_placed known g p new entry h =
    (refl, all_of_more (λ (u : UsePlace). done g.results u.use_number.unit ≡ true) (λ (u : UsePlace). Before (coming g.results p.number) none_yet u.use_number) (λ u q. number_then g.results p.number new u.use_number q) g.places h)

turned : (m n : ℕ) → (m == n) ≡ (n == m)
turned m n = grind (arith, nat_tests)

done_still : (rs : List UnitResult) (r : UnitResult) (u : ℕ) → done rs u ≡ true → done (r ∷ rs) u ≡ true
done_still rs r u h = go (r.unit.number == u)
  where
    go : (t : Bool) → is_some (cond t (Some r) (result_at rs u)) ≡ true
    go true = refl
    go false = h

done_more : (rs : List UnitResult) (r : UnitResult) (n : ℕ) → r.unit.number ≡ n → (u : ℕ) → Worked (coming rs n) u → done (r ∷ rs) u ≡ true
done_more rs r n e u h = go (u == n) (ap (λ m. m == u) e ∙ turned n u) h
  where
    go : (t : Bool) → (r.unit.number == u) ≡ t → (t || done rs u) ≡ true → is_some (cond (r.unit.number == u) (Some r) (result_at rs u)) ≡ true
    go true q k = ap (λ t. is_some (cond t (Some r) (result_at rs u))) q
    go false q k = ap (λ t. is_some (cond t (Some r) (result_at rs u))) q ∙ k

pub result_number : (p : Prepared) (imports : List Entry × List SetResult) (table : Table) (forms : Option (List Formed)) → (unit_result p imports table forms).unit.number ≡ p.number
result_number p imports table None = refl
result_number p imports table (Some forms) = refl

module _ (all : List Placed) (ps : List Prepared) (known : Known) where
  fault_placed : (g : ScopedProgress) → PlacesDone g → (p : Prepared) → done g.results p.number ≡ false → (f : Option WholeFault) → PlacesDone (scoped_by_fault all known p f g)
  fault_placed g h p new (Some f) =
      all_of_more (λ (u : UsePlace). done g.results u.use_number.unit ≡ true) (λ (u : UsePlace). done (broken_result p f ∷ g.results) u.use_number.unit ≡ true) (λ u q. done_still g.results (broken_result p f) u.use_number.unit q) g.places h
  fault_placed g h p new None =
      let imports = unit_entries all g.results p in
      let start = scoped_start_of p g (with_entries p.number imports.0 g.entry) in
      let q = scoped_unit_over known p start in
      let r = unit_result p imports q.1.table q.0 in
      let w = coming g.results p.number in
      all_of_more (λ (u : UsePlace). Before w q.1.uses u.use_number) (λ (u : UsePlace). done (r ∷ g.results) u.use_number.unit ≡ true)
      (λ u b. done_more g.results r p.number (result_number p imports q.1.table q.0) u.use_number.unit b.1) q.1.places
      (unit_placed w known enough_turns (forms_over (Written p.number) p.number 0 (forms_at_work p)) start (start_placed known g p new (with_entries p.number imports.0 g.entry) h)).1

  abbrev pub OrReady : (Prepared → Bool) → Option Prepared → Type 0
  OrReady f None = Unit {0}
  OrReady f (Some p) = f p ≡ true

  pub first_is : (f : Prepared → Bool) (qs : List Prepared) → OrReady f (first_ready f qs)
  first_is f [] = tt
  first_is f (q ∷ qs) = go (f q) refl (first_is f qs)
    where
      go : (t : Bool) → f q ≡ t → OrReady f (first_ready f qs) → OrReady f (cond t (Some q) (first_ready f qs))
      go true e r = e
      go false e r = r

  worked_placed : (g : ScopedProgress) → PlacesDone g → (o : Option Prepared) → OrReady (is_ready all ps g.results) o → PlacesDone (scoped_worked all ps known o g)
  worked_placed g h None r = h
  worked_placed g h (Some p) r = fault_placed g h p (not_done all ps known (done g.results p.number) _ r) (fault_before all ps p)

  pub work_placed : (n : ℕ) (g : ScopedProgress) → PlacesDone g → PlacesDone (scoped_work all ps known n g)
  work_placed zero g h = h
  work_placed (suc n) g h =
      let o = first_ready (is_ready all ps g.results) ps in
      work_placed n (scoped_worked all ps known o g) (worked_placed g h o (first_is (is_ready all ps g.results) ps))

  -- ---- a unit that is ready

  held_forms : (w : Era) (s : ScopedState) (xs : List FormOrKept) → AllOf (FormHeld w known s) (map form_of xs) → AllOf (λ (x : FormOrKept). TreeAll (UnitLeaf w known s) x.tree) xs
  held_forms w s [] h = tt
  held_forms w s (x ∷ xs) h = (h.0, held_forms w s xs h.1)

  zero_all : (s : ScopedState) → ((f : ℕ) → counts_at f s ≡ no_counts) → (ys : List FormOrKept) → Zero s ys
  zero_all s e [] = tt
  zero_all s e (y ∷ ys) = (ap (λ (m : Moment). m.uses) (e y.form), zero_all s e ys)

  new_all : (s : ScopedState) → ((f : ℕ) → counts_at f s ≡ no_counts) → (ys : List FormOrKept) → AllNew s ys
  new_all s e [] = tt
  new_all s e (y ∷ ys) = (e y.form, new_all s e ys)

  -- g is the progress where every form is expanded, and h the one where some are kept
  module _ (g h : ScopedProgress) (b : BetweenUnits g) (placed : PlacesDone g) (alike : SameProgress h g) (p : Prepared) where
    abbrev s : ScopedState
    s = scoped_start_after all p h

    abbrev t : ScopedState
    t = scoped_start_after all p g

    pub starts_alike : bare_state t ≡ bare_state s
    starts_alike =
        let a = alike.table in let m = alike.macros in let q = alike.places in let d = alike.definitions in let e = alike.entry in let r = alike.results in
        λ j. record {
          unit = p.number;
          program = is_program p.placed.source.kind;
          form = 0;
          locals = λ f. 0;
          uses = λ f. 0;
          nodes = λ f. 0;
          bodies = λ f. 0;
          keywords = λ f. [];
          met = λ f. [];
          table = a j;
          entry = with_entries p.number (unit_entries all (r j) p).0 (e j);
          macros = m j;
          places = q j;
          definitions = d j;
        }

    module _ (new : done g.results p.number ≡ false) (xs : List FormOrKept) (forms : map form_of xs ≡ forms_over (Written p.number) p.number 0 (forms_at_work p)) where
      abbrev w : Era
      w = coming g.results p.number

      pub between : Between w known t []
      between =
          let imports = unit_entries all g.results p in
          record {
            unit_state = start_unit known g b p new imports (unit_entries_fit NoLocal (λ x. tt) all g.results b.exports p);
            formed = b.formed;
            locals = locals_none w t g.macros (b.fine p.number new).macros;
            placed = start_placed known g p new (with_entries p.number imports.0 g.entry) placed;
            stood = tt;
          }

      pub held : AllOf (λ (x : FormOrKept). TreeAll (UnitLeaf w known t) x.tree) xs
      held =
          let imports = unit_entries all g.results p in
          held_forms w t xs (subst (AllOf (FormHeld w known t)) (sym forms) (forms_held known g b p new imports (unit_entries_fit NoLocal (λ x. tt) all g.results b.exports p)))

      pub distinct : Distinct of_form xs
      distinct = distinct_forms xs (subst (Distinct number_of) (sym forms) (forms_distinct (Written p.number) p.number (forms_at_work p) 0))

      module _ (kept : UnitKept known enough_turns xs s) where
        pub same_unit : SameWork (unit_keeping known enough_turns xs s) (scoped_unit_over known p t)
        same_unit =
            subst (λ (ts : List (ℕ × Tree Ident)). SameWork (unit_keeping known enough_turns xs s) (unit (counted known) enough_turns [] ts t)) forms
            (unit_like w known enough_turns xs s t starts_alike between held distinct (new_all s (λ f. refl) xs) kept)

        pub forms_begin : UnitBegins known enough_turns xs s
        forms_begin = unit_begins w known enough_turns xs s t starts_alike between held distinct (new_all s (λ f. refl) xs) kept

        -- ---- the uses that are worked

        uses_alike : (scoped_unit_over known p t).1.uses ≡ (unit_keeping known enough_turns xs s).1.uses
        uses_alike = ap (λ (z : ScopedState). z.uses) same_unit.state

        pub uses_worked : unit_worked known enough_turns xs s ≡ uses_not_kept xs (scoped_unit_over known p t).1
        uses_worked = worked_law known enough_turns xs s distinct (zero_all s (λ f. refl) xs) ∙ sym (not_kept_same xs (unit_keeping known enough_turns xs s).1 (scoped_unit_over known p t).1 uses_alike)

        pub uses_told : Onwards (λ rs u. UsesTold rs u) (scoped_unit_over known p t)
        uses_told = told_same (unit_keeping known enough_turns xs s) (scoped_unit_over known p t) same_unit.result uses_alike (told_law known enough_turns xs s distinct (zero_all s (λ f. refl) xs))

  -- ---- after so many units

  pub between_at : (n : ℕ) → BetweenUnits (scoped_work all ps known n scoped_before)
  between_at n = (work_gone all ps known n scoped_before between_before).between

  pub placed_at : (n : ℕ) → PlacesDone (scoped_work all ps known n scoped_before)
  placed_at n = work_placed n scoped_before tt

  pub new_unit : (g : ScopedProgress) (p : Prepared) → is_ready all ps g.results p ≡ true → done g.results p.number ≡ false
  new_unit g p ready = not_done all ps known (done g.results p.number) _ ready
