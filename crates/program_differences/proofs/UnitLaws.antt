-- The units of a program of the code from a place on, the forms of a unit, and their Errors.
use Rattle.std.proofs.Common.{◌≡◌, inl, inr, ℕ, zero, suc, ◌+◌, ◌<◌, ◌≤◌, List, [], ◌∷◌, ◌++◌, map, length, get_or, Bool, true, false, Option, Some, None, Result, Ok, Err, refl, sym, ap, ◌∙◌, subst, arith}
use Rattle.std.specs.Prelude.{slice_get, ◌==◌, if◌then◌else◌, max}
use Rattle.std.specs.List.{zip}
use Rattle.std.proofs.lemmas.Bool.{ne_eqb}
use Rattle.std.proofs.lemmas.Bool.Decides.{nat_tests}
use Rattle.std.proofs.lemmas.List.{map-append}
use Rattle.scheme_model.specs.Cores.{Parts, no_parts}
use Rattle.scheme_model.specs.Declarations.{UnitForm as ModelForm}
use Rattle.scheme_model.specs.Entries.{Entry}
use Rattle.scheme_model.specs.Order.{Counted}
use Rattle.scheme_model.specs.IncludedUnits.{Placed}
use Rattle.scheme_model.specs.Program.{Prepared, WholeFault, SetResult, Unknown, Faulty, Gives, ExportFault, NotDefined, SameExport, UnitResult, Program, result_at, specs_in, ImportSpec}
use Rattle.scheme_model.specs.Requirements.{LibraryName}
use Rattle.scheme_model.specs.Steps.{Broken}
use Rattle.scheme_model.specs.UnitExpansion.{Formed}
use Rattle.rename_model.specs.SameProgram as same
use Rattle.syntax_tree.specs.declared.trees.Work.{Work}
use Rattle.core_tree.specs.Units as code
use Rattle.core_tree.specs.Units.{UnitStands, UnitsStand, FormsStand, IsResult, IsBlank}
use Rattle.core_tree.specs.declared.units.ExpandedItem.{ExpandedItem}
use Rattle.core_tree.specs.declared.units.Unit.{Unit as CodeUnit}
use Rattle.core_tree.specs.declared.units.UnitForm.{UnitForm}
use Rattle.core_tree.specs.declared.units.UnitError.{UnitError}
use Rattle.core_tree.specs.declared.traces.FormFault.{FormFault}
use Rattle.program_leaves.specs.Placed.{unless_fault}
use Rattle.program_differences.specs.Both.{ItemsStand}
use Rattle.program_differences.specs.Listed.{forms_of}

-- ---- units from a place on

module _ (work : Work) (text : LibraryName → List ℕ) (uris : List (List ℕ)) (all : List Placed) (p : Program) where
  pub record UnitAt (place : ℕ) (c : CodeUnit) : Type 0 where
    pub it : UnitResult
    pub there : result_at p.units place ≡ Some it
    pub stands : UnitStands work text uris all p place c it

  -- these units, and none behind them
  abbrev pub UnitsFrom : ℕ → List CodeUnit → Type 0
  UnitsFrom place [] = (n : ℕ) → place ≤ n → result_at p.units n ≡ None
  UnitsFrom place (c ∷ cs) = UnitAt place c × UnitsFrom (suc place) cs

  from_place : (place : ℕ) (cs : List CodeUnit) (rs : List UnitResult) → UnitsStand work text uris all p place cs rs → ((n : ℕ) → place ≤ n → result_at p.units n ≡ result_at rs n) → UnitsFrom place cs
  from_place place [] [] h f = f
  from_place place [] (r ∷ rs) h f = absurd h
  from_place place (c ∷ cs) [] h f = absurd h
  from_place place (c ∷ cs) (r ∷ rs) h f = (
    record {
      it = r;
      there = f place (omega arith) ∙ ap (λ (b : Bool). if b then Some r else result_at rs place) here;
      stands = h.0;
    },
    from_place (suc place) cs rs h.1 (λ n le. f n (omega arith) ∙ ap (λ (b : Bool). if b then Some r else result_at rs n) (later n le)),
  )
    where
      here : (r.unit.number == place) ≡ true
      here = let e = h.0.number in grind (arith, nat_tests)

      later : (n : ℕ) → suc place ≤ n → (r.unit.number == n) ≡ false
      later n le = ne_eqb r.unit.number n (λ eq. let e = h.0.number in absurd (omega arith))

  pub units_from : (cs : List CodeUnit) → UnitsStand work text uris all p 0 cs p.units → UnitsFrom 0 cs
  units_from cs h = from_place 0 cs p.units h (λ n le. refl)

  found_from : (place : ℕ) (cs : List CodeUnit) → UnitsFrom place cs → (n : ℕ) (c : CodeUnit) → slice_get cs n ≡ Some c → UnitAt (place + n) c
  found_from place [] h n c e = absurd cc
  found_from place (d ∷ cs) h zero c e =
      let is : d ≡ c = cc in
      let plus : place ≡ place + 0 = omega arith in
      subst (λ (k : ℕ). UnitAt k c) plus (subst (UnitAt place) is h.0)
  found_from place (d ∷ cs) h (suc n) c e =
      let plus : suc place + n ≡ place + suc n = omega arith in
      subst (λ (k : ℕ). UnitAt k c) plus (found_from (suc place) cs h.1 n c e)

  pub unit_found : (cs : List CodeUnit) → UnitsFrom 0 cs → (n : ℕ) (c : CodeUnit) → slice_get cs n ≡ Some c → UnitAt n c
  unit_found cs h n c e = let plus : 0 + n ≡ n = omega arith in subst (λ (k : ℕ). UnitAt k c) plus (found_from 0 cs h n c e)

  none_from : (place : ℕ) (cs : List CodeUnit) → UnitsFrom place cs → (n : ℕ) → place + length cs ≤ n → result_at p.units n ≡ None
  none_from place [] h n le = h n (omega (arith, le))
  none_from place (c ∷ cs) h n le = none_from (suc place) cs h.1 n (omega (arith, le))

  pub none_behind : (cs : List CodeUnit) → UnitsFrom 0 cs → (n : ℕ) → length cs ≤ n → result_at p.units n ≡ None
  none_behind cs h n le = none_from 0 cs h n (omega (arith, le))

  pub as_many : (place : ℕ) (cs : List CodeUnit) (rs : List UnitResult) → UnitsStand work text uris all p place cs rs → length cs ≡ length rs
  as_many place [] [] h = refl
  as_many place [] (r ∷ rs) h = absurd h
  as_many place (c ∷ cs) [] h = absurd h
  as_many place (c ∷ cs) (r ∷ rs) h = ap suc (as_many (suc place) cs rs h.1)

pub max_itself : (n : ℕ) → max n n ≡ n
max_itself n = omega arith

-- ---- the items of forms

-- those of a form that isn't broken
abbrev pub kept_items : UnitForm → List ExpandedItem
kept_items c = unless_fault c.fault c.items

module _ (work : Work) (unit : ℕ) where
  none_stand : (form : ℕ) (items : List ExpandedItem) → items ≡ [] → ItemsStand work unit form items no_parts
  none_stand form items e = subst (λ (xs : List ExpandedItem). ItemsStand work unit form xs no_parts) (sym e) (record { parts = tt; levels = tt })

  kept_none : (c : UnitForm) (f : Option FormFault) → c.fault ≡ f → c.items ≡ [] → unless_fault c.fault c.items ≡ []
  kept_none c f e i = ap (unless_fault c.fault) i ∙ empty c.fault
    where
      empty : (g : Option FormFault) → unless_fault {A = ExpandedItem} g [] ≡ []
      empty None = refl
      empty (Some g) = refl

  blank_stand : (form : ℕ) (c : UnitForm) → IsBlank c → ItemsStand work unit form (kept_items c) no_parts
  blank_stand form c h = none_stand form (kept_items c) (kept_none c c.fault refl h.items)

  result_stand : (form : ℕ) (c : UnitForm) (r : Result Parts Broken) (met : Counted) → IsResult work unit form c r met → ItemsStand work unit form (kept_items c) (same.items_of r)
  result_stand form c (Ok ps) met h =
      let kept : kept_items c ≡ c.items = ap (λ (f : Option FormFault). unless_fault f c.items) h.whole in
      subst (λ (xs : List ExpandedItem). ItemsStand work unit form xs ps) (sym kept) (record { parts = h.parts; levels = h.levels })
  result_stand form c (Err e) met h = none_stand form (kept_items c) (ap (λ (f : Option FormFault). unless_fault f c.items) h.1)

  -- no form before these
  none_before : (form : ℕ) (cs : List UnitForm) (fs : List Formed) → FormsStand work unit form cs fs → (n : ℕ) → n < form → same.items_at fs n ≡ no_parts
  none_before form [] [] h n lt = refl
  none_before form [] (f ∷ fs) h n lt = absurd h
  none_before form (c ∷ cs) [] h n lt = refl
  none_before form (c ∷ cs) (f ∷ fs) (inl h) n lt = none_before (suc form) cs (f ∷ fs) h.2 n (omega (arith, lt))
  none_before form (c ∷ cs) (f ∷ fs) (inr h) n lt =
      let other : (f.form == n) ≡ false = ne_eqb f.form n (λ eq. let e = h.0 in absurd (omega (arith, lt))) in
      ap (λ (b : Bool). if b then same.items_of f.result else same.items_at fs n) other ∙ none_before (suc form) cs fs h.2 n (omega (arith, lt))

  forms_from : (form : ℕ) (cs : List UnitForm) (fs : List Formed) → FormsStand work unit form cs fs → (n : ℕ) (c : UnitForm) → slice_get cs n ≡ Some c →
      ItemsStand work unit (form + n) (kept_items c) (same.items_at fs (form + n))
  forms_from form [] fs h n c e = absurd cc
  forms_from form (d ∷ cs) [] h zero c e =
      let is : d ≡ c = cc in
      blank_stand (form + 0) c (subst IsBlank is h.0)
  forms_from form (d ∷ cs) [] h (suc n) c e =
      let plus : suc form + n ≡ form + suc n = omega arith in
      subst (λ (k : ℕ). ItemsStand work unit k (kept_items c) (same.items_at [] k)) plus (forms_from (suc form) cs [] h.1 n c e)
  forms_from form (d ∷ cs) (f ∷ fs) (inl h) zero c e =
      let is : d ≡ c = cc in
      let none : same.items_at (f ∷ fs) (form + 0) ≡ no_parts = none_before (suc form) cs (f ∷ fs) h.2 (form + 0) (omega arith) in
      subst (ItemsStand work unit (form + 0) (kept_items c)) (sym none) (blank_stand (form + 0) c (subst IsBlank is h.0))
  forms_from form (d ∷ cs) (f ∷ fs) (inl h) (suc n) c e =
      let plus : suc form + n ≡ form + suc n = omega arith in
      subst (λ (k : ℕ). ItemsStand work unit k (kept_items c) (same.items_at (f ∷ fs) k)) plus (forms_from (suc form) cs (f ∷ fs) h.2 n c e)
  forms_from form (d ∷ cs) (f ∷ fs) (inr h) zero c e =
      let is : d ≡ c = cc in
      let plus : form ≡ form + 0 = omega arith in
      let this : (f.form == (form + 0)) ≡ true = let k = h.0 in grind (arith, nat_tests) in
      let at : same.items_at (f ∷ fs) (form + 0) ≡ same.items_of f.result = ap (λ (b : Bool). if b then same.items_of f.result else same.items_at fs (form + 0)) this in
      subst (ItemsStand work unit (form + 0) (kept_items c)) (sym at)
      (subst (λ (k : ℕ). ItemsStand work unit k (kept_items c) (same.items_of f.result)) plus (subst (λ (x : UnitForm). ItemsStand work unit form (kept_items x) (same.items_of f.result)) is (result_stand form d f.result f.counted h.1)))
  forms_from form (d ∷ cs) (f ∷ fs) (inr h) (suc n) c e =
      let plus : suc form + n ≡ form + suc n = omega arith in
      let other : (f.form == (form + suc n)) ≡ false = ne_eqb f.form (form + suc n) (λ eq. let k = h.0 in absurd (omega arith)) in
      let at : same.items_at (f ∷ fs) (form + suc n) ≡ same.items_at fs (form + suc n) = ap (λ (b : Bool). if b then same.items_of f.result else same.items_at fs (form + suc n)) other in
      subst (ItemsStand work unit (form + suc n) (kept_items c)) (sym at)
      (subst (λ (k : ℕ). ItemsStand work unit k (kept_items c) (same.items_at fs k)) plus (forms_from (suc form) cs fs h.2 n c e))

  pub form_items : (cs : List UnitForm) (fs : List Formed) → FormsStand work unit 0 cs fs → (n : ℕ) (c : UnitForm) → slice_get cs n ≡ Some c → ItemsStand work unit n (kept_items c) (same.items_at fs n)
  form_items cs fs h n c e =
      let plus : 0 + n ≡ n = omega arith in
      subst (λ (k : ℕ). ItemsStand work unit k (kept_items c) (same.items_at fs k)) plus (forms_from 0 cs fs h n c e)

-- what a read at a place gives
pub there_at : {A : Type 0} (xs : List A) (n : ℕ) (x : A) → n < length xs → x ≡ get_or xs n x → slice_get xs n ≡ Some x
there_at [] n x lt e = absurd (omega (arith, lt))
there_at (y ∷ xs) zero x lt e = ap Some (sym e)
there_at (y ∷ xs) (suc n) x lt e = there_at xs n x (omega (arith, lt)) e

pub form_at : (work : Work) (unit : ℕ) (cs : List UnitForm) (fs : List Formed) → FormsStand work unit 0 cs fs → (n : ℕ) (c : UnitForm) (items : List ExpandedItem) → n < length cs → c ≡ get_or cs n c → items ≡ kept_items c →
    ItemsStand work unit n items (same.items_at fs n)
form_at work unit cs fs h n c items lt is kept =
    subst (λ (xs : List ExpandedItem). ItemsStand work unit n xs (same.items_at fs n)) (sym kept) (form_items work unit cs fs h n c (there_at cs n c lt is))

-- ---- Errors

abbrev seconds : List (ℕ × ℕ) → List ℕ
seconds es = map (λ (e : ℕ × ℕ). e.1) es

forms_both : (xs ys : List (ℕ × ℕ)) → seconds (xs ++ ys) ≡ seconds xs ++ seconds ys
forms_both xs ys = map-append (λ (e : ℕ × ℕ). e.1) xs ys

sets_same : (unit form : ℕ) (fs : List ModelForm) → code.set_forms unit form fs ≡ same.set_forms unit form fs
sets_same unit form [] = refl
sets_same unit form (f ∷ fs) = ap (λ (q : List ℕ). map (λ (s : ImportSpec). form) (specs_in unit form f) ++ q) (sets_same unit (suc form) fs)

clash_forms : (form : ℕ) (ss : List (List ℕ)) → seconds (map (λ s. (52, form)) ss) ≡ map (λ s. form) ss
clash_forms form [] = refl
clash_forms form (s ∷ ss) = ap (λ (q : List ℕ). form ∷ q) (clash_forms form ss)

set_errors_same : (xs : List (ℕ × SetResult)) → seconds (code.set_errors xs) ≡ same.set_errors xs
set_errors_same [] = refl
set_errors_same ((form, Unknown) ∷ xs) = set_errors_same xs
set_errors_same ((form, Faulty f) ∷ xs) = ap (λ (q : List ℕ). form ∷ q) (set_errors_same xs)
set_errors_same ((form, Gives es clashes) ∷ xs) =
    forms_both (map (λ s. (52, form)) clashes) (code.set_errors xs) ∙ (λ j. clash_forms form clashes j ++ set_errors_same xs j)

export_errors_same : (fs : List ExportFault) → seconds (code.export_errors fs) ≡ same.export_errors fs
export_errors_same [] = refl
export_errors_same (NotDefined x ∷ fs) = ap (λ (q : List ℕ). x.form ∷ q) (export_errors_same fs)
export_errors_same (SameExport x ∷ fs) = ap (λ (q : List ℕ). x.form ∷ q) (export_errors_same fs)

one_form : (form : ℕ) (r : Result Parts Broken) (met : Counted) (fs : List Formed) → seconds (code.form_errors fs) ≡ same.form_errors fs →
    seconds (code.form_errors (record { form = form; result = r; counted = met } ∷ fs)) ≡ same.form_errors (record { form = form; result = r; counted = met } ∷ fs)
one_form form (Ok ps) met fs e = e
one_form form (Err b) met fs e = ap (λ (q : List ℕ). form ∷ q) e

form_errors_same : (fs : List Formed) → seconds (code.form_errors fs) ≡ same.form_errors fs
form_errors_same [] = refl
form_errors_same (f ∷ fs) = one_form f.form f.result f.counted fs (form_errors_same fs)

by_fault : (u : Prepared) (fault : Option WholeFault) (sets : List SetResult) (entries : List Entry) (forms : List Formed) (exports : List Entry) (faults : List ExportFault) →
    seconds (code.unit_errors (record { unit = u; fault = fault; sets = sets; entries = entries; forms = forms; exports = exports; export_faults = faults }))
    ≡ same.errors_of (record { unit = u; fault = fault; sets = sets; entries = entries; forms = forms; exports = exports; export_faults = faults })
by_fault u (Some f) sets entries forms exports faults = refl
by_fault u None sets entries forms exports faults =
    forms_both (code.set_errors (zip (code.set_forms u.number 0 u.forms) sets) ++ code.export_errors faults) (code.form_errors forms)
    ∙ (λ j. (forms_both (code.set_errors (zip (code.set_forms u.number 0 u.forms) sets)) (code.export_errors faults)
    ∙ (λ i. (ap (λ (ns : List ℕ). seconds (code.set_errors (zip ns sets))) (sets_same u.number 0 u.forms) ∙ set_errors_same (zip (same.set_forms u.number 0 u.forms) sets)) i ++ export_errors_same faults i)) j
    ++ form_errors_same forms j)

error_forms : (es : List UnitError) → forms_of es ≡ seconds (map code.error_as es)
error_forms [] = refl
error_forms (e ∷ es) = ap (λ (q : List ℕ). e.form ∷ q) (error_forms es)

pub errors_are : (es : List UnitError) (r : UnitResult) → map code.error_as es ≡ code.unit_errors r → forms_of es ≡ same.errors_of r
errors_are es r h = error_forms es ∙ ap seconds h ∙ by_fault r.unit r.fault r.sets r.entries r.forms r.exports r.export_faults
