-- The forms that a unit comes to have the numbers of those that are expanded (R7RS 5.1).
use Rattle.std.proofs.Common.{◌≡◌, ℕ, suc, Bool, true, false, cond, List, [], ◌∷◌, Option, Some, None, refl, sym, ap, ◌∙◌, subst}
use Rattle.scheme_model.specs.Declarations.{UnitForm}
use Rattle.scheme_model.specs.Expression.{expand}
use Rattle.scheme_model.specs.Identifiers.{Name}
use Rattle.scheme_model.specs.Order.{Ops}
use Rattle.scheme_model.specs.Program.{Prepared, enough_turns, form_trees, forms_at_work, with_refused}
use Rattle.scheme_model.specs.Requirements.{Known}
use Rattle.scheme_model.specs.ScopedExpansion.{ScopedState}
use Rattle.scheme_model.specs.ScopedProgram.{forms_over}
use Rattle.scheme_model.specs.Trees.{Tree}
use Rattle.scheme_model.specs.UnitExpansion.{Formed, LeftOf, ◌then◌, passes, finished, unit}
use Rattle.syntax_tree.specs.declared.trees.Work.{Work}
use Rattle.core_tree.specs.Units.{FormsStand}
use Rattle.core_tree.specs.declared.units.UnitForm as code
use Rattle.unit_scopes.specs.Searched.{searched, searched_unit_over, forms_of}
use Rattle.form_expansion.specs.Ends.{numbers_of}
use Rattle.form_expansion.proofs.UnitWalk.{numbers_given, finished_numbers, passed_numbers}

-- ---- the walk

none_isnt : {X : Type 0} (x : X) → ◌≡◌ {A = Option X} None (Some x) → ⊥
none_isnt x h = let z : None ≡ Some x = h in absurd cc

module _ {E A L S : Type 0} (ops : Ops E A L S) (turns : ℕ) (e : E) (ts : List (ℕ × Tree A)) (s t : S) (given : List Formed) where
  abbrev then_finished : Option (List (LeftOf A)) × S → Option (List Formed) × S
  then_finished w = w then finished ops (expand ops turns) e (numbers_of ts)

  unit_numbers : unit ops turns e ts s ≡ (Some given, t) → numbers_given given ≡ numbers_of ts
  unit_numbers h = go (passes ops turns e (numbers_of ts) ts [] s) refl
    where
      go : (q : Option (List (LeftOf A)) × S) → passes ops turns e (numbers_of ts) ts [] s ≡ q → numbers_given given ≡ numbers_of ts
      go (None, u) k = absurd (none_isnt {X = List Formed} given (ap (λ (q : Option (List Formed) × S). q.0) (sym (ap then_finished k) ∙ h)))
      go (Some rs, u) k = finished_numbers ops (numbers_of ts) (expand ops turns) e rs u t given (sym (ap then_finished k) ∙ h) ∙ passed_numbers ops (numbers_of ts) turns e ts [] s u rs k

-- ---- the forms

-- whatever their symbols stand for
same_forms : {A : Type 0} (written : List ℕ → A) (n form : ℕ) (fs : List UnitForm) → numbers_of (forms_over written n form fs) ≡ numbers_of (form_trees n form fs)
same_forms written n form [] = refl
same_forms {A} written n form (f ∷ fs) = go (same_forms written n (suc form) fs) f.declared _ _
  where
    go : numbers_of (forms_over written n (suc form) fs) ≡ numbers_of (form_trees n (suc form) fs) → (b : Bool) (x : Tree A) (y : Tree Name) →
        numbers_of (cond b (forms_over written n (suc form) fs) ((form, x) ∷ forms_over written n (suc form) fs)) ≡ numbers_of (cond b (form_trees n (suc form) fs) ((form, y) ∷ form_trees n (suc form) fs))
    go same true x y = same
    go same false x y = ap (λ (ns : List ℕ). form ∷ ns) same

pub searched_numbers : (known : Known) (p : Prepared) (s : ScopedState) (given : List Formed) → (searched_unit_over known p s).0 ≡ Some given → numbers_given given ≡ numbers_of (form_trees p.number 0 (forms_at_work p))
searched_numbers known p s given h =
    unit_numbers (searched known) enough_turns [] (forms_of p) s (searched_unit_over known p s).1 given (λ j. (h j, (searched_unit_over known p s).1)) ∙ same_forms _ p.number 0 (forms_at_work p)

-- ---- forms of a unit that are told by its number and what was read

pub with_own : (work : Work) (n : ℕ) (p : Prepared) (fs : List UnitForm) (cs : List code.UnitForm) (gs : List Formed) → p.number ≡ n → forms_at_work p ≡ fs → FormsStand work n 0 cs (with_refused n 0 fs gs) → FormsStand work n 0 cs (with_refused p.number 0 (forms_at_work p) gs)
with_own work n p fs cs gs own forms h =
    subst (λ (m : ℕ). FormsStand work n 0 cs (with_refused m 0 (forms_at_work p) gs)) (sym own) (subst (λ (xs : List UnitForm). FormsStand work n 0 cs (with_refused n 0 xs gs)) (sym forms) h)

pub own_numbers : (n : ℕ) (p : Prepared) (fs : List UnitForm) (gs : List Formed) → p.number ≡ n → forms_at_work p ≡ fs → numbers_given gs ≡ numbers_of (form_trees p.number 0 (forms_at_work p)) → numbers_given gs ≡ numbers_of (form_trees n 0 fs)
own_numbers n p fs gs own forms h = h ∙ (ap (λ (m : ℕ). numbers_of (form_trees m 0 (forms_at_work p))) own ∙ ap (λ (xs : List UnitForm). numbers_of (form_trees n 0 xs)) forms)
