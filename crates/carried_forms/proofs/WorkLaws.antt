-- The work of an event is at most the macro uses of the program that is there after it, and all of them where nothing was open before.
use Rattle.std.proofs.Common.{◌≡◌, ℕ, zero, suc, ◌+◌, ◌≤◌, List, [], ◌∷◌, ◌++◌, map, length, Bool, true, false, cond, Option, Some, None, refl, ap, ◌∙◌, arith}
use Rattle.scheme_model.specs.Ident.{Ident, Written}
use Rattle.scheme_model.specs.Trees.{Tree}
use Rattle.scheme_model.specs.Requirements.{Known}
use Rattle.scheme_model.specs.Order.{Note}
use Rattle.scheme_model.specs.Substitution.{Clock}
use Rattle.scheme_model.specs.ScopedExpansion.{FramedIdent, ScopedState}
use Rattle.scheme_model.specs.IncludedUnits.{Placed}
use Rattle.scheme_model.specs.Program.{Prepared, WholeFault, units_of, prepare, known_in, fault_before, is_ready, first_ready, enough_turns, forms_at_work}
use Rattle.scheme_model.specs.ScopedProgram.{ScopedProgress, forms_over, scoped_unit_over, scoped_start_after, scoped_worked, scoped_before}
use Rattle.scheme_model.specs.FormsAlike.{set_aside, finish}
use Rattle.macro_uses.specs.MacroUses.{total_of, program_uses}
use Rattle.macro_uses.specs.ScopedUses.{scoped_unit_uses, scoped_uses_by_fault, scoped_worked_uses, scoped_work_uses}
use Rattle.macro_uses.proofs.ProgramUses.{program_counts}
use Rattle.carried_forms.specs.Worked.{WorkedForm, GoneForm, around_form, gone_through, gone_on, worked_forms, WorkedUnit, worked_unit, unless_broken, worked_next, worked_units, OpenDocument, read_documents}
use Rattle.carried_forms.specs.Carried.{is_among, uses_beside, work_beside, carried, work}

-- ---- numbers of the forms at work

abbrev numbers : List WorkedForm → List ℕ
numbers fs = map (λ f. f.form) fs

gone_numbers : (known : Known) (ts : List (ℕ × Tree Ident)) (notes : List (Note FramedIdent)) (s : ScopedState) → map (λ (g : GoneForm). g.form) (gone_through known ts notes s).0 ≡ map (λ t. t.0) ts
gone_numbers known [] notes s = refl
gone_numbers known (t ∷ ts) notes s =
    let q = set_aside (around_form known notes s t.0) enough_turns t.1 in
    ap (λ ns. t.0 ∷ ns) (gone_numbers known ts q.0.notes q.1)

on_numbers : (known : Known) (gs : List GoneForm) (s : ScopedState) → numbers (gone_on known gs s) ≡ map (λ (g : GoneForm). g.form) gs
on_numbers known [] s = refl
on_numbers known (g ∷ gs) s = ap (λ ns. g.form ∷ ns) (on_numbers known gs (finish (around_form known [] s g.form) enough_turns g.left).1)

worked_numbers : (known : Known) (ts : List (ℕ × Tree Ident)) (s : ScopedState) → numbers (worked_forms known ts s) ≡ map (λ t. t.0) ts
worked_numbers known ts s =
    let q = gone_through known ts [] s in
    on_numbers known q.0 q.1 ∙ gone_numbers known ts [] s

-- ---- sums

without : (b : Bool) (n : ℕ) → cond b 0 n ≤ n
without true n = omega arith
without false n = omega arith

form_uses : (cs : List (ℕ × ℕ)) (u : ℕ) (uses : Clock) (fs : List WorkedForm) → uses_beside cs u uses fs ≤ total_of uses (numbers fs)
form_uses cs u uses [] = omega arith
form_uses cs u uses (f ∷ fs) = let here = without (is_among cs u f.form) (uses f.form) in let rest = form_uses cs u uses fs in omega (arith, here, rest)

all_uses : (u : ℕ) (uses : Clock) (fs : List WorkedForm) → uses_beside [] u uses fs ≡ total_of uses (numbers fs)
all_uses u uses [] = refl
all_uses u uses (f ∷ fs) = ap (λ n. uses f.form + n) (all_uses u uses fs)

joined_work : (cs : List (ℕ × ℕ)) (us vs : List WorkedUnit) → work_beside cs (us ++ vs) ≡ work_beside cs us + work_beside cs vs
joined_work cs [] vs = omega arith
joined_work cs (u ∷ us) vs = let rest = joined_work cs us vs in omega (arith, rest)

-- ---- units

module _ (all : List Placed) (ps : List Prepared) (known : Known) where
  abbrev form_trees_of : Prepared → List (ℕ × Tree Ident)
  form_trees_of p = forms_over (Written p.number) p.number 0 (forms_at_work p)

  unit_work : (cs : List (ℕ × ℕ)) (p : Prepared) (s : ScopedState) → work_beside cs (worked_unit known p s ∷ []) ≤ scoped_unit_uses known p s
  unit_work cs p s =
      let uses = (scoped_unit_over known p s).1.uses in
      let most = form_uses cs p.number uses (worked_forms known (form_trees_of p) s) in
      let same = ap (total_of uses) (worked_numbers known (form_trees_of p) s) in
      omega (arith, most, same)

  unit_all : (p : Prepared) (s : ScopedState) → work_beside [] (worked_unit known p s ∷ []) ≡ scoped_unit_uses known p s
  unit_all p s =
      let uses = (scoped_unit_over known p s).1.uses in
      let each = all_uses p.number uses (worked_forms known (form_trees_of p) s) in
      let same = ap (total_of uses) (worked_numbers known (form_trees_of p) s) in
      omega (arith, each, same)

  by_fault : (cs : List (ℕ × ℕ)) (p : Prepared) (f : Option WholeFault) (g : ScopedProgress) → work_beside cs (unless_broken all known p f g) ≤ scoped_uses_by_fault all known p f g
  by_fault cs p (Some f) g = omega arith
  by_fault cs p None g = unit_work cs p (scoped_start_after all p g)

  all_by_fault : (p : Prepared) (f : Option WholeFault) (g : ScopedProgress) → work_beside [] (unless_broken all known p f g) ≡ scoped_uses_by_fault all known p f g
  all_by_fault p (Some f) g = refl
  all_by_fault p None g = unit_all p (scoped_start_after all p g)

  next_work : (cs : List (ℕ × ℕ)) (o : Option Prepared) (g : ScopedProgress) → work_beside cs (worked_next all ps known o g) ≤ scoped_worked_uses all ps known o g
  next_work cs None g = omega arith
  next_work cs (Some p) g = by_fault cs p (fault_before all ps p) g

  all_next : (o : Option Prepared) (g : ScopedProgress) → work_beside [] (worked_next all ps known o g) ≡ scoped_worked_uses all ps known o g
  all_next None g = refl
  all_next (Some p) g = all_by_fault p (fault_before all ps p) g

  work_in : (cs : List (ℕ × ℕ)) (n : ℕ) (g : ScopedProgress) → work_beside cs (worked_units all ps known n g) ≤ scoped_work_uses all ps known n g
  work_in cs zero g = omega arith
  work_in cs (suc n) g =
      let o = first_ready (is_ready all ps g.results) ps in
      let h = scoped_worked all ps known o g in
      let both = joined_work cs (worked_next all ps known o g) (worked_units all ps known n h) in
      let here = next_work cs o g in
      let rest = work_in cs n h in
      omega (arith, both, here, rest)

  all_in : (n : ℕ) (g : ScopedProgress) → work_beside [] (worked_units all ps known n g) ≡ scoped_work_uses all ps known n g
  all_in zero g = refl
  all_in (suc n) g =
      let o = first_ready (is_ready all ps g.results) ps in
      let h = scoped_worked all ps known o g in
      let both = joined_work [] (worked_next all ps known o g) (worked_units all ps known n h) in
      let here = all_next o g in
      let rest = all_in n h in
      omega (arith, both, here, rest)

-- ---- programs

pub work_is_at_most_all : (before after : List OpenDocument) → work before after ≤ program_uses (read_documents after)
work_is_at_most_all before after =
    let ds = read_documents after in
    let all = units_of ds in
    let ps = prepare all 0 all in
    let most = work_in all ps (known_in ds) (carried before after) (length ps) scoped_before in
    let same = program_counts ds in
    omega (arith, most, same)

pub work_on_all : (after : List OpenDocument) → work [] after ≡ program_uses (read_documents after)
work_on_all after =
    let ds = read_documents after in
    let all = units_of ds in
    let ps = prepare all 0 all in
    all_in all ps (known_in ds) (length ps) scoped_before ∙ program_counts ds
