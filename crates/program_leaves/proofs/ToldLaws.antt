-- Keywords, matched literals and names of a program of the code stand for those of the definition's program.
use Rattle.std.proofs.Common.{◌≡◌, ◌⊎◌, inl, inr, ℕ, suc, List, [], ◌∷◌, ◌++◌, reverse, Result, Ok, Err, refl, sym, ap, ◌∙◌, subst}
use Rattle.std.specs.List.{flat_map}
use Rattle.std.proofs.lemmas.List.{reverse-append}
use Rattle.scheme_model.specs.Cores as model
use Rattle.scheme_model.specs.Cores.{Parts}
use Rattle.scheme_model.specs.Steps.{Broken}
use Rattle.scheme_model.specs.Order.{Counted}
use Rattle.scheme_model.specs.UnitExpansion.{Formed}
use Rattle.scheme_model.specs.Requirements.{LibraryName}
use Rattle.scheme_model.specs.IncludedUnits.{Placed}
use Rattle.scheme_model.specs.Program.{Program, UnitResult}
use Rattle.scheme_model.specs.Live as live
use Rattle.scheme_model.specs.Live.{use_targets, counted_targets, keyword_targets}
use Rattle.scheme_model.specs.ProgramArrows.{program_keywords, program_names, unit_names}
use Rattle.syntax_tree.specs.declared.trees.Work.{Work}
use Rattle.core_tree.specs.Names.{AllMatch, IsTarget, IsUse}
use Rattle.core_tree.specs.Units.{IsBlank, IsResult, FormsStand, UnitsStand, IsName}
use Rattle.core_tree.specs.declared.cores.Target.{Target}
use Rattle.core_tree.specs.declared.traces.MacroUse.{MacroUse}
use Rattle.core_tree.specs.declared.units.UnitForm.{UnitForm}
use Rattle.core_tree.specs.declared.units.NameUse.{NameUse}
use Rattle.core_tree.specs.declared.units.Unit.{Unit as CodeUnit}
use Rattle.program_leaves.specs.Members.{IsIn, Tells}
use Rattle.program_leaves.specs.Placed.{uses_at, macro_targets, trace_targets, unless_fault, forms_met, units_met, IsUseOf}
use Rattle.program_leaves.specs.Sights.{all_names, IsNameOf}
use Rattle.program_leaves.proofs.AddLaws.{both_match}
use Rattle.program_leaves.proofs.MemberLaws.{in_left, in_right, in_either, in_from, contains_from, in_reverse, in_flat_map, from_flat_map}
use Rattle.program_leaves.proofs.PlacedLaws.{fault_none, fault_some}

-- ---- one after another

module _ {X Y : Type 0} (P : X → Y → Type 0) where
  pub tells_none : Tells P [] []
  tells_none = record { told = []; match = tt; there = λ y h. h; back = λ y h. h }

  pub tells_both : (xs zs : List X) (ys ws : List Y) → Tells P xs ys → Tells P zs ws → Tells P (xs ++ zs) (ys ++ ws)
  tells_both xs zs ys ws p q = record {
    told = p.told ++ q.told;
    match = both_match P xs zs p.told q.told p.match q.match;
    there = λ y h. there y (in_either y p.told q.told h);
    back = λ y h. back y (in_either y ys ws h);
  }
    where
      there : (y : Y) → IsIn y p.told ⊎ IsIn y q.told → IsIn y (ys ++ ws)
      there y (inl h) = in_left y ys ws (p.there y h)
      there y (inr h) = in_right y ys ws (q.there y h)

      back : (y : Y) → IsIn y ys ⊎ IsIn y ws → IsIn y (p.told ++ q.told)
      back y (inl h) = in_left y p.told q.told (p.back y h)
      back y (inr h) = in_right y p.told q.told (q.back y h)

  pub tells_as : (xs zs : List X) (ys : List Y) → zs ≡ xs → Tells P xs ys → Tells P zs ys
  tells_as xs zs ys e h = subst (λ (q : List X). Tells P q ys) (sym e) h

pub from_reverse : {X : Type 0} (x : X) (xs : List X) → IsIn x (reverse xs) → IsIn x xs
from_reverse x [] h = h
from_reverse x (y ∷ ys) h = by_case (from_reverse x ys) (in_either x (reverse ys) (y ∷ []) (subst (IsIn x) (reverse-append (y ∷ []) ys) h))
  where
    by_case : (IsIn x (reverse ys) → IsIn x ys) → IsIn x (reverse ys) ⊎ ((y ≡ x) ⊎ ⊥) → (y ≡ x) ⊎ IsIn x ys
    by_case f (inl k) = inr (f k)
    by_case f (inr (inl e)) = inl e
    by_case f (inr (inr k)) = absurd k

-- ---- keywords and matched literals

abbrev of_use : model.MacroUse → List model.Target
of_use u = u.keyword ∷ u.literals

flat_uses : (us : List model.MacroUse) → use_targets us ≡ flat_map of_use us
flat_uses [] = refl
flat_uses (u ∷ us) = ap (λ (q : List model.Target). of_use u ++ q) (flat_uses us)

uses_there : (t : model.Target) (us : List model.MacroUse) → IsIn t (use_targets (reverse us)) → IsIn t (use_targets us)
uses_there t us h =
    let a = from_flat_map of_use t (reverse us) (subst (IsIn t) (flat_uses (reverse us)) h) in
    subst (IsIn t) (sym (flat_uses us)) (in_flat_map of_use a.0 t us (from_reverse a.0 us a.1) a.2)

uses_back : (t : model.Target) (us : List model.MacroUse) → IsIn t (use_targets us) → IsIn t (use_targets (reverse us))
uses_back t us h =
    let a = from_flat_map of_use t us (subst (IsIn t) (flat_uses us) h) in
    subst (IsIn t) (sym (flat_uses (reverse us))) (in_flat_map of_use a.0 t (reverse us) (in_reverse a.0 us a.1) a.2)

targets_match : (work : Work) (unit form : ℕ) (xs : List Target) (ys : List model.Target) → AllMatch (IsTarget work.symbols unit form) xs ys → AllMatch (IsUseOf work) (uses_at unit form xs) ys
targets_match work unit form [] [] h = tt
targets_match work unit form [] (y ∷ ys) h = absurd h
targets_match work unit form (x ∷ xs) [] h = absurd h
targets_match work unit form (x ∷ xs) (y ∷ ys) h = (h.0, targets_match work unit form xs ys h.1)

uses_match : (work : Work) (unit form : ℕ) (xs : List MacroUse) (ys : List model.MacroUse) → AllMatch (IsUse work.symbols unit form) xs ys →
    AllMatch (IsTarget work.symbols unit form) (macro_targets xs) (use_targets ys)
uses_match work unit form [] [] h = tt
uses_match work unit form [] (y ∷ ys) h = absurd h
uses_match work unit form (x ∷ xs) [] h = absurd h
uses_match work unit form (x ∷ xs) (y ∷ ys) h =
    (h.0.keyword, both_match (IsTarget work.symbols unit form) x.literals.items (macro_targets xs) y.literals (use_targets ys) h.0.literals (uses_match work unit form xs ys h.1))

result_met : (work : Work) (unit form : ℕ) (c : UnitForm) (r : Result Parts Broken) (k : Counted) → IsResult work unit form c r k → Tells (IsUseOf work) (uses_at unit form (unless_fault c.fault (trace_targets c.trace))) (counted_targets r k)
result_met work unit form c (Err e) k h =
    tells_as (IsUseOf work) [] (uses_at unit form (unless_fault c.fault (trace_targets c.trace))) [] (ap (uses_at unit form) (fault_some c.fault h.0 (trace_targets c.trace) h.1)) (tells_none (IsUseOf work))
result_met work unit form c (Ok ps) k h =
    tells_as (IsUseOf work) (uses_at unit form (trace_targets c.trace)) (uses_at unit form (unless_fault c.fault (trace_targets c.trace))) (k.keywords ++ use_targets k.met)
    (ap (uses_at unit form) (fault_none c.fault (trace_targets c.trace) h.whole))
    (record {
      told = reverse k.keywords ++ use_targets (reverse k.met);
      match = targets_match work unit form (trace_targets c.trace) (reverse k.keywords ++ use_targets (reverse k.met))
          (both_match (IsTarget work.symbols unit form) c.trace.keywords (macro_targets c.trace.uses) (reverse k.keywords) (use_targets (reverse k.met)) h.keywords (uses_match work unit form c.trace.uses (reverse k.met) h.uses));
      there = λ y g. there y (in_either y (reverse k.keywords) (use_targets (reverse k.met)) g);
      back = λ y g. back y (in_either y k.keywords (use_targets k.met) g);
    })
  where
    there : (y : model.Target) → IsIn y (reverse k.keywords) ⊎ IsIn y (use_targets (reverse k.met)) → IsIn y (k.keywords ++ use_targets k.met)
    there y (inl g) = in_left y k.keywords (use_targets k.met) (from_reverse y k.keywords g)
    there y (inr g) = in_right y k.keywords (use_targets k.met) (uses_there y k.met g)

    back : (y : model.Target) → IsIn y k.keywords ⊎ IsIn y (use_targets k.met) → IsIn y (reverse k.keywords ++ use_targets (reverse k.met))
    back y (inl g) = in_left y (reverse k.keywords) (use_targets (reverse k.met)) (in_reverse y k.keywords g)
    back y (inr g) = in_right y (reverse k.keywords) (use_targets (reverse k.met)) (uses_back y k.met g)

blank_met : (c : UnitForm) → IsBlank c → unless_fault c.fault (trace_targets c.trace) ≡ []
blank_met c h = fault_none c.fault (trace_targets c.trace) h.fault ∙ (λ j. h.keywords j ++ macro_targets (h.uses j))

pub forms_told : (work : Work) (unit form : ℕ) (cs : List UnitForm) (fs : List Formed) → FormsStand work unit form cs fs → Tells (IsUseOf work) (forms_met unit form cs) (keyword_targets fs)
forms_told work unit form [] [] h = tells_none (IsUseOf work)
forms_told work unit form [] (f ∷ fs) h = absurd h
forms_told work unit form (c ∷ cs) [] h =
    tells_as (IsUseOf work) (forms_met unit (suc form) cs) (forms_met unit form (c ∷ cs)) [] (ap (λ (q : List Target). uses_at unit form q ++ forms_met unit (suc form) cs) (blank_met c h.0)) (forms_told work unit (suc form) cs [] h.1)
forms_told work unit form (c ∷ cs) (f ∷ fs) (inl h) =
    tells_as (IsUseOf work) (forms_met unit (suc form) cs) (forms_met unit form (c ∷ cs)) (keyword_targets (f ∷ fs)) (ap (λ (q : List Target). uses_at unit form q ++ forms_met unit (suc form) cs) (blank_met c h.0))
    (forms_told work unit (suc form) cs (f ∷ fs) h.2)
forms_told work unit form (c ∷ cs) (f ∷ fs) (inr h) =
    tells_both (IsUseOf work) (uses_at unit form (unless_fault c.fault (trace_targets c.trace))) (forms_met unit (suc form) cs) (counted_targets f.result f.counted) (keyword_targets fs)
    (result_met work unit form c f.result f.counted h.1) (forms_told work unit (suc form) cs fs h.2)

pub units_told : (work : Work) (text : LibraryName → List ℕ) (uris : List (List ℕ)) (all : List Placed) (p : Program) (place : ℕ) (cs : List CodeUnit) (rs : List UnitResult) → UnitsStand work text uris all p place cs rs →
    Tells (IsUseOf work) (units_met place cs) (program_keywords rs)
units_told work text uris all p place [] [] h = tells_none (IsUseOf work)
units_told work text uris all p place [] (r ∷ rs) h = absurd h
units_told work text uris all p place (c ∷ cs) [] h = absurd h
units_told work text uris all p place (c ∷ cs) (r ∷ rs) h =
    tells_both (IsUseOf work) (forms_met place 0 c.forms) (units_met (suc place) cs) (keyword_targets r.forms) (program_keywords rs) (forms_told work place 0 c.forms r.forms h.0.forms)
    (units_told work text uris all p (suc place) cs rs h.1)

-- ---- names

names_match : (work : Work) (unit : ℕ) (xs : List NameUse) (ys : List live.NameUse) → AllMatch (IsName work.symbols unit) xs ys → AllMatch (IsNameOf work) xs ys
names_match work unit [] [] h = tt
names_match work unit [] (y ∷ ys) h = absurd h
names_match work unit (x ∷ xs) [] h = absurd h
names_match work unit (x ∷ xs) (y ∷ ys) h = ((unit, h.0), names_match work unit xs ys h.1)

pub names_told : (work : Work) (text : LibraryName → List ℕ) (uris : List (List ℕ)) (all : List Placed) (p : Program) (place : ℕ) (cs : List CodeUnit) (rs : List UnitResult) → UnitsStand work text uris all p place cs rs →
    Tells (IsNameOf work) (all_names cs) (program_names all p rs)
names_told work text uris all p place [] [] h = tells_none (IsNameOf work)
names_told work text uris all p place [] (r ∷ rs) h = absurd h
names_told work text uris all p place (c ∷ cs) [] h = absurd h
names_told work text uris all p place (c ∷ cs) (r ∷ rs) h =
    let n = h.0.names in
    tells_both (IsNameOf work) c.names (all_names cs) (unit_names all p r) (program_names all p rs)
    (record {
      told = n.told;
      match = names_match work place c.names n.told n.match;
      there = λ y g. in_from y (unit_names all p r) ((n.same y).0 (contains_from y n.told g));
      back = λ y g. in_from y n.told ((n.same y).1 (contains_from y (unit_names all p r) g));
    })
    (names_told work text uris all p (suc place) cs rs h.1)
