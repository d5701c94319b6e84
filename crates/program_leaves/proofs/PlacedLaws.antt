-- The leaves of a program of the code are those of the definition's program.
use Rattle.std.proofs.Common.{◌≡◌, inl, inr, ℕ, zero, suc, ◌+◌, List, [], ◌∷◌, ◌++◌, map, false, Option, Some, None, Result, Ok, Err, refl, sym, ap, ◌∙◌, subst, append_assoc, arith}
use Rattle.std.specs.Prelude.{slice_get}
use Rattle.std.specs.List.{flat_map}
use Rattle.scheme_model.specs.Cores.{Parts}
use Rattle.scheme_model.specs.Steps.{Broken}
use Rattle.scheme_model.specs.Order.{Counted}
use Rattle.scheme_model.specs.UnitExpansion.{Formed}
use Rattle.scheme_model.specs.Requirements.{LibraryName}
use Rattle.scheme_model.specs.IncludedUnits.{Placed}
use Rattle.scheme_model.specs.Program.{Program, UnitResult}
use Rattle.scheme_model.specs.Live.{CoreLeaf, form_leaves, unit_leaves, leaves_of_parts}
use Rattle.scheme_model.specs.ProgramArrows.{program_leaves}
use Rattle.syntax_tree.specs.declared.trees.Work.{Work}
use Rattle.core_tree.specs.Units.{IsBlank, IsResult, FormsStand, UnitsStand}
use Rattle.core_tree.specs.declared.cores.CorePart.{CorePart}
use Rattle.core_tree.specs.declared.traces.FormFault.{FormFault}
use Rattle.core_tree.specs.declared.units.ExpandedItem.{ExpandedItem}
use Rattle.core_tree.specs.declared.units.UnitForm.{UnitForm}
use Rattle.core_tree.specs.declared.units.Unit.{Unit as CodeUnit}
use Rattle.program_leaves.specs.Formed.{IsFormed, AreFormedIn}
use Rattle.program_leaves.specs.Leaves.{Seen, part_seen, items_seen, AreSeen}
use Rattle.program_leaves.specs.Placed.{PlacedSeen, at_form, unless_fault, forms_seen, units_seen, AreAllSeen}
use Rattle.program_leaves.proofs.LeafLaws.{parts_leaves}

module _ (work : Work) where
  pub all_both : (xs ys : List PlacedSeen) (ls ms : List CoreLeaf) → AreAllSeen work xs ls → AreAllSeen work ys ms → AreAllSeen work (xs ++ ys) (ls ++ ms)
  all_both [] ys ls ms h k = subst (λ (q : List CoreLeaf). AreAllSeen work ys (q ++ ms)) (sym h) k
  all_both (x ∷ xs) ys ls ms h k =
      (h.0, h.1 ++ ms, ap (λ (q : List CoreLeaf). q ++ ms) h.2 ∙ append_assoc h.0 h.1 ms, h.3, all_both xs ys h.1 ms h.4 k)

  pub all_placed : (unit form : ℕ) (xs : List Seen) (ls : List CoreLeaf) → AreSeen work unit form xs ls → AreAllSeen work (at_form unit form xs) ls
  all_placed unit form [] ls h = h
  all_placed unit form (x ∷ xs) ls h = (h.0, h.1, h.2, h.3, all_placed unit form xs h.1 h.4)

  all_as : (xs ys : List PlacedSeen) (ls : List CoreLeaf) → ys ≡ xs → AreAllSeen work xs ls → AreAllSeen work ys ls
  all_as xs ys ls e h = subst (λ (q : List PlacedSeen). AreAllSeen work q ls) (sym e) h

-- ---- forms

items_parts : (is : List ExpandedItem) → flat_map (λ (p : CorePart). part_seen p false) (map (λ (i : ExpandedItem). i.part) is) ≡ items_seen is
items_parts [] = refl
items_parts (i ∷ is) = ap (λ (q : List Seen). part_seen i.part false ++ q) (items_parts is)

pub fault_none : {A : Type 0} (f : Option FormFault) (xs : List A) → f ≡ None → unless_fault f xs ≡ xs
fault_none f xs e = ap (λ (g : Option FormFault). unless_fault g xs) e

pub fault_some : {A : Type 0} (f : Option FormFault) (g : FormFault) (xs : List A) → f ≡ Some g → unless_fault f xs ≡ []
fault_some f g xs e = ap (λ (h : Option FormFault). unless_fault h xs) e

pub blank_seen : (c : UnitForm) → IsBlank c → unless_fault c.fault (items_seen c.items) ≡ []
blank_seen c h = fault_none c.fault (items_seen c.items) h.fault ∙ ap items_seen h.items

result_leaves : (work : Work) (unit form : ℕ) (c : UnitForm) (r : Result Parts Broken) (met : Counted) → IsResult work unit form c r met → AreSeen work unit form (unless_fault c.fault (items_seen c.items)) (form_leaves r)
result_leaves work unit form c (Err e) met h = subst (λ (q : List Seen). AreSeen work unit form q []) (sym (fault_some c.fault h.0 (items_seen c.items) h.1)) refl
result_leaves work unit form c (Ok ps) met h =
    subst (λ (q : List Seen). AreSeen work unit form q (leaves_of_parts ps)) (items_parts c.items ∙ sym (fault_none c.fault (items_seen c.items) h.whole))
    (parts_leaves work unit form false (map (λ (i : ExpandedItem). i.part) c.items) ps h.parts h.levels)

pub forms_leaves : (work : Work) (unit form : ℕ) (cs : List UnitForm) (fs : List Formed) → FormsStand work unit form cs fs → AreAllSeen work (forms_seen unit form cs) (unit_leaves fs)
forms_leaves work unit form [] [] h = refl
forms_leaves work unit form [] (f ∷ fs) h = absurd h
forms_leaves work unit form (c ∷ cs) [] h =
    all_as work (forms_seen unit (suc form) cs) (forms_seen unit form (c ∷ cs)) [] (ap (λ (q : List Seen). at_form unit form q ++ forms_seen unit (suc form) cs) (blank_seen c h.0)) (forms_leaves work unit (suc form) cs [] h.1)
forms_leaves work unit form (c ∷ cs) (f ∷ fs) (inl h) =
    all_as work (forms_seen unit (suc form) cs) (forms_seen unit form (c ∷ cs)) (unit_leaves (f ∷ fs)) (ap (λ (q : List Seen). at_form unit form q ++ forms_seen unit (suc form) cs) (blank_seen c h.0)) (forms_leaves work unit (suc form) cs (f ∷ fs) h.2)
forms_leaves work unit form (c ∷ cs) (f ∷ fs) (inr h) =
    all_both work (at_form unit form (unless_fault c.fault (items_seen c.items))) (forms_seen unit (suc form) cs) (form_leaves f.result) (unit_leaves fs)
    (all_placed work unit form (unless_fault c.fault (items_seen c.items)) (form_leaves f.result) (result_leaves work unit form c f.result f.counted h.1)) (forms_leaves work unit (suc form) cs fs h.2)

pub units_leaves : (work : Work) (text : LibraryName → List ℕ) (uris : List (List ℕ)) (all : List Placed) (p : Program) (place : ℕ) (cs : List CodeUnit) (rs : List UnitResult) → UnitsStand work text uris all p place cs rs →
    AreAllSeen work (units_seen place cs) (program_leaves rs)
units_leaves work text uris all p place [] [] h = refl
units_leaves work text uris all p place [] (r ∷ rs) h = absurd h
units_leaves work text uris all p place (c ∷ cs) [] h = absurd h
units_leaves work text uris all p place (c ∷ cs) (r ∷ rs) h =
    all_both work (forms_seen place 0 c.forms) (units_seen (suc place) cs) (unit_leaves r.forms) (program_leaves rs) (forms_leaves work place 0 c.forms r.forms h.0.forms) (units_leaves work text uris all p (suc place) cs rs h.1)

-- ---- units whose forms stand for something

-- units from a place on, each at its place
abbrev pub FormedFrom : Work → (place : ℕ) → List CodeUnit → Type 0
FormedFrom work place cs = (n : ℕ) (u : CodeUnit) → slice_get cs n ≡ Some u → IsFormed work (place + n) u.forms

formed_rest : (work : Work) (place : ℕ) (c : CodeUnit) (cs : List CodeUnit) → FormedFrom work place (c ∷ cs) → FormedFrom work (suc place) cs
formed_rest work place c cs h n u at =
    let e : place + suc n ≡ suc place + n = omega arith in
    subst (λ (k : ℕ). IsFormed work k u.forms) e (h (suc n) u at)

formed_first : (work : Work) (place : ℕ) (c : CodeUnit) (cs : List CodeUnit) → FormedFrom work place (c ∷ cs) → IsFormed work place c.forms
formed_first work place c cs h =
    let e : place + 0 ≡ place = omega arith in
    subst (λ (k : ℕ). IsFormed work k c.forms) e (h 0 c refl)

formed_leaves : (work : Work) (place : ℕ) (cs : List CodeUnit) → FormedFrom work place cs → (ls : List CoreLeaf) × AreAllSeen work (units_seen place cs) ls
formed_leaves work place [] h = ([], refl)
formed_leaves work place (c ∷ cs) h =
    let one = formed_first work place c cs h in
    let rest = formed_leaves work (suc place) cs (formed_rest work place c cs h) in (
      unit_leaves one.0 ++ rest.0,
      all_both work (forms_seen place 0 c.forms) (units_seen (suc place) cs) (unit_leaves one.0) rest.0 (forms_leaves work place 0 c.forms one.0 one.1) rest.1,
    )

-- the leaves of such units are some
pub units_seen_are : (work : Work) (cs : List CodeUnit) → AreFormedIn work cs → (ls : List CoreLeaf) × AreAllSeen work (units_seen 0 cs) ls
units_seen_are work cs h = formed_leaves work 0 cs (λ n u at. let e : n ≡ 0 + n = omega arith in subst (λ (k : ℕ). IsFormed work k u.forms) e (h n u at))

formed_from : (work : Work) (text : LibraryName → List ℕ) (uris : List (List ℕ)) (all : List Placed) (p : Program) (place : ℕ) (cs : List CodeUnit) (rs : List UnitResult) → UnitsStand work text uris all p place cs rs → FormedFrom work place cs
formed_from work text uris all p place [] [] h n u at = cc
formed_from work text uris all p place [] (r ∷ rs) h n u at = absurd h
formed_from work text uris all p place (c ∷ cs) [] h n u at = absurd h
formed_from work text uris all p place (c ∷ cs) (r ∷ rs) h zero u at =
    let same : c ≡ u = cc in
    let e : place ≡ place + 0 = omega arith in
    subst (λ (k : ℕ). IsFormed work k u.forms) e (subst (λ (x : CodeUnit). IsFormed work place x.forms) same (r.forms, h.0.forms))
formed_from work text uris all p place (c ∷ cs) (r ∷ rs) h (suc n) u at =
    let e : suc place + n ≡ place + suc n = omega arith in
    subst (λ (k : ℕ). IsFormed work k u.forms) e (formed_from work text uris all p (suc place) cs rs h.1 n u at)

-- the units of a program that stands for one are such
pub units_formed : (work : Work) (text : LibraryName → List ℕ) (uris : List (List ℕ)) (all : List Placed) (p : Program) (cs : List CodeUnit) → UnitsStand work text uris all p 0 cs p.units → AreFormedIn work cs
units_formed work text uris all p cs h n u at =
    let e : 0 + n ≡ n = omega arith in
    subst (λ (k : ℕ). IsFormed work k u.forms) e (formed_from work text uris all p 0 cs p.units h n u at)
