-- Where a program is written and read, by the leaves and the forms of the code.
use Rattle.std.proofs.Common.{◌≡◌, ◌⊎◌, inl, inr, ◌↔◌, ℕ, suc, Bool, List, [], ◌∷◌, ◌++◌, map, reverse, Result, Ok, Err, refl, sym, ap, ◌∙◌, subst, append_assoc, Contains}
use Rattle.std.specs.List.{flat_map}
use Rattle.std.specs.List.Sorted.{IsStrictlySortedBy}
use Rattle.std.specs.Cmp.{both_ways}
use Rattle.std.proofs.lemmas.List.{append-nil}
use Rattle.std.proofs.lemmas.Grind.{flat_map-append}
use Rattle.scheme_model.specs.declared.Occ.{Occ}
use Rattle.scheme_model.specs.Cores as model
use Rattle.scheme_model.specs.Cores.{Parts}
use Rattle.scheme_model.specs.Live as live
use Rattle.scheme_model.specs.Live.{CoreLeaf, name_places}
use Rattle.scheme_model.specs.Order.{Counted}
use Rattle.scheme_model.specs.IncludedUnits.{Placed}
use Rattle.scheme_model.specs.Program.{Program, UnitResult}
use Rattle.scheme_model.specs.ProgramArrows.{places_at, binders_in, program_leaves}
use Rattle.scheme_model.specs.Requirements.{LibraryName}
use Rattle.scheme_model.specs.Spelling.{is_member}
use Rattle.scheme_model.specs.Steps.{Broken}
use Rattle.scheme_model.specs.Trees.{Tree}
use Rattle.scheme_model.specs.UnitExpansion.{Formed}
use Rattle.syntax_tree.specs.declared.trees.Work.{Work}
use Rattle.core_tree.specs.Names.{AllMatch, IsTarget, IsUse}
use Rattle.core_tree.specs.Units.{IsBlank, IsResult, FormsStand, UnitsStand}
use Rattle.core_tree.specs.declared.cores.Target.{Target}
use Rattle.core_tree.specs.declared.traces.MacroUse.{MacroUse}
use Rattle.core_tree.specs.declared.units.UnitForm.{UnitForm}
use Rattle.core_tree.specs.declared.units.Unit.{Unit as CodeUnit}
use Rattle.scheme_model.specs.Accesses.{assigned_in, referred_in, form_keywords, unit_keywords, all_keywords, target_places, written_in, read_in}
use Rattle.program_leaves.specs.Pairs.{AreOccs}
use Rattle.arrow_index.specs.Keywords.{core_places, macro_places, trace_places, keyword_places, forms_keywords, units_keywords}
use Rattle.program_leaves.specs.Members.{IsIn}
use Rattle.program_leaves.specs.Placed.{occ_cmp}
use Rattle.arrow_index.proofs.ClassLaws.{member_in, in_member}
use Rattle.program_leaves.proofs.MemberLaws.{in_left, in_right, in_either, in_from, contains_from, in_reverse, in_flat_map, from_flat_map}
use Rattle.program_leaves.proofs.PlacedLaws.{fault_none, fault_some}
use Rattle.program_leaves.proofs.QuotedLaws.{quoted_none}
use Rattle.program_leaves.proofs.ToldLaws.{from_reverse}

-- ---- leaves

pub assigned-append : (xs ys : List CoreLeaf) → assigned_in (xs ++ ys) ≡ assigned_in xs ++ assigned_in ys
assigned-append [] ys = refl
assigned-append (live.Binds b ∷ xs) ys = assigned-append xs ys
assigned-append (live.Uses t ∷ xs) ys = assigned-append xs ys
assigned-append (live.Assigns t ∷ xs) ys = ap (λ (q : List Occ). places_at t.occ ++ q) (assigned-append xs ys) ∙ sym (append_assoc (places_at t.occ) (assigned_in xs) (assigned_in ys))
assigned-append (live.Quotes o ∷ xs) ys = assigned-append xs ys
assigned-append (live.Defines m ∷ xs) ys = assigned-append xs ys

pub quoted_assigned : {A : Type 0} (f : A → Bool) (t : Tree A) → assigned_in (name_places f t) ≡ []
quoted_assigned f t = quoted_none assigned_in assigned-append refl (λ o. refl) f t

pub referred-append : (xs ys : List CoreLeaf) → referred_in (xs ++ ys) ≡ referred_in xs ++ referred_in ys
referred-append [] ys = refl
referred-append (live.Binds b ∷ xs) ys = referred-append xs ys
referred-append (live.Uses t ∷ xs) ys = ap (λ (q : List Occ). places_at t.occ ++ q) (referred-append xs ys) ∙ sym (append_assoc (places_at t.occ) (referred_in xs) (referred_in ys))
referred-append (live.Assigns t ∷ xs) ys = referred-append xs ys
referred-append (live.Quotes o ∷ xs) ys = referred-append xs ys
referred-append (live.Defines m ∷ xs) ys = referred-append xs ys

pub quoted_referred : {A : Type 0} (f : A → Bool) (t : Tree A) → referred_in (name_places f t) ≡ []
quoted_referred f t = quoted_none referred_in referred-append refl (λ o. refl) f t

-- nothing, or something, at the end of what was gathered
pub no_more : (old xs : List Occ) → xs ≡ [] → old ≡ old ++ xs
no_more old xs e = sym (append-nil old) ∙ ap (λ (q : List Occ). old ++ q) (sym e)

pub some_more : (old new xs ys : List Occ) → new ≡ old ++ xs → ys ≡ xs ++ [] → new ≡ old ++ ys
some_more old new xs ys h e = h ∙ ap (λ (q : List Occ). old ++ q) (sym (append-nil xs) ∙ sym e)

-- ---- the same members

abbrev pub Alike : List Occ → List Occ → Type 0
Alike xs ys = (o : Occ) → IsIn o xs ↔ IsIn o ys

alike_is : (xs ys : List Occ) → xs ≡ ys → Alike xs ys
alike_is xs ys e o = (λ h. subst (IsIn o) e h, λ h. subst (IsIn o) (sym e) h)

alike_then : (xs ys zs : List Occ) → Alike xs ys → Alike ys zs → Alike xs zs
alike_then xs ys zs f g o = (λ h. (g o).0 ((f o).0 h), λ h. (f o).1 ((g o).1 h))

either_part : (xs ys zs ws : List Occ) (o : Occ) → (IsIn o xs → IsIn o zs) → (IsIn o ys → IsIn o ws) → IsIn o xs ⊎ IsIn o ys → IsIn o (zs ++ ws)
either_part xs ys zs ws o f g (inl h) = in_left o zs ws (f h)
either_part xs ys zs ws o f g (inr h) = in_right o zs ws (g h)

pub alike_both : (xs ys zs ws : List Occ) → Alike xs zs → Alike ys ws → Alike (xs ++ ys) (zs ++ ws)
alike_both xs ys zs ws f g o = (
  λ h. either_part xs ys zs ws o (f o).0 (g o).0 (in_either o xs ys h),
  λ h. either_part zs ws xs ys o (f o).1 (g o).1 (in_either o zs ws h),
)

-- turned round
alike_turned : {X : Type 0} (f : X → List Occ) (xs : List X) → Alike (flat_map f (reverse xs)) (flat_map f xs)
alike_turned f xs o = (
  λ h. let a = from_flat_map f o (reverse xs) h in in_flat_map f a.0 o xs (from_reverse a.0 xs a.1) a.2,
  λ h. let a = from_flat_map f o xs h in in_flat_map f a.0 o (reverse xs) (in_reverse a.0 xs a.1) a.2,
)

-- ---- keywords

abbrev of_target : model.Target → List Occ
of_target t = places_at t.occ

abbrev of_keyword : model.MacroUse → List Occ
of_keyword u = places_at u.keyword.occ

flat_places : (ts : List model.Target) → target_places ts ≡ flat_map of_target ts
flat_places [] = refl
flat_places (t ∷ ts) = ap (λ (q : List Occ). places_at t.occ ++ q) (flat_places ts)

keyword_row : (us : List model.MacroUse) → flat_map of_target (map (λ (u : model.MacroUse). u.keyword) us) ≡ flat_map of_keyword us
keyword_row [] = refl
keyword_row (u ∷ us) = ap (λ (q : List Occ). places_at u.keyword.occ ++ q) (keyword_row us)

places-append : (ts us : List model.Target) → target_places (ts ++ us) ≡ target_places ts ++ target_places us
places-append ts us = flat_places (ts ++ us) ∙ flat_map-append of_target ts us ∙ (λ j. sym (flat_places ts) j ++ sym (flat_places us) j)

core_row : (work : Work) (unit form : ℕ) (xs : List Target) (ys : List model.Target) → AllMatch (IsTarget work.symbols unit form) xs ys → core_places xs ≡ flat_map of_target ys
core_row work unit form [] [] h = refl
core_row work unit form [] (y ∷ ys) h = absurd h
core_row work unit form (x ∷ xs) [] h = absurd h
core_row work unit form (x ∷ xs) (y ∷ ys) h = λ j. places_at (h.0.place j) ++ core_row work unit form xs ys h.1 j

macro_row : (work : Work) (unit form : ℕ) (xs : List MacroUse) (ys : List model.MacroUse) → AllMatch (IsUse work.symbols unit form) xs ys → macro_places xs ≡ flat_map of_keyword ys
macro_row work unit form [] [] h = refl
macro_row work unit form [] (y ∷ ys) h = absurd h
macro_row work unit form (x ∷ xs) [] h = absurd h
macro_row work unit form (x ∷ xs) (y ∷ ys) h = λ j. places_at (h.0.keyword.place j) ++ macro_row work unit form xs ys h.1 j

blank_keywords : (c : UnitForm) → IsBlank c → keyword_places c ≡ []
blank_keywords c h = fault_none c.fault (trace_places c.trace) h.fault ∙ (λ j. core_places (h.keywords j) ++ macro_places (h.uses j))

result_keywords : (work : Work) (unit form : ℕ) (c : UnitForm) (r : Result Parts Broken) (k : Counted) → IsResult work unit form c r k → Alike (keyword_places c) (target_places (form_keywords r k))
result_keywords work unit form c (Err e) k h = alike_is (keyword_places c) [] (fault_some c.fault h.0 (trace_places c.trace) h.1)
result_keywords work unit form c (Ok ps) k h =
    let cores = flat_map of_target k.keywords in
    let macros = flat_map of_keyword k.met in
    let cores' = flat_map of_target (reverse k.keywords) in
    let macros' = flat_map of_keyword (reverse k.met) in
    let keywords = map (λ (u : model.MacroUse). u.keyword) k.met in
    let code : keyword_places c ≡ cores' ++ macros' =
    fault_none c.fault (trace_places c.trace) h.whole ∙ (λ j. core_row work unit form c.trace.keywords (reverse k.keywords) h.keywords j ++ macro_row work unit form c.trace.uses (reverse k.met) h.uses j) in
    let meant : cores ++ macros ≡ target_places (k.keywords ++ keywords) =
    (λ j. sym (flat_places k.keywords) j ++ (sym (keyword_row k.met) ∙ sym (flat_places keywords)) j) ∙ sym (places-append k.keywords keywords) in
    alike_then (keyword_places c) (cores' ++ macros') (target_places (k.keywords ++ keywords)) (alike_is (keyword_places c) (cores' ++ macros') code)
    (alike_then (cores' ++ macros') (cores ++ macros) (target_places (k.keywords ++ keywords)) (alike_both cores' macros' cores macros (alike_turned of_target k.keywords) (alike_turned of_keyword k.met)) (alike_is (cores ++ macros) (target_places (k.keywords ++ keywords)) meant))

-- a blank form adds none
past_blank : (c : UnitForm) (cs : List UnitForm) (os : List Occ) → IsBlank c → Alike (forms_keywords cs) os → Alike (forms_keywords (c ∷ cs)) os
past_blank c cs os h f = alike_then (forms_keywords (c ∷ cs)) (forms_keywords cs) os (alike_is (forms_keywords (c ∷ cs)) (forms_keywords cs) (ap (λ (q : List Occ). q ++ forms_keywords cs) (blank_keywords c h))) f

-- parts that are told by parts
keywords_both : (xs ys : List Occ) (ts us : List model.Target) → Alike xs (target_places ts) → Alike ys (target_places us) → Alike (xs ++ ys) (target_places (ts ++ us))
keywords_both xs ys ts us f g =
    alike_then (xs ++ ys) (target_places ts ++ target_places us) (target_places (ts ++ us)) (alike_both xs ys (target_places ts) (target_places us) f g) (alike_is (target_places ts ++ target_places us) (target_places (ts ++ us)) (sym (places-append ts us)))

forms_alike : (work : Work) (unit form : ℕ) (cs : List UnitForm) (fs : List Formed) → FormsStand work unit form cs fs → Alike (forms_keywords cs) (target_places (unit_keywords fs))
forms_alike work unit form [] [] h = alike_is [] [] refl
forms_alike work unit form [] (f ∷ fs) h = absurd h
forms_alike work unit form (c ∷ cs) [] h = past_blank c cs [] h.0 (forms_alike work unit (suc form) cs [] h.1)
forms_alike work unit form (c ∷ cs) (f ∷ fs) (inl h) = past_blank c cs (target_places (unit_keywords (f ∷ fs))) h.0 (forms_alike work unit (suc form) cs (f ∷ fs) h.2)
forms_alike work unit form (c ∷ cs) (f ∷ fs) (inr h) =
    keywords_both (keyword_places c) (forms_keywords cs) (form_keywords f.result f.counted) (unit_keywords fs) (result_keywords work unit form c f.result f.counted h.1) (forms_alike work unit (suc form) cs fs h.2)

pub units_alike : (work : Work) (text : LibraryName → List ℕ) (uris : List (List ℕ)) (all : List Placed) (p : Program) (place : ℕ) (cs : List CodeUnit) (rs : List UnitResult) → UnitsStand work text uris all p place cs rs →
    Alike (units_keywords cs) (target_places (all_keywords rs))
units_alike work text uris all p place [] [] h = alike_is [] [] refl
units_alike work text uris all p place [] (r ∷ rs) h = absurd h
units_alike work text uris all p place (c ∷ cs) [] h = absurd h
units_alike work text uris all p place (c ∷ cs) (r ∷ rs) h =
    keywords_both (forms_keywords c.forms) (units_keywords cs) (unit_keywords r.forms) (all_keywords rs) (forms_alike work place 0 c.forms r.forms h.0.forms) (units_alike work text uris all p (suc place) cs rs h.1)

-- ---- a program

-- what is sorted of such a list
pub sorted_occs : (found these sorted : List Occ) → Alike found these → IsStrictlySortedBy occ_cmp sorted × ((o : Occ) → Contains sorted o ↔ Contains found o) → AreOccs sorted these
sorted_occs found these sorted f s = record {
  sorted = s.0;
  same = λ o. (
    λ k. contains_from o these ((f o).0 (in_from o found ((s.1 o).0 k))),
    λ k. (s.1 o).1 (contains_from o found ((f o).1 (in_from o these k))),
  );
}

pub occs_alike : (sorted these : List Occ) → AreOccs sorted these → Alike sorted these
occs_alike sorted these are o = (λ h. in_from o these ((are.same o).0 (contains_from o sorted h)), λ h. in_from o sorted ((are.same o).1 (contains_from o these h)))

-- members are told alike
pub told_alike : (sorted these : List Occ) (o : Occ) → AreOccs sorted these → is_member sorted o ≡ is_member these o
told_alike sorted these o are =
    both_ways (is_member sorted o) (is_member these o) (λ h. in_member o these ((occs_alike sorted these are o).0 (member_in o sorted h))) (λ h. in_member o sorted ((occs_alike sorted these are o).1 (member_in o these h)))

-- what is looked for in a view of such a list
pub found_among : (view sorted these : List Occ) (o : Occ) → view ≡ sorted → AreOccs sorted these → (b : Bool) → (IsStrictlySortedBy occ_cmp view → b ≡ is_member view o) → b ≡ is_member these o
found_among view sorted these o e are b h = h (subst (IsStrictlySortedBy occ_cmp) (sym e) are.sorted) ∙ ap (λ (os : List Occ). is_member os o) e ∙ told_alike sorted these o are

pub written_law : (p : Program) (binders found sorted : List Occ) → Alike binders (binders_in p) → found ≡ binders ++ assigned_in (program_leaves p.units) → IsStrictlySortedBy occ_cmp sorted × ((o : Occ) → Contains sorted o ↔ Contains found o) →
    AreOccs sorted (written_in p)
written_law p binders found sorted f e s =
    let assigned = assigned_in (program_leaves p.units) in
    sorted_occs found (written_in p) sorted
    (alike_then found (binders ++ assigned) (written_in p) (alike_is found (binders ++ assigned) e) (alike_both binders assigned (binders_in p) assigned f (alike_is assigned assigned refl))) s

pub read_law : (work : Work) (text : LibraryName → List ℕ) (uris : List (List ℕ)) (all : List Placed) (p : Program) (cs : List CodeUnit) (found sorted : List Occ) → UnitsStand work text uris all p 0 cs p.units →
    found ≡ referred_in (program_leaves p.units) ++ units_keywords cs → IsStrictlySortedBy occ_cmp sorted × ((o : Occ) → Contains sorted o ↔ Contains found o) → AreOccs sorted (read_in p)
read_law work text uris all p cs found sorted h e s =
    let referred = referred_in (program_leaves p.units) in
    let words = target_places (all_keywords p.units) in
    sorted_occs found (read_in p) sorted
    (alike_then found (referred ++ units_keywords cs) (read_in p) (alike_is found (referred ++ units_keywords cs) e) (alike_both referred (units_keywords cs) referred words (alike_is referred referred refl) (units_alike work text uris all p 0 cs p.units h))) s
