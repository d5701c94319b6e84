-- The occurrences that a class has parts for are its members that have a prefix, and what is told by its members is told by them.
use Rattle.std.proofs.Common.{◌≡◌, ◌⊎◌, inl, inr, ◌↔◌, ℕ, zero, suc, ◌==◌, List, [], ◌∷◌, ◌++◌, map, filter, length, Bool, true, false, Option, Some, None, cond, refl, sym, ap, ◌∙◌, subst, arith}
use Rattle.std.specs.Prelude.{nat_lt, ◌||◌, ◌&&◌}
use Rattle.std.specs.List.{Contains, list_any}
use Rattle.std.proofs.lemmas.Bool.{lt-ltb, or_cases}
use Rattle.scheme_model.specs.declared.Occ.{Occ}
use Rattle.scheme_model.specs.Entries.{same_occ}
use Rattle.scheme_model.specs.Declarations.{one_holds}
use Rattle.scheme_model.specs.IncludedUnits.{Placed}
use Rattle.scheme_model.specs.Program.{Program, UnitResult}
use Rattle.scheme_model.specs.Spelling.{Link, is_member, class_of, prefixes_of}
use Rattle.rename_model.specs.Difference.{Apart, Difference, Kind, Side, difference, first_among, first_difference, is_renamed, kind_of, option_difference, side_of, binders_of, use_kind}
use Rattle.rename_model.specs.Reach.{holds_one, in_reach, is_reachable, reach_of}
use Rattle.rename_model.specs.SameProgram.{ExportChange, Plan, live_in, stretches}
use Rattle.rename_model.specs.Walks.{Spot, AtUse, AtQuoted, AtRule, AtTemplate, AtExport, AtErrors, AtShape}
use Rattle.program_leaves.specs.Members.{IsIn}
use Rattle.program_leaves.proofs.KeyLaws.{one_occ}
use Rattle.program_leaves.proofs.MemberLaws.{contains_from, in_from, in_map, from_map}
use Rattle.arrow_index.specs.Classes.{AreParts}
use Rattle.arrow_index.proofs.ClassLaws.{or_left, or_right, same_test, itself, member_in, in_member}
use Rattle.arrow_index.specs.declared.classes.ClassPart as bare
use Rattle.program_answers.specs.Classed.{bare_part}
use Rattle.program_answers.specs.declared.classes.ClassPart.{ClassPart}
use Rattle.text_edits.specs.Members.{is_part}

-- ---- those that pass a test

in_filter : {X : Type 0} (f : X → Bool) (x : X) (xs : List X) → IsIn x xs → f x ≡ true → IsIn x (filter f xs)
in_filter f x [] h t = absurd h
in_filter f x (y ∷ ys) (inl e) t = subst (λ (b : Bool). IsIn x (cond b (y ∷ filter f ys) (filter f ys))) (sym (ap f e ∙ t)) (inl e)
in_filter f x (y ∷ ys) (inr h) t = go (f y) (in_filter f x ys h t)
  where
    go : (b : Bool) → IsIn x (filter f ys) → IsIn x (cond b (y ∷ filter f ys) (filter f ys))
    go true rest = inr rest
    go false rest = rest

from_filter : {X : Type 0} (f : X → Bool) (x : X) (xs : List X) → IsIn x (filter f xs) → IsIn x xs × (f x ≡ true)
from_filter f x [] h = absurd h
from_filter f x (y ∷ ys) h = go (from_filter f x ys) (f y) refl h
  where
    go : (IsIn x (filter f ys) → IsIn x ys × (f x ≡ true)) → (b : Bool) → f y ≡ b → IsIn x (cond b (y ∷ filter f ys) (filter f ys)) → IsIn x (y ∷ ys) × (f x ≡ true)
    go more true e (inl k) = (inl k, ap f (sym k) ∙ e)
    go more true e (inr k) = let r = more k in (inr r.0, r.1)
    go more false e k = let r = more k in (inr r.0, r.1)

same_filter : {X : Type 0} (f g : X → Bool) → ((x : X) → f x ≡ g x) → (xs : List X) → filter f xs ≡ filter g xs
same_filter f g h [] = refl
same_filter f g h (x ∷ xs) = λ j. cond (h x j) (x ∷ same_filter f g h xs j) (same_filter f g h xs j)

-- ---- the parts of a class

first_prefix : (ls : List Link) (x : Occ) → is_part ls x ≡ true → (s : List ℕ) × IsIn s (prefixes_of ls x [])
first_prefix ls x h = some (prefixes_of ls x []) h
  where
    some : (ts : List (List ℕ)) → nat_lt 0 (length ts) ≡ true → (s : List ℕ) × IsIn s ts
    some [] k = absurd cc
    some (t ∷ ts) k = (t, inl refl)

has_first : (ls : List Link) (x : Occ) (s : List ℕ) → IsIn s (prefixes_of ls x []) → is_part ls x ≡ true
has_first ls x s h = some (prefixes_of ls x []) h
  where
    some : (ts : List (List ℕ)) → IsIn s ts → nat_lt 0 (length ts) ≡ true
    some [] k = absurd k
    some (t ∷ ts) k = lt-ltb 0 (length (t ∷ ts)) (omega arith)

pub parts_members : (ls : List Link) (o : Occ) (parts : List ClassPart) → AreParts (map bare_part parts) ls o → (x : Occ) →
    is_member (map (λ (p : ClassPart). p.occ) parts) x ≡ is_member (filter (is_part ls) (class_of ls o)) x
parts_members ls o parts are x = same_test _ _ there back
  where
    there : is_member (map (λ (p : ClassPart). p.occ) parts) x ≡ true → is_member (filter (is_part ls) (class_of ls o)) x ≡ true
    there h =
        let p = from_map (λ (p : ClassPart). p.occ) x parts (member_in x (map (λ (p : ClassPart). p.occ) parts) h) in
        let both = (are.same (bare_part p.0)).0 (contains_from (bare_part p.0) (map bare_part parts) (in_map bare_part p.0 parts p.1)) in
        let member : IsIn p.0.occ (class_of ls o) = in_from p.0.occ (class_of ls o) both.0 in
        let part : is_part ls p.0.occ ≡ true = has_first ls p.0.occ p.0.prefix (in_from p.0.prefix (prefixes_of ls p.0.occ []) both.1) in
        in_member x (filter (is_part ls) (class_of ls o)) (subst (λ (y : Occ). IsIn y (filter (is_part ls) (class_of ls o))) p.2 (in_filter (is_part ls) p.0.occ (class_of ls o) member part))

    back : is_member (filter (is_part ls) (class_of ls o)) x ≡ true → is_member (map (λ (p : ClassPart). p.occ) parts) x ≡ true
    back h =
        let r = from_filter (is_part ls) x (class_of ls o) (member_in x (filter (is_part ls) (class_of ls o)) h) in
        let s = first_prefix ls x r.1 in
        let own : bare.ClassPart = record { occ = x; prefix = s.0 } in
        let has = (are.same own).1 (contains_from x (class_of ls o) r.0, contains_from s.0 (prefixes_of ls x []) s.1) in
        let p = from_map bare_part own parts (in_from own (map bare_part parts) has) in
        let same : p.0.occ ≡ x = ap (λ (q : bare.ClassPart). q.occ) p.2 in
        in_member x (map (λ (p : ClassPart). p.occ) parts) (subst (λ (y : Occ). IsIn y (map (λ (p : ClassPart). p.occ) parts)) same (in_map (λ (p : ClassPart). p.occ) p.0 parts p.1))

-- ---- units in reach, by their members

any_in : (f : Occ → Bool) (os : List Occ) (o : Occ) → IsIn o os → f o ≡ true → list_any f os ≡ true
any_in f [] o h t = absurd h
any_in f (p ∷ os) o (inl e) t = or_left (f p) (list_any f os) (ap f e ∙ t)
any_in f (p ∷ os) o (inr h) t = or_right (f p) (list_any f os) (any_in f os o h t)

any_from : (f : Occ → Bool) (os : List Occ) → list_any f os ≡ true → (o : Occ) × IsIn o os × (f o ≡ true)
any_from f [] h = absurd cc
any_from f (p ∷ os) h = by (any_from f os) (or_cases (f p) (list_any f os) h)
  where
    by : (list_any f os ≡ true → (o : Occ) × IsIn o os × (f o ≡ true)) → (f p ≡ true) ⊎ (list_any f os ≡ true) → (o : Occ) × IsIn o (p ∷ os) × (f o ≡ true)
    by more (inl e) = (p, inl refl, e)
    by more (inr e) = let r = more e in (r.0, inr r.1, r.2)

module _ (os ps : List Occ) (same : (o : Occ) → is_member os o ≡ is_member ps o) where
  any_same : (f : Occ → Bool) → list_any f os ≡ list_any f ps
  any_same f = same_test _ _
      (λ h. let r = any_from f os h in any_in f ps r.0 (member_in r.0 ps (sym (same r.0) ∙ in_member r.0 os r.1)) r.2)
      (λ h. let r = any_from f ps h in any_in f os r.0 (member_in r.0 os (same r.0 ∙ in_member r.0 ps r.1)) r.2)

  holders_same : (us : List UnitResult) → filter (holds_one os) us ≡ filter (holds_one ps) us
  holders_same us = same_filter (holds_one os) (holds_one ps) (λ r. ap (λ b. is_reachable r && b) (any_same (one_holds r.unit.number 0 r.unit.forms))) us

  pub reach_same : (us : List UnitResult) → in_reach us os ≡ in_reach us ps
  reach_same us = ap (reach_of us) (holders_same us)

  -- ---- differences, by members

  renamed_same : (o : Option Occ) → is_renamed os o ≡ is_renamed ps o
  renamed_same None = refl
  renamed_same (Some o) = same o

  kind_same : (s : Spot) (o : Option Occ) → kind_of os s o ≡ kind_of ps s o
  kind_same AtUse o = ap use_kind (renamed_same o)
  kind_same AtQuoted o = refl
  kind_same AtRule o = refl
  kind_same AtTemplate o = refl
  kind_same AtExport o = refl
  kind_same AtErrors o = refl
  kind_same AtShape o = refl

  told_same : (old new : Program) (a : Option Apart) → option_difference old new os a ≡ option_difference old new ps a
  told_same old new None = refl
  told_same old new (Some a) = λ j. Some (record { kind = kind_same a.old.spot a.old.occ j; unit = a.unit; form = a.form; occ = a.old.occ; before = side_of (binders_of old) a.old.shown; after = side_of (binders_of new) a.new.shown })

  pub difference_same : (all : List Placed) (old new : Program) (xs ys : List ExportChange) → xs ≡ ys →
      first_difference all old new (record { members = os; exports = xs }) ≡ first_difference all old new (record { members = ps; exports = ys })
  difference_same all old new xs ys e =
      told_same old new (first_among (live_in all old) (stretches old new xs (in_reach old.units os)))
      ∙ (λ j. option_difference old new ps (first_among (live_in all old) (stretches old new (e j) (reach_same old.units j))))
