-- The parts of a class and its standard names: their order, and which they are.
use Rattle.std.proofs.Common.{◌≡◌, ◌⊎◌, inl, inr, ◌↔◌, ℕ, List, [], ◌∷◌, ◌++◌, map, Bool, true, false, refl, sym, ap, ◌∙◌, subst}
use Rattle.std.specs.Prelude.{◌&&◌, not, if◌then◌else◌}
use Rattle.std.specs.Str.{bytes_eq}
use Rattle.std.specs.List.{Contains, flat_map}
use Rattle.std.specs.List.Sorted.{IsStrictlySortedBy}
use Rattle.std.specs.Ordering.{nat_cmp, eq_by_cmp}
use Rattle.std.specs.Cmp.{IsTotalOrder, on_total, then_total}
use Rattle.std.specs.Cmp.Lexicographic.{slice_cmp}
use Rattle.std.proofs.lemmas.Bool.{or_cases}
use Rattle.std.proofs.lemmas.Cmp.{nat_list_cmp_total}
use Rattle.std.proofs.lemmas.Map.Text.{is_eq-slice_cmp}
use Rattle.scheme_model.specs.declared.Occ.{Occ}
use Rattle.scheme_model.specs.Entries.{Source, At, StandardName, same_occ}
use Rattle.scheme_model.specs.Spelling.{Link, is_member, class_of, has_prefix, prefixes_of, standard_origins, is_joined, is_end}
use Rattle.syntax_tree.proofs.InternLaws.{bytes_told}
use Rattle.program_leaves.specs.Members.{IsIn}
use Rattle.program_leaves.specs.Placed.{occ_cmp}
use Rattle.arrow_index.specs.Links.{source_of, as_link}
use Rattle.arrow_index.specs.Classes.{parts_from, name_from, names_from, has_part, part_cmp, AreSaid, AreParts, AreStandard}
use Rattle.arrow_index.specs.declared.links.Link as code_link
use Rattle.arrow_index.specs.declared.links.LinkOrigin.{LinkOrigin}
use Rattle.arrow_index.specs.declared.links.LinkOrigin.TheVariants.{Place, Standard}
use Rattle.arrow_index.specs.declared.classes.ClassPart.{ClassPart}
use Rattle.program_leaves.proofs.KeyLaws.{both_equal, occs_equal, one_occ, left, right}
use Rattle.program_leaves.proofs.MemberLaws.{in_left, in_right, in_either, in_from, contains_from, in_map, from_map, in_flat_map, from_flat_map}
use Rattle.program_leaves.proofs.Orders.{occ_total}
use Rattle.arrow_index.proofs.ClassLaws.{or_left, same_test, itself, member_in, in_member, same_class}
use Rattle.arrow_index.proofs.ClassWalks.{any_from, any_in, same_joined}

-- ---- the order of parts

pub part_total : IsTotalOrder part_cmp
part_total = then_total (on_total (λ (p : ClassPart). p.occ) occ_total) (on_total (λ (p : ClassPart). p.prefix) nat_list_cmp_total)

abbrev pub same_part : ClassPart → ClassPart → Bool
same_part a b = same_occ a.occ b.occ && bytes_eq a.prefix b.prefix

pub part_ties : (a b : ClassPart) → same_part a b ≡ eq_by_cmp part_cmp a b
part_ties a b = sym (both_equal (occ_cmp a.occ b.occ) (slice_cmp nat_cmp a.prefix b.prefix) ∙ (λ j. occs_equal a.occ b.occ j && is_eq-slice_cmp a.prefix b.prefix j))

pub one_part : (a b : ClassPart) → same_part a b ≡ true → a ≡ b
one_part a b h =
    let o = one_occ a.occ b.occ (left (same_occ a.occ b.occ) (bytes_eq a.prefix b.prefix) h) in
    let p = bytes_told a.prefix b.prefix (right (same_occ a.occ b.occ) (bytes_eq a.prefix b.prefix) h) in
    λ j. record { occ = o j; prefix = p j }

pub name_ties : (s t : List ℕ) → bytes_eq s t ≡ eq_by_cmp (slice_cmp nat_cmp) s t
name_ties s t = sym (is_eq-slice_cmp s t)

-- ---- links of the code, and those that they say

code_source : Source → LinkOrigin
code_source (At o) = Place o
code_source (StandardName s) = Standard s

said_source : (g : Source) → source_of (code_source g) ≡ g
unfolding code_source
said_source (At o) = refl
said_source (StandardName s) = refl

code_of : Link → code_link.Link
code_of l = record { origin = code_source l.origin; target = l.target; prefix = l.prefix }

said_of : (l : Link) → as_link (code_of l) ≡ l
unfolding code_of
said_of l = λ j. record { origin = said_source l.origin j; target = l.target; prefix = l.prefix }

pub said_in : (ls : List code_link.Link) (all : List Link) → AreSaid ls all → (m : Link) → IsIn m (map as_link ls) → IsIn m all
said_in ls all h m k =
    let r = from_map as_link m ls k in
    subst (λ (x : Link). IsIn x all) r.2 (in_from (as_link r.0) all ((h r.0).0 (contains_from r.0 ls r.1)))

pub in_said : (ls : List code_link.Link) (all : List Link) → AreSaid ls all → (m : Link) → IsIn m all → IsIn m (map as_link ls)
in_said ls all h m k =
    let l = code_of m in
    let e : as_link l ≡ m = said_of m in
    let there = in_from l ls ((h l).1 (subst (λ (x : Link). Contains all x) (sym e) (contains_from m all k))) in
    subst (λ (x : Link). IsIn x (map as_link ls)) e (in_map as_link l ls there)

pub joined_said : (ls : List code_link.Link) (all : List Link) (o : Occ) → AreSaid ls all → is_joined (map as_link ls) o ≡ is_joined all o
joined_said ls all o h = same_joined (map as_link ls) all o (said_in ls all h) (in_said ls all h)

class_said : (ls : List code_link.Link) (all : List Link) (o x : Occ) → AreSaid ls all → is_member (class_of (map as_link ls) o) x ≡ is_member (class_of all o) x
class_said ls all o x h = same_class (map as_link ls) all o (said_in ls all h) (in_said ls all h) x

-- ---- the prefixes of an occurrence

has_in : (s : List ℕ) (ts : List (List ℕ)) → has_prefix ts s ≡ true → IsIn s ts
has_in s [] h = absurd cc
has_in s (t ∷ ts) h = by_case (has_in s ts) (or_cases (bytes_eq t s) (has_prefix ts s) h)
  where
    by_case : (has_prefix ts s ≡ true → IsIn s ts) → (bytes_eq t s ≡ true) ⊎ (has_prefix ts s ≡ true) → (t ≡ s) ⊎ IsIn s ts
    by_case more (inl e) = inl (bytes_told t s e)
    by_case more (inr e) = inr (more e)

prefixes_keep : (ls : List Link) (o : Occ) (seen : List (List ℕ)) (s : List ℕ) → IsIn s seen → IsIn s (prefixes_of ls o seen)
prefixes_keep [] o seen s h = h
prefixes_keep (l ∷ ls) o seen s h =
    by_test (prefixes_keep ls o (seen ++ l.prefix ∷ []) s (in_left s seen (l.prefix ∷ []) h)) (prefixes_keep ls o seen s h) (same_occ l.target o && not (has_prefix seen l.prefix))
  where
    by_test : IsIn s (prefixes_of ls o (seen ++ l.prefix ∷ [])) → IsIn s (prefixes_of ls o seen) → (b : Bool) → IsIn s (if b then prefixes_of ls o (seen ++ l.prefix ∷ []) else prefixes_of ls o seen)
    by_test more same true = more
    by_test more same false = same

pub prefixes_have : (ls : List Link) (o : Occ) (seen : List (List ℕ)) (l : Link) → IsIn l ls → l.target ≡ o → IsIn l.prefix (prefixes_of ls o seen)
prefixes_have [] o seen l h t = absurd h
prefixes_have (m ∷ ls) o seen l (inr h) t =
    by_test (prefixes_have ls o (seen ++ m.prefix ∷ []) l h t) (prefixes_have ls o seen l h t) (same_occ m.target o && not (has_prefix seen m.prefix))
  where
    by_test : IsIn l.prefix (prefixes_of ls o (seen ++ m.prefix ∷ [])) → IsIn l.prefix (prefixes_of ls o seen) → (b : Bool) → IsIn l.prefix (if b then prefixes_of ls o (seen ++ m.prefix ∷ []) else prefixes_of ls o seen)
    by_test more same true = more
    by_test more same false = same
prefixes_have (m ∷ ls) o seen l (inl e) t = by_test (has_prefix seen m.prefix) refl (same_occ m.target o) here
  where
    here : same_occ m.target o ≡ true
    here = ap (λ (x : Occ). same_occ x o) (ap (λ (x : Link). x.target) e ∙ t) ∙ itself o

    same : m.prefix ≡ l.prefix
    same = ap (λ (x : Link). x.prefix) e

    by_test : (a : Bool) → has_prefix seen m.prefix ≡ a → (b : Bool) → b ≡ true → IsIn l.prefix (if b && not a then prefixes_of ls o (seen ++ m.prefix ∷ []) else prefixes_of ls o seen)
    by_test false h true k = prefixes_keep ls o (seen ++ m.prefix ∷ []) l.prefix (in_right l.prefix seen (m.prefix ∷ []) (inl same))
    by_test true h true k = prefixes_keep ls o seen l.prefix (subst (λ (s : List ℕ). IsIn s seen) same (has_in m.prefix seen h))
    by_test a h false k = absurd cc

pub prefixes_from : (ls : List Link) (o : Occ) (seen : List (List ℕ)) (s : List ℕ) → IsIn s (prefixes_of ls o seen) → IsIn s seen ⊎ ((l : Link) × IsIn l ls × (l.target ≡ o) × (l.prefix ≡ s))
prefixes_from [] o seen s h = inl h
prefixes_from (m ∷ ls) o seen s h = by_test (prefixes_from ls o (seen ++ m.prefix ∷ []) s) (prefixes_from ls o seen s) (same_occ m.target o) refl (not (has_prefix seen m.prefix)) h
  where
    more : IsIn s seen ⊎ ((l : Link) × IsIn l ls × (l.target ≡ o) × (l.prefix ≡ s)) → IsIn s seen ⊎ ((l : Link) × IsIn l (m ∷ ls) × (l.target ≡ o) × (l.prefix ≡ s))
    more (inl k) = inl k
    more (inr k) = inr (k.0, inr k.1, k.2, k.3)

    or_first : same_occ m.target o ≡ true → IsIn s (seen ++ m.prefix ∷ []) ⊎ ((l : Link) × IsIn l ls × (l.target ≡ o) × (l.prefix ≡ s)) → IsIn s seen ⊎ ((l : Link) × IsIn l (m ∷ ls) × (l.target ≡ o) × (l.prefix ≡ s))
    or_first e (inr k) = inr (k.0, inr k.1, k.2, k.3)
    or_first e (inl k) = by_case (in_either s seen (m.prefix ∷ []) k)
      where
        by_case : IsIn s seen ⊎ ((m.prefix ≡ s) ⊎ ⊥) → IsIn s seen ⊎ ((l : Link) × IsIn l (m ∷ ls) × (l.target ≡ o) × (l.prefix ≡ s))
        by_case (inl i) = inl i
        by_case (inr (inl i)) = inr (m, inl refl, one_occ m.target o e, i)
        by_case (inr (inr i)) = absurd i

    by_test : (IsIn s (prefixes_of ls o (seen ++ m.prefix ∷ [])) → IsIn s (seen ++ m.prefix ∷ []) ⊎ ((l : Link) × IsIn l ls × (l.target ≡ o) × (l.prefix ≡ s))) → (IsIn s (prefixes_of ls o seen) → IsIn s seen ⊎ ((l : Link) × IsIn l ls × (l.target ≡ o) × (l.prefix ≡ s))) →
        (a : Bool) → same_occ m.target o ≡ a → (b : Bool) → IsIn s (if a && b then prefixes_of ls o (seen ++ m.prefix ∷ []) else prefixes_of ls o seen) → IsIn s seen ⊎ ((l : Link) × IsIn l (m ∷ ls) × (l.target ≡ o) × (l.prefix ≡ s))
    by_test added same true e true k = or_first e (added k)
    by_test added same true e false k = more (same k)
    by_test added same false e b k = more (same k)

-- ---- the parts

is_within : (b : Bool) → not b ≡ true → b ≡ false
is_within true h = absurd cc
is_within false h = refl

part_given : (outside : Occ → Bool) (l : code_link.Link) → outside l.target ≡ false → parts_from outside l ≡ record { occ = l.target; prefix = l.prefix } ∷ []
part_given outside l h = ap (λ (b : Bool). if b then [] else record { occ = l.target; prefix = l.prefix } ∷ []) h

given_part : (outside : Occ → Bool) (l : code_link.Link) (p : ClassPart) → IsIn p (parts_from outside l) → (outside l.target ≡ false) × (l.target ≡ p.occ) × (l.prefix ≡ p.prefix)
given_part outside l p h = by_test (outside l.target) refl h
  where
    by_test : (b : Bool) → outside l.target ≡ b → IsIn p (if b then [] else record { occ = l.target; prefix = l.prefix } ∷ []) → (outside l.target ≡ false) × (l.target ≡ p.occ) × (l.prefix ≡ p.prefix)
    by_test true e k = absurd k
    by_test false e (inl k) = (e, ap (λ (q : ClassPart). q.occ) k, ap (λ (q : ClassPart). q.prefix) k)
    by_test false e (inr k) = absurd k

-- a target is joined
target_joined : (ls : List code_link.Link) (l : code_link.Link) → IsIn l ls → is_joined (map as_link ls) l.target ≡ true
target_joined ls l h = any_from (is_end l.target) (as_link l) (map as_link ls) (in_map as_link l ls h) (or_left (same_occ l.target l.target) _ (itself l.target))

pub parts_law : (ls : List code_link.Link) (all : List Link) (o : Occ) (outside : Occ → Bool) (found sorted : List ClassPart) → AreSaid ls all → ((x : Occ) → is_joined (map as_link ls) x ≡ true → outside x ≡ not (is_member (class_of (map as_link ls) o) x)) →
    found ≡ flat_map (parts_from outside) ls → IsStrictlySortedBy part_cmp sorted × ((p : ClassPart) → Contains sorted p ↔ Contains found p) → AreParts sorted all o
parts_law ls all o outside found sorted said out is s = record {
  sorted = s.0;
  same = λ p. (
    λ h. there p (from_flat_map (parts_from outside) p ls (subst (IsIn p) is (in_from p found ((s.1 p).0 h)))),
    λ h. (s.1 p).1 (contains_from p found (subst (IsIn p) (sym is) (back p (member_of p h.0) (from_prefixes p h.1)))),
  );
}
  where
    there : (p : ClassPart) → (l : code_link.Link) × IsIn l ls × IsIn p (parts_from outside l) → Contains (class_of all o) p.occ × Contains (prefixes_of all p.occ []) p.prefix
    there p r =
        let l = r.0 in
        let g = given_part outside l p r.2 in
        let member : is_member (class_of (map as_link ls) o) l.target ≡ true = inside (is_member (class_of (map as_link ls) o) l.target) (sym (out l.target (target_joined ls l r.1)) ∙ g.0) in
        let mine : is_member (class_of all o) p.occ ≡ true = ap (is_member (class_of all o)) (sym g.1) ∙ sym (class_said ls all o l.target said) ∙ member in
        let linked : IsIn (as_link l) all = said_in ls all said (as_link l) (in_map as_link l ls r.1) in
        let prefix : IsIn l.prefix (prefixes_of all p.occ []) = prefixes_have all p.occ [] (as_link l) linked g.1 in (
          contains_from p.occ (class_of all o) (member_in p.occ (class_of all o) mine),
          contains_from p.prefix (prefixes_of all p.occ []) (subst (λ (t : List ℕ). IsIn t (prefixes_of all p.occ [])) g.2 prefix),
        )
      where
        inside : (b : Bool) → not b ≡ false → b ≡ true
        inside true h = refl
        inside false h = absurd cc

    member_of : (p : ClassPart) → Contains (class_of all o) p.occ → is_member (class_of all o) p.occ ≡ true
    member_of p h = in_member p.occ (class_of all o) (in_from p.occ (class_of all o) h)

    from_prefixes : (p : ClassPart) → Contains (prefixes_of all p.occ []) p.prefix → (l : Link) × IsIn l all × (l.target ≡ p.occ) × (l.prefix ≡ p.prefix)
    from_prefixes p h = by_case (prefixes_from all p.occ [] p.prefix (in_from p.prefix (prefixes_of all p.occ []) h))
      where
        by_case : ⊥ ⊎ ((l : Link) × IsIn l all × (l.target ≡ p.occ) × (l.prefix ≡ p.prefix)) → (l : Link) × IsIn l all × (l.target ≡ p.occ) × (l.prefix ≡ p.prefix)
        by_case (inl k) = absurd k
        by_case (inr k) = k

    back : (p : ClassPart) → is_member (class_of all o) p.occ ≡ true → (l : Link) × IsIn l all × (l.target ≡ p.occ) × (l.prefix ≡ p.prefix) → IsIn p (flat_map (parts_from outside) ls)
    back p m r =
        let f = from_map as_link r.0 ls (in_said ls all said r.0 r.1) in
        let l = f.0 in
        let t : l.target ≡ p.occ = ap (λ (x : Link). x.target) f.2 ∙ r.2 in
        let q : l.prefix ≡ p.prefix = ap (λ (x : Link). x.prefix) f.2 ∙ r.3 in
        let e : outside l.target ≡ false = out l.target (target_joined ls l f.1) ∙ ap not (class_said ls all o l.target said ∙ ap (is_member (class_of all o)) t ∙ m) in
        in_flat_map (parts_from outside) l p ls f.1 (subst (IsIn p) (sym (part_given outside l e)) (inl (λ j. record { occ = t j; prefix = q j })))

-- ---- the standard names

-- of one link
abbrev own_of : Source → Bool → List (List ℕ) → List (List ℕ)
own_of (At o) member rest = rest
own_of (StandardName s) true rest = s ∷ rest
own_of (StandardName s) false rest = rest

origins_of_first : (l : Link) (ls : List Link) (ms : List Occ) → standard_origins (l ∷ ls) ms ≡ own_of l.origin (is_member ms l.target) (standard_origins ls ms)
origins_of_first l ls ms = refl

own_keeps : (g : Source) (b : Bool) (rest : List (List ℕ)) (s : List ℕ) → IsIn s rest → IsIn s (own_of g b rest)
own_keeps (At o) b rest s h = h
own_keeps (StandardName n) true rest s h = inr h
own_keeps (StandardName n) false rest s h = h

own_has : (g : Source) (b : Bool) (rest : List (List ℕ)) (s : List ℕ) → g ≡ StandardName s → b ≡ true → IsIn s (own_of g b rest)
own_has g b rest s e h = subst (λ (x : Source). IsIn s (own_of x b rest)) (sym e) (subst (λ (c : Bool). IsIn s (own_of (StandardName s) c rest)) (sym h) (inl refl))

own_from : (g : Source) (b : Bool) (rest : List (List ℕ)) (s : List ℕ) → IsIn s (own_of g b rest) → ((g ≡ StandardName s) × (b ≡ true)) ⊎ IsIn s rest
own_from (At o) b rest s h = inr h
own_from (StandardName n) true rest s (inl e) = inl (ap StandardName e, refl)
own_from (StandardName n) true rest s (inr h) = inr h
own_from (StandardName n) false rest s h = inr h

standard_have : (ls : List Link) (ms : List Occ) (l : Link) (s : List ℕ) → IsIn l ls → l.origin ≡ StandardName s → is_member ms l.target ≡ true → IsIn s (standard_origins ls ms)
standard_have [] ms l s h e m = absurd h
standard_have (x ∷ ls) ms l s (inl i) e m = own_has x.origin (is_member ms x.target) (standard_origins ls ms) s (ap (λ (y : Link). y.origin) i ∙ e) (ap (λ (y : Link). is_member ms y.target) i ∙ m)
standard_have (x ∷ ls) ms l s (inr i) e m = own_keeps x.origin (is_member ms x.target) (standard_origins ls ms) s (standard_have ls ms l s i e m)

standard_from : (ls : List Link) (ms : List Occ) (s : List ℕ) → IsIn s (standard_origins ls ms) → (l : Link) × IsIn l ls × (l.origin ≡ StandardName s) × (is_member ms l.target ≡ true)
standard_from [] ms s h = absurd h
standard_from (x ∷ ls) ms s h = by_case (own_from x.origin (is_member ms x.target) (standard_origins ls ms) s h) (standard_from ls ms s)
  where
    by_case : ((x.origin ≡ StandardName s) × (is_member ms x.target ≡ true)) ⊎ IsIn s (standard_origins ls ms) → (IsIn s (standard_origins ls ms) → (l : Link) × IsIn l ls × (l.origin ≡ StandardName s) × (is_member ms l.target ≡ true)) →
        (l : Link) × IsIn l (x ∷ ls) × (l.origin ≡ StandardName s) × (is_member ms l.target ≡ true)
    by_case (inl k) more = (x, inl refl, k.0, k.1)
    by_case (inr k) more = let r = more k in (r.0, inr r.1, r.2, r.3)

-- names of links of the code
name_given : (g : LinkOrigin) (b : Bool) (s : List ℕ) → source_of g ≡ StandardName s → b ≡ true → IsIn s (name_from g b)
name_given (Place o) b s e h = absurd cc
name_given (Standard n) true s e h = inl (text e)
  where
    text : StandardName n ≡ StandardName s → n ≡ s
    text k = cc
name_given (Standard n) false s e h = absurd cc

given_name : (g : LinkOrigin) (b : Bool) (s : List ℕ) → IsIn s (name_from g b) → (source_of g ≡ StandardName s) × (b ≡ true)
given_name (Place o) b s h = absurd h
given_name (Standard n) true s (inl e) = (ap StandardName e, refl)
given_name (Standard n) true s (inr h) = absurd h
given_name (Standard n) false s h = absurd h

-- where links lead to a member, it has a part
member_part : (ls : List code_link.Link) (all : List Link) (o : Occ) (parts : List ClassPart) (l : code_link.Link) → AreSaid ls all → AreParts parts all o → IsIn l ls → has_part parts l.target ≡ is_member (class_of all o) l.target
member_part ls all o parts l said are i = same_test (has_part parts l.target) (is_member (class_of all o) l.target) there back
  where
    there : has_part parts l.target ≡ true → is_member (class_of all o) l.target ≡ true
    there h =
        let r = any_in (λ (p : ClassPart). same_occ p.occ l.target) parts h in
        let m = in_member r.0.occ (class_of all o) (in_from r.0.occ (class_of all o) ((are.same r.0).0 (contains_from r.0 parts r.1)).0) in
        ap (is_member (class_of all o)) (sym (one_occ r.0.occ l.target r.2)) ∙ m

    back : is_member (class_of all o) l.target ≡ true → has_part parts l.target ≡ true
    back h =
        let p : ClassPart = record { occ = l.target; prefix = l.prefix } in
        let linked : IsIn (as_link l) all = said_in ls all said (as_link l) (in_map as_link l ls i) in
        let part : Contains parts p = (are.same p).1 (
          contains_from l.target (class_of all o) (member_in l.target (class_of all o) h),
          contains_from l.prefix (prefixes_of all l.target []) (prefixes_have all l.target [] (as_link l) linked refl),
        ) in
        any_from (λ (q : ClassPart). same_occ q.occ l.target) p parts (in_from p parts part) (itself l.target)

pub standard_law : (ls : List code_link.Link) (all : List Link) (o : Occ) (parts : List ClassPart) (member : Occ → Bool) (found sorted : List (List ℕ)) → AreSaid ls all → AreParts parts all o → ((x : Occ) → member x ≡ has_part parts x) →
    found ≡ flat_map (names_from member) ls → IsStrictlySortedBy (slice_cmp nat_cmp) sorted × ((s : List ℕ) → Contains sorted s ↔ Contains found s) → AreStandard sorted all o
standard_law ls all o parts member found sorted said are have is s = record {
  sorted = s.0;
  same = λ n. (
    λ h. there n (from_flat_map (names_from member) n ls (subst (IsIn n) is (in_from n found ((s.1 n).0 h)))),
    λ h. (s.1 n).1 (contains_from n found (subst (IsIn n) (sym is) (back n (standard_from all (class_of all o) n (in_from n (standard_origins all (class_of all o)) h))))),
  );
}
  where
    there : (n : List ℕ) → (l : code_link.Link) × IsIn l ls × IsIn n (names_from member l) → Contains (standard_origins all (class_of all o)) n
    there n r =
        let l = r.0 in
        let g = given_name l.origin (member l.target) n r.2 in
        let m = sym (member_part ls all o parts l said are r.1) ∙ sym (have l.target) ∙ g.1 in
        contains_from n (standard_origins all (class_of all o)) (standard_have all (class_of all o) (as_link l) n (said_in ls all said (as_link l) (in_map as_link l ls r.1)) g.0 m)

    back : (n : List ℕ) → (l : Link) × IsIn l all × (l.origin ≡ StandardName n) × (is_member (class_of all o) l.target ≡ true) → IsIn n (flat_map (names_from member) ls)
    back n r =
        let f = from_map as_link r.0 ls (in_said ls all said r.0 r.1) in
        let l = f.0 in
        let e : source_of l.origin ≡ StandardName n = ap (λ (x : Link). x.origin) f.2 ∙ r.2 in
        let m : member l.target ≡ true = have l.target ∙ member_part ls all o parts l said are f.1 ∙ ap (λ (x : Link). is_member (class_of all o) x.target) f.2 ∙ r.3 in
        in_flat_map (names_from member) l n ls f.1 (name_given l.origin (member l.target) n e m)
