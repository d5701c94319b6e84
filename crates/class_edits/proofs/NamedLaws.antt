-- The members of a class with their new names are those that its parts are told with, where none has two prefixes.
use Rattle.std.proofs.Common.{◌≡◌, ◌⊎◌, inl, inr, ℕ, ◌+◌, ◌<◌, arith, List, [], ◌∷◌, ◌++◌, map, filter, take, get_or, length, Bool, true, false, cond, Option, Some, None, refl, sym, ap, ◌∙◌, subst}
use Rattle.std.specs.Prelude.{nat_lt}
use Rattle.std.proofs.lemmas.Bool.Decides.{nat_tests}
use Rattle.std.proofs.lemmas.List.{map-append, take_more}
use Rattle.scheme_model.specs.declared.Occ.{Occ}
use Rattle.scheme_model.specs.Entries.{same_occ}
use Rattle.scheme_model.specs.Sites.{or_else}
use Rattle.scheme_model.specs.Spelling.{Link, class_of, prefixes_of}
use Rattle.program_leaves.specs.Members.{IsIn}
use Rattle.program_leaves.proofs.KeyLaws.{one_occ}
use Rattle.program_leaves.proofs.MemberLaws.{contains_from, from_map, in_from, in_map}
use Rattle.arrow_index.specs.Classes.{AreParts}
use Rattle.arrow_index.specs.declared.classes.ClassPart as bare
use Rattle.arrow_index.proofs.BinderLaws.{in_filter, from_filter}
use Rattle.arrow_index.proofs.ClassLaws.{itself}
use Rattle.program_answers.specs.Classed.{bare_part}
use Rattle.program_answers.specs.declared.classes.ClassPart.{ClassPart}
use Rattle.text_edits.specs.Members.{Member, first_prefix, is_part, member_of, members_of, name_of}
use Rattle.class_edits.specs.Clashes.{clashing, has_two}
use Rattle.class_edits.specs.Named.{named_parts}
use Rattle.class_edits.proofs.PrefixLaws.{one_of_one}

-- ---- member by member

abbrev named : (stem : List ℕ) → ClassPart → Member
named stem p = record { occ = p.occ; name = p.prefix ++ stem }

name_more : (ms : List Member) (m : Member) (o : Occ) → name_of (ms ++ m ∷ []) o ≡ or_else (name_of ms o) (cond (same_occ m.occ o) (Some m.name) None)
name_more [] m o = refl
name_more (n ∷ ms) m o = go (same_occ n.occ o) (name_more ms m o)
  where
    go : (b : Bool) → name_of (ms ++ m ∷ []) o ≡ or_else (name_of ms o) (cond (same_occ m.occ o) (Some m.name) None) →
        cond b (Some n.name) (name_of (ms ++ m ∷ []) o) ≡ or_else (cond b (Some n.name) (name_of ms o)) (cond (same_occ m.occ o) (Some m.name) None)
    go true e = refl
    go false e = e

-- the parts gone through, and the next
pub named_next : (stem : List ℕ) (parts : List ClassPart) (i : ℕ) (p : ClassPart) (o : Occ) (old new : Option (List ℕ)) → i < length parts → p ≡ get_or parts i p → old ≡ name_of (named_parts stem (take i parts)) o →
    new ≡ or_else old (cond (same_occ p.occ o) (Some (p.prefix ++ stem)) None) → new ≡ name_of (named_parts stem (take (i + 1) parts)) o
named_next stem parts i p o old new lt is was e =
    e ∙ ap (λ (q : Option (List ℕ)). or_else q (cond (same_occ p.occ o) (Some (p.prefix ++ stem)) None)) was ∙ sym (name_more (named_parts stem (take i parts)) (named stem p) o)
    ∙ sym (ap (λ (ps : List ClassPart). name_of (named_parts stem ps) o) (take_more parts i p lt ∙ ap (λ (q : ClassPart). take i parts ++ q ∷ []) (sym is))
    ∙ ap (λ (ms : List Member). name_of ms o) (map-append (named stem) (take i parts) (p ∷ [])))

-- ---- lists of members

found : (ms : List Member) (o : Occ) (name : List ℕ) → name_of ms o ≡ Some name → IsIn (record { occ = o; name = name }) ms
found [] o name h = absurd cc
found (m ∷ ms) o name h = go (found ms o name) (same_occ m.occ o) refl h
  where
    go : (name_of ms o ≡ Some name → IsIn (record { occ = o; name = name }) ms) → (b : Bool) → same_occ m.occ o ≡ b → cond b (Some m.name) (name_of ms o) ≡ Some name → IsIn (record { occ = o; name = name }) (m ∷ ms)
    go more true e k = inl (λ j. record { occ = one_occ m.occ o e j; name = some k j })
      where
        some : Some m.name ≡ Some name → m.name ≡ name
        some q = cc
    go more false e k = inr (more k)

never : (ms : List Member) (o : Occ) (name : List ℕ) → IsIn (record { occ = o; name = name }) ms → name_of ms o ≡ None → ⊥
never [] o name i h = i
never (m ∷ ms) o name i h = go (never ms o name) (same_occ m.occ o) refl h i
  where
    go : (IsIn (record { occ = o; name = name }) ms → name_of ms o ≡ None → ⊥) → (b : Bool) → same_occ m.occ o ≡ b → cond b (Some m.name) (name_of ms o) ≡ None → (m ≡ record { occ = o; name = name }) ⊎ IsIn (record { occ = o; name = name }) ms → ⊥
    go more true e k j = cc
    go more false e k (inl j) = let t = sym e ∙ ap (λ (q : Member). same_occ q.occ o) j ∙ itself o in cc
    go more false e k (inr j) = more j k

-- two lists with the same members, of which none has two names
same_names : (ms ns : List Member) (o : Occ) → ((m : Member) → IsIn m ms → IsIn m ns) → ((m : Member) → IsIn m ns → IsIn m ms) →
    ((s t : List ℕ) → IsIn (record { occ = o; name = s }) ns → IsIn (record { occ = o; name = t }) ns → s ≡ t) → name_of ms o ≡ name_of ns o
same_names ms ns o there back one = go (name_of ms o) refl (name_of ns o) refl
  where
    go : (p : Option (List ℕ)) → name_of ms o ≡ p → (q : Option (List ℕ)) → name_of ns o ≡ q → p ≡ q
    go None e None f = refl
    go None e (Some t) f = absurd (never ms o t (back (record { occ = o; name = t }) (found ns o t f)) e)
    go (Some s) e None f = absurd (never ns o s (there (record { occ = o; name = s }) (found ms o s e)) f)
    go (Some s) e (Some t) f = ap Some (one s t (there (record { occ = o; name = s }) (found ms o s e)) (found ns o t f))

-- ---- those of a class

not_two : (q : Occ → Bool) (os : List Occ) (o : Occ) → filter q os ≡ [] → IsIn o os → q o ≡ false
not_two q os o none i = go (q o) refl
  where
    go : (b : Bool) → q o ≡ b → q o ≡ false
    go false e = e
    go true e = absurd (subst (IsIn o) none (in_filter q o os i e))

first_one : (ts : List (List ℕ)) (s : List ℕ) → nat_lt 1 (length ts) ≡ false → IsIn s ts → (nat_lt 0 (length ts) ≡ true) × (first_prefix ts ≡ s)
first_one [] s h i = absurd i
first_one (t ∷ ts) s h i = (grind (arith, nat_tests), one_of_one (t ∷ ts) t s h (inl refl) i)

first_in : (ts : List (List ℕ)) → nat_lt 0 (length ts) ≡ true → IsIn (first_prefix ts) ts
first_in [] h = absurd cc
first_in (t ∷ ts) h = inl refl

module _ (ls : List Link) (at : Occ) (stem : List ℕ) (parts : List ClassPart) (are : AreParts (map bare_part parts) ls at) (apart : clashing ls at ≡ []) where
  single : (o : Occ) → IsIn o (class_of ls at) → nat_lt 1 (length (prefixes_of ls o [])) ≡ false
  single o i = not_two (has_two ls) (class_of ls at) o apart i

  there : (m : Member) → IsIn m (named_parts stem parts) → IsIn m (members_of ls stem at)
  there m i =
      let r = from_map (named stem) m parts i in
      let p = r.0 in
      let told = (are.same (bare_part p)).0 (contains_from (bare_part p) (map bare_part parts) (in_map bare_part p parts r.1)) in
      let member = in_from p.occ (class_of ls at) told.0 in
      let first = first_one (prefixes_of ls p.occ []) p.prefix (single p.occ member) (in_from p.prefix (prefixes_of ls p.occ []) told.1) in
      let same : member_of ls stem p.occ ≡ m = (λ j. record { occ = p.occ; name = first.1 j ++ stem }) ∙ r.2 in
      subst (λ (q : Member). IsIn q (members_of ls stem at)) same (in_map (member_of ls stem) p.occ (filter (is_part ls) (class_of ls at)) (in_filter (is_part ls) p.occ (class_of ls at) member first.0))

  back : (m : Member) → IsIn m (members_of ls stem at) → IsIn m (named_parts stem parts)
  back m i =
      let r = from_map (member_of ls stem) m (filter (is_part ls) (class_of ls at)) i in
      let f = from_filter (is_part ls) r.0 (class_of ls at) r.1 in
      let prefix = first_prefix (prefixes_of ls r.0 []) in
      let p : bare.ClassPart = record { occ = r.0; prefix = prefix } in
      let told = in_from p (map bare_part parts) ((are.same p).1 (contains_from r.0 (class_of ls at) f.0, contains_from prefix (prefixes_of ls r.0 []) (first_in (prefixes_of ls r.0 []) f.1))) in
      let q = from_map bare_part p parts told in
      let same : named stem q.0 ≡ m = (λ j. record { occ = (q.2 j).occ; name = (q.2 j).prefix ++ stem }) ∙ r.2 in
      subst (λ (x : Member). IsIn x (named_parts stem parts)) same (in_map (named stem) q.0 parts q.1)

  one_name : (o : Occ) (s t : List ℕ) → IsIn (record { occ = o; name = s }) (members_of ls stem at) → IsIn (record { occ = o; name = t }) (members_of ls stem at) → s ≡ t
  one_name o s t i j =
      let q = from_map (member_of ls stem) (record { occ = o; name = s }) (filter (is_part ls) (class_of ls at)) i in
      let r = from_map (member_of ls stem) (record { occ = o; name = t }) (filter (is_part ls) (class_of ls at)) j in
      let e : q.0 ≡ r.0 = ap (λ (m : Member). m.occ) q.2 ∙ sym (ap (λ (m : Member). m.occ) r.2) in
      sym (ap (λ (m : Member). m.name) q.2) ∙ ap (λ (x : Occ). (member_of ls stem x).name) e ∙ ap (λ (m : Member). m.name) r.2

  pub names_of_class : (o : Occ) → name_of (named_parts stem parts) o ≡ name_of (members_of ls stem at) o
  names_of_class o = same_names (named_parts stem parts) (members_of ls stem at) o there back (one_name o)
