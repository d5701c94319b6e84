-- Parts in order: the members with several parts are those with two prefixes.
use Rattle.std.proofs.Common.{◌≡◌, ◌⊎◌, inl, inr, ◌↔◌, ℕ, List, [], ◌∷◌, ◌++◌, map, Bool, true, false, cond, Option, Some, None, refl, sym, ap, ◌∙◌, subst}
use Rattle.std.specs.Cmp.{tied_itself}
use Rattle.std.specs.Cmp.Lexicographic.{slice_cmp}
use Rattle.std.specs.List.{AllByRecursion}
use Rattle.std.specs.List.Sorted.{IsStrictlySortedBy}
use Rattle.std.specs.Ordering.{nat_cmp, ordering_then, is_eq}
use Rattle.std.specs.declared.cmp.Ordering.{Ordering}
use Rattle.std.specs.declared.cmp.Ordering.TheVariants.{Less, Equal, Greater}
use Rattle.scheme_model.specs.declared.Occ.{Occ}
use Rattle.scheme_model.specs.Entries.{same_occ}
use Rattle.scheme_model.specs.Spelling.{Link, class_of, prefixes_of}
use Rattle.program_leaves.specs.Members.{IsIn}
use Rattle.program_leaves.specs.Placed.{occ_cmp}
use Rattle.program_leaves.proofs.KeyLaws.{one_occ, occs_equal}
use Rattle.program_leaves.proofs.MemberLaws.{contains_from, in_either, in_from, in_left, in_right}
use Rattle.program_leaves.proofs.Orders.{occ_total}
use Rattle.arrow_index.specs.Classes.{AreParts, part_cmp}
use Rattle.arrow_index.specs.declared.classes.ClassPart.{ClassPart}
use Rattle.arrow_index.proofs.BinderLaws.{in_filter, from_filter}
use Rattle.arrow_index.proofs.ClassLaws.{itself}
use Rattle.arrow_index.proofs.ClassParts.{part_total}
use Rattle.program_answers.specs.Classed.{bare_part}
use Rattle.program_answers.specs.declared.classes.ClassPart as placed
use Rattle.class_edits.specs.Clashes.{clashing, has_two}
use Rattle.class_edits.specs.FirstBytes.{is_same, repeated}
use Rattle.class_edits.proofs.PrefixLaws.{has_two_of, more_than_one}

-- ---- parts without their bars

abbrev pub repeated_bare : (last : Option Occ) → List ClassPart → List Occ
repeated_bare last [] = []
repeated_bare last (p ∷ ps) = cond (is_same last p.occ) (p.occ ∷ []) [] ++ repeated_bare (Some p.occ) ps

same_repeated : (last : Option Occ) (ps : List placed.ClassPart) → repeated last ps ≡ repeated_bare last (map bare_part ps)
same_repeated last [] = refl
same_repeated last (p ∷ ps) = ap (λ (os : List Occ). cond (is_same last p.occ) (p.occ ∷ []) [] ++ os) (same_repeated (Some p.occ) ps)

-- ---- their order

abbrev AllBehind : ClassPart → List ClassPart → Type 0
AllBehind p ps = AllByRecursion (λ (q : ClassPart). part_cmp p q ≡ Less) ps

one_behind : (p q : ClassPart) (ps : List ClassPart) → AllBehind p ps → IsIn q ps → part_cmp p q ≡ Less
one_behind p q [] h i = absurd i
one_behind p q (r ∷ ps) h (inl e) = ap (part_cmp p) (sym e) ∙ h.0
one_behind p q (r ∷ ps) h (inr i) = one_behind p q ps h.1 i

never_less : (p : ClassPart) → part_cmp p p ≡ Less → ⊥
never_less p h = let e = sym h ∙ tied_itself part_total p in cc

not_before : (o : Occ) → occ_cmp o o ≡ Less → ⊥
not_before o h = let e = sym h ∙ tied_itself occ_total o in cc

-- what stands between two parts of an occurrence is one of it
between : (p q r : ClassPart) → part_cmp p q ≡ Less → part_cmp q r ≡ Less → p.occ ≡ r.occ → p.occ ≡ q.occ
between p q r h k e = go (occ_cmp p.occ q.occ) refl (occ_cmp q.occ r.occ) refl
  where
    go : (c : Ordering) → occ_cmp p.occ q.occ ≡ c → (d : Ordering) → occ_cmp q.occ r.occ ≡ d → p.occ ≡ q.occ
    go Equal f d g = one_occ p.occ q.occ (sym (occs_equal p.occ q.occ) ∙ ap is_eq f)
    go Greater f d g = let never : Greater ≡ Less = ap (λ (x : Ordering). ordering_then x (slice_cmp nat_cmp p.prefix q.prefix)) (sym f) ∙ h in cc
    go Less f Less g = absurd (not_before p.occ (occ_total.trans p.occ q.occ p.occ f (ap (occ_cmp q.occ) e ∙ g)))
    go Less f Equal g =
        let same : q.occ ≡ p.occ = one_occ q.occ r.occ (sym (occs_equal q.occ r.occ) ∙ ap is_eq g) ∙ sym e in
        absurd (not_before p.occ (ap (occ_cmp p.occ) (sym same) ∙ f))
    go Less f Greater g = let never : Greater ≡ Less = ap (λ (x : Ordering). ordering_then x (slice_cmp nat_cmp q.prefix r.prefix)) (sym g) ∙ k in cc

-- ---- two parts of one occurrence

record AreTwo (o : Occ) (ps : List ClassPart) : Type 0 where
  one : ClassPart
  other : ClassPart
  one_in : IsIn one ps
  other_in : IsIn other ps
  one_of : one.occ ≡ o
  other_of : other.occ ≡ o
  rises : part_cmp one other ≡ Less

two_more : (o : Occ) (p : ClassPart) (ps : List ClassPart) → AreTwo o ps → AreTwo o (p ∷ ps)
two_more o p ps t = record { one = t.one; other = t.other; one_in = inr t.one_in; other_in = inr t.other_in; one_of = t.one_of; other_of = t.other_of; rises = t.rises }

two_from : (o : Occ) (p : ClassPart) (ps : List ClassPart) → AllBehind p ps → IsStrictlySortedBy part_cmp ps → IsIn o (repeated_bare (Some p.occ) ps) → AreTwo o (p ∷ ps)
unfolding IsStrictlySortedBy
two_from o p [] h s i = absurd i
two_from o p (q ∷ ps) h s i = by_case (two_from o q ps s.0 s.1) (in_either o (cond (same_occ p.occ q.occ) (q.occ ∷ []) []) (repeated_bare (Some q.occ) ps) i)
  where
    here : (b : Bool) → same_occ p.occ q.occ ≡ b → IsIn o (cond b (q.occ ∷ []) []) → AreTwo o (p ∷ q ∷ ps)
    here true e (inl f) = record { one = p; other = q; one_in = inl refl; other_in = inr (inl refl); one_of = one_occ p.occ q.occ e ∙ f; other_of = f; rises = h.0 }
    here true e (inr j) = absurd j
    here false e j = absurd j

    by_case : (IsIn o (repeated_bare (Some q.occ) ps) → AreTwo o (q ∷ ps)) → IsIn o (cond (same_occ p.occ q.occ) (q.occ ∷ []) []) ⊎ IsIn o (repeated_bare (Some q.occ) ps) → AreTwo o (p ∷ q ∷ ps)
    by_case more (inl j) = here (same_occ p.occ q.occ) refl j
    by_case more (inr j) = two_more o p (q ∷ ps) (more j)

two_in : (o : Occ) (ps : List ClassPart) → IsStrictlySortedBy part_cmp ps → IsIn o (repeated_bare None ps) → AreTwo o ps
unfolding IsStrictlySortedBy
two_in o [] s i = absurd i
two_in o (p ∷ ps) s i = two_from o p ps s.0 s.1 i

-- the next part is of the occurrence too
next_in : (o : Occ) (last : Option Occ) (p q : ClassPart) (ps : List ClassPart) → AllBehind p ps → IsStrictlySortedBy part_cmp ps → p.occ ≡ o → q.occ ≡ o → IsIn q ps → IsIn o (repeated_bare last (p ∷ ps))
unfolding IsStrictlySortedBy
next_in o last p q [] h s e f i = absurd i
next_in o last p q (r ∷ ps) h s e f i = in_right o (cond (is_same last p.occ) (p.occ ∷ []) []) (repeated_bare (Some p.occ) (r ∷ ps)) (in_left o (cond (same_occ p.occ r.occ) (r.occ ∷ []) []) (repeated_bare (Some r.occ) ps) (here i))
  where
    now : r.occ ≡ o → IsIn o (cond (same_occ p.occ r.occ) (r.occ ∷ []) [])
    now g = subst (λ (b : Bool). IsIn o (cond b (r.occ ∷ []) [])) (sym (ap (same_occ p.occ) (g ∙ sym e) ∙ itself p.occ)) (inl g)

    here : (r ≡ q) ⊎ IsIn q ps → IsIn o (cond (same_occ p.occ r.occ) (r.occ ∷ []) [])
    here (inl g) = now (ap (λ (x : ClassPart). x.occ) g ∙ f)
    here (inr j) = now (sym (between p r q h.0 (one_behind r q ps s.0 j) (e ∙ sym f)) ∙ e)

found : (o : Occ) (last : Option Occ) (p q : ClassPart) (ps : List ClassPart) → IsStrictlySortedBy part_cmp ps → p.occ ≡ o → q.occ ≡ o → (p ≡ q → ⊥) → IsIn p ps → IsIn q ps → IsIn o (repeated_bare last ps)
unfolding IsStrictlySortedBy
found o last p q [] s e f n i j = absurd i
found o last p q (r ∷ ps) s e f n (inl a) (inl b) = absurd (n (sym a ∙ b))
found o last p q (r ∷ ps) s e f n (inl a) (inr j) = next_in o last r q ps s.0 s.1 (ap (λ (x : ClassPart). x.occ) a ∙ e) f j
found o last p q (r ∷ ps) s e f n (inr i) (inl b) = next_in o last r p ps s.0 s.1 (ap (λ (x : ClassPart). x.occ) b ∙ f) e i
found o last p q (r ∷ ps) s e f n (inr i) (inr j) = in_right o (cond (is_same last r.occ) (r.occ ∷ []) []) (repeated_bare (Some r.occ) ps) (found o (Some r.occ) p q ps s.1 e f n i j)

-- ---- the members with two prefixes

module _ (ls : List Link) (at : Occ) (ps : List ClassPart) (are : AreParts ps ls at) where
  there : (o : Occ) → IsIn o (repeated_bare None ps) → IsIn o (clashing ls at)
  there o i =
      let t = two_in o ps are.sorted i in
      let one = (are.same t.one).0 (contains_from t.one ps t.one_in) in
      let other = (are.same t.other).0 (contains_from t.other ps t.other_in) in
      let member = subst (λ (x : Occ). IsIn x (class_of ls at)) t.one_of (in_from t.one.occ (class_of ls at) one.0) in
      let first = subst (λ (x : Occ). IsIn t.one.prefix (prefixes_of ls x [])) t.one_of (in_from t.one.prefix (prefixes_of ls t.one.occ []) one.1) in
      let second = subst (λ (x : Occ). IsIn t.other.prefix (prefixes_of ls x [])) t.other_of (in_from t.other.prefix (prefixes_of ls t.other.occ []) other.1) in
      in_filter (has_two ls) o (class_of ls at) member (more_than_one (prefixes_of ls o []) (record { one = t.one.prefix; other = t.other.prefix; one_in = first; other_in = second; differ = apart t }))
    where
      apart : (t : AreTwo o ps) → t.one.prefix ≡ t.other.prefix → ⊥
      apart t e =
          let same : t.one ≡ t.other = λ j. record { occ = (t.one_of ∙ sym t.other_of) j; prefix = e j } in
          never_less t.one (ap (part_cmp t.one) same ∙ t.rises)

  back : (o : Occ) → IsIn o (clashing ls at) → IsIn o (repeated_bare None ps)
  back o i =
      let f = from_filter (has_two ls) o (class_of ls at) i in
      let t = has_two_of ls o f.1 in
      let p : ClassPart = record { occ = o; prefix = t.one } in
      let q : ClassPart = record { occ = o; prefix = t.other } in
      found o None p q ps are.sorted refl refl (λ e. t.differ (ap (λ (x : ClassPart). x.prefix) e)) (part t.one t.one_in f.0) (part t.other t.other_in f.0)
    where
      part : (s : List ℕ) → IsIn s (prefixes_of ls o []) → IsIn o (class_of ls at) → IsIn (record { occ = o; prefix = s }) ps
      part s j member = in_from (record { occ = o; prefix = s }) ps ((are.same (record { occ = o; prefix = s })).1 (contains_from o (class_of ls at) member, contains_from s (prefixes_of ls o []) j))

pub are_clashing : (ls : List Link) (at : Occ) (ps : List placed.ClassPart) → AreParts (map bare_part ps) ls at → (o : Occ) → IsIn o (repeated None ps) ↔ IsIn o (clashing ls at)
are_clashing ls at ps are o =
    (λ i. there ls at (map bare_part ps) are o (subst (IsIn o) (same_repeated None ps) i), λ i. subst (IsIn o) (sym (same_repeated None ps)) (back ls at (map bare_part ps) are o i))
