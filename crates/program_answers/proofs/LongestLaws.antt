-- The longest prefix of an occurrence among parts, and the parts of its class.
use Rattle.std.proofs.Common.{◌≡◌, ◌⊎◌, inl, inr, ℕ, ◌+◌, ◌<◌, ◌≤◌, List, [], ◌∷◌, ◌++◌, map, filter, take, length, get_or, Bool, true, false, refl, sym, ap, ◌∙◌, subst, arith, Contains}
use Rattle.std.specs.Prelude.{◌&&◌, nat_lt, if◌then◌else◌}
use Rattle.std.specs.Cmp.Lexicographic.{slice_cmp}
use Rattle.std.specs.Ordering.{nat_cmp, ordering_then, ordering_reverse, is_lt}
use Rattle.std.specs.declared.cmp.Ordering.{Ordering}
use Rattle.std.specs.declared.cmp.Ordering.TheVariants.{Less, Equal, Greater}
use Rattle.std.proofs.lemmas.Cmp.{on_total, then_total, nat_cmp_total, nat_list_cmp_total}
use Rattle.std.specs.Cmp.{IsTotalOrder}
use Rattle.std.proofs.lemmas.Bool.Decides.{nat_tests}
use Rattle.std.proofs.lemmas.List.{append-nil, map-append, nil_from_length, take_more}
use Rattle.scheme_model.specs.declared.Occ.{Occ}
use Rattle.scheme_model.specs.Entries.{same_occ}
use Rattle.scheme_model.specs.Spelling.{Link, class_of, prefixes_of}
use Rattle.arrow_index.specs.Classes.{AreParts}
use Rattle.program_leaves.specs.Members.{IsIn}
use Rattle.arrow_index.specs.declared.classes.ClassPart.{ClassPart}
use Rattle.arrow_index.proofs.BinderLaws.{in_filter, from_filter}
use Rattle.arrow_index.proofs.ClassLaws.{class_holds, itself, member_in}
use Rattle.program_leaves.proofs.KeyLaws.{one_occ}
use Rattle.program_leaves.proofs.MemberLaws.{in_either, in_left, in_right, in_from, contains_from, in_map, from_map}
use Rattle.program_answers.specs.AskedOf.{own_prefixes}
use Rattle.program_answers.specs.Classed.{IsLongest, prefix_cmp}
use Rattle.program_answers.proofs.ListedLaws.{HaveSame, filter_one}

-- ---- the order of prefixes

prefix_total : IsTotalOrder prefix_cmp
prefix_total = then_total (on_total (λ (s : List ℕ). length s) nat_cmp_total) nat_list_cmp_total

less_is : (o : Ordering) → is_lt o ≡ true → o ≡ Less
less_is Less h = refl
less_is Equal h = cc
less_is Greater h = cc

not_itself : (s : List ℕ) → is_lt (prefix_cmp s s) ≡ false
not_itself s = go (prefix_cmp s s) refl
  where
    go : (o : Ordering) → prefix_cmp s s ≡ o → is_lt (prefix_cmp s s) ≡ false
    go Less e = let turned : Less ≡ Greater = sym e ∙ prefix_total.antisymm s s ∙ ap ordering_reverse e in cc
    go Equal e = ap is_lt e
    go Greater e = ap is_lt e

-- what isn't behind the one isn't behind one that is behind it
behind_both : (s u v : List ℕ) → is_lt (prefix_cmp s u) ≡ true → is_lt (prefix_cmp s v) ≡ false → is_lt (prefix_cmp u v) ≡ false
behind_both s u v h k = go (prefix_cmp u v) refl
  where
    go : (o : Ordering) → prefix_cmp u v ≡ o → is_lt (prefix_cmp u v) ≡ false
    go Less e = let behind : is_lt (prefix_cmp s v) ≡ true = ap is_lt (prefix_total.trans s u v (less_is (prefix_cmp s u) h) e) in cc
    go Equal e = ap is_lt e
    go Greater e = ap is_lt e

shorter_first : (o p : Ordering) → is_lt (ordering_then o p) ≡ false → is_lt o ≡ false
shorter_first Less p h = cc
shorter_first Equal p h = refl
shorter_first Greater p h = refl

numbers_less : (a b : ℕ) → is_lt (nat_cmp a b) ≡ nat_lt a b
numbers_less a b = grind (arith, nat_tests)

not_shorter : (s u : List ℕ) → is_lt (prefix_cmp s u) ≡ false → length u ≤ length s
not_shorter s u h =
    let less : nat_lt (length s) (length u) ≡ false = sym (numbers_less (length s) (length u)) ∙ shorter_first (nat_cmp (length s) (length u)) (slice_cmp nat_cmp s u) h in
    grind (arith, nat_tests)

-- ---- the longest so far

-- none of these is longer
abbrev NoneLonger : List (List ℕ) → List ℕ → Type 0
NoneLonger ts s = (u : List ℕ) → Contains ts u → is_lt (prefix_cmp s u) ≡ false

none_longer : (ts : List (List ℕ)) (s : List ℕ) → IsLongest ts s → NoneLonger ts s
none_longer [] s h u k = absurd (in_from u [] k)
none_longer (t ∷ ts) s h u k = h.1 u k

pub longest_new : (ts : List (List ℕ)) (s u : List ℕ) → IsLongest ts s → is_lt (prefix_cmp s u) ≡ true → IsLongest (ts ++ u ∷ []) u
longest_new ts s u h lt = whole ts (none_longer ts s h)
  where
    only : (ws : List (List ℕ)) → NoneLonger ws s → NoneLonger (ws ++ u ∷ []) u
    only ws k v i = by_case (in_either v ws (u ∷ []) (in_from v (ws ++ u ∷ []) i))
      where
        by_case : IsIn v ws ⊎ ((u ≡ v) ⊎ ⊥) → is_lt (prefix_cmp u v) ≡ false
        by_case (inl j) = behind_both s u v lt (k v (contains_from v ws j))
        by_case (inr (inl e)) = subst (λ (x : List ℕ). is_lt (prefix_cmp u x) ≡ false) e (not_itself u)
        by_case (inr (inr j)) = absurd j

    whole : (ws : List (List ℕ)) → NoneLonger ws s → IsLongest (ws ++ u ∷ []) u
    whole [] k = (contains_from u (u ∷ []) (inl refl), only [] k)
    whole (w ∷ ws) k = (contains_from u ((w ∷ ws) ++ u ∷ []) (in_right u (w ∷ ws) (u ∷ []) (inl refl)), only (w ∷ ws) k)

pub longest_still : (ts : List (List ℕ)) (s u : List ℕ) → IsLongest ts s → is_lt (prefix_cmp s u) ≡ false → IsLongest (ts ++ u ∷ []) s
longest_still [] s u h le =
    let short = not_shorter s u le in
    let none : u ≡ [] = nil_from_length u (omega (arith, short, ap (λ (x : List ℕ). length x) h)) in
    let e : u ≡ s = none ∙ sym h in
    (contains_from s (u ∷ []) (inl e), λ v i. same v e (in_from v (u ∷ []) i))
  where
    same : (v : List ℕ) → u ≡ s → (u ≡ v) ⊎ ⊥ → is_lt (prefix_cmp s v) ≡ false
    same v e (inl k) = subst (λ (x : List ℕ). is_lt (prefix_cmp s x) ≡ false) (sym e ∙ k) (not_itself s)
    same v e (inr k) = absurd k
longest_still (t ∷ ts) s u h le = (contains_from s ((t ∷ ts) ++ u ∷ []) (in_left s (t ∷ ts) (u ∷ []) (in_from s (t ∷ ts) h.0)), λ v i. by_case v (in_either v (t ∷ ts) (u ∷ []) (in_from v ((t ∷ ts) ++ u ∷ []) i)))
  where
    by_case : (v : List ℕ) → IsIn v (t ∷ ts) ⊎ ((u ≡ v) ⊎ ⊥) → is_lt (prefix_cmp s v) ≡ false
    by_case v (inl j) = h.1 v (contains_from v (t ∷ ts) j)
    by_case v (inr (inl e)) = subst (λ (x : List ℕ). is_lt (prefix_cmp s x) ≡ false) e le
    by_case v (inr (inr j)) = absurd j

prefixes_next : (ps : List ClassPart) (i : ℕ) (p : ClassPart) (o : Occ) → i < length ps → p ≡ get_or ps i p → own_prefixes (take (i + 1) ps) o ≡ own_prefixes (take i ps) o ++ (if same_occ p.occ o then p.prefix ∷ [] else [])
prefixes_next ps i p o lt is =
    let q : ClassPart → Bool = λ (x : ClassPart). same_occ x.occ o in
    let f : ClassPart → List ℕ = λ (x : ClassPart). x.prefix in
    ap (λ (xs : List ClassPart). own_prefixes xs o) (take_more ps i p lt) ∙ ap (λ (x : ClassPart). own_prefixes (take i ps ++ x ∷ []) o) (sym is) ∙ ap (map f) (filter_one q (take i ps) p)
    ∙ map-append f (filter q (take i ps)) (if q p then p ∷ [] else []) ∙ ap (λ (xs : List (List ℕ)). own_prefixes (take i ps) o ++ xs) (chosen (q p))
  where
    chosen : (b : Bool) → map (λ (x : ClassPart). x.prefix) (if b then p ∷ [] else []) ≡ (if b then p.prefix ∷ [] else [])
    chosen true = refl
    chosen false = refl

pub longer : (ps : List ClassPart) (i : ℕ) (p : ClassPart) (o : Occ) (s : List ℕ) → i < length ps → p ≡ get_or ps i p → IsLongest (own_prefixes (take i ps) o) s → (same_occ p.occ o && is_lt (prefix_cmp s p.prefix)) ≡ true →
    IsLongest (own_prefixes (take (i + 1) ps) o) p.prefix
longer ps i p o s lt is h test = by_test (same_occ p.occ o) refl test
  where
    by_test : (b : Bool) → same_occ p.occ o ≡ b → (b && is_lt (prefix_cmp s p.prefix)) ≡ true → IsLongest (own_prefixes (take (i + 1) ps) o) p.prefix
    by_test true e k =
        subst (λ (ts : List (List ℕ)). IsLongest ts p.prefix) (sym (prefixes_next ps i p o lt is ∙ ap (λ (b : Bool). own_prefixes (take i ps) o ++ (if b then p.prefix ∷ [] else [])) e))
        (longest_new (own_prefixes (take i ps) o) s p.prefix h k)
    by_test false e k = absurd cc

pub not_longer : (ps : List ClassPart) (i : ℕ) (p : ClassPart) (o : Occ) (s : List ℕ) → i < length ps → p ≡ get_or ps i p → IsLongest (own_prefixes (take i ps) o) s → (same_occ p.occ o && is_lt (prefix_cmp s p.prefix)) ≡ false →
    IsLongest (own_prefixes (take (i + 1) ps) o) s
not_longer ps i p o s lt is h test = by_test (same_occ p.occ o) refl test
  where
    by_test : (b : Bool) → same_occ p.occ o ≡ b → (b && is_lt (prefix_cmp s p.prefix)) ≡ false → IsLongest (own_prefixes (take (i + 1) ps) o) s
    by_test true e k =
        subst (λ (ts : List (List ℕ)). IsLongest ts s) (sym (prefixes_next ps i p o lt is ∙ ap (λ (b : Bool). own_prefixes (take i ps) o ++ (if b then p.prefix ∷ [] else [])) e))
        (longest_still (own_prefixes (take i ps) o) s p.prefix h k)
    by_test false e k =
        subst (λ (ts : List (List ℕ)). IsLongest ts s) (sym (prefixes_next ps i p o lt is ∙ ap (λ (b : Bool). own_prefixes (take i ps) o ++ (if b then p.prefix ∷ [] else [])) e ∙ append-nil (own_prefixes (take i ps) o))) h

-- ---- of the same members

pub longest_same : (ts us : List (List ℕ)) (s : List ℕ) → HaveSame ts us → IsLongest ts s → IsLongest us s
longest_same [] [] s h k = k
longest_same [] (u ∷ us) s h k = absurd ((h u).1 (inl refl))
longest_same (t ∷ ts) [] s h k = absurd ((h t).0 (inl refl))
longest_same (t ∷ ts) (u ∷ us) s h k =
    (contains_from s (u ∷ us) ((h s).0 (in_from s (t ∷ ts) k.0)), λ v i. k.1 v (contains_from v (t ∷ ts) ((h v).1 (in_from v (u ∷ us) i))))

-- the prefixes of the occurrence of a class are those of its own parts
pub own_law : (all : List Link) (o : Occ) (parts : List ClassPart) → AreParts parts all o → HaveSame (own_prefixes parts o) (prefixes_of all o [])
own_law all o parts are s = (λ i. there (from_map (λ (p : ClassPart). p.prefix) s (filter (λ (p : ClassPart). same_occ p.occ o) parts) i), back)
  where
    there : (p : ClassPart) × IsIn p (filter (λ (x : ClassPart). same_occ x.occ o) parts) × (p.prefix ≡ s) → IsIn s (prefixes_of all o [])
    there r =
        let f = from_filter (λ (x : ClassPart). same_occ x.occ o) r.0 parts r.1 in
        let e : r.0.occ ≡ o = one_occ r.0.occ o f.1 in
        let k = in_from r.0.prefix (prefixes_of all r.0.occ []) ((are.same r.0).0 (contains_from r.0 parts f.0)).1 in
        subst (λ (t : List ℕ). IsIn t (prefixes_of all o [])) r.2 (subst (λ (x : Occ). IsIn r.0.prefix (prefixes_of all x [])) e k)

    back : IsIn s (prefixes_of all o []) → IsIn s (own_prefixes parts o)
    back i =
        let p : ClassPart = record { occ = o; prefix = s } in
        let member = contains_from o (class_of all o) (member_in o (class_of all o) (class_holds all o)) in
        let part = in_from p parts ((are.same p).1 (member, contains_from s (prefixes_of all o []) i)) in
        in_map (λ (x : ClassPart). x.prefix) p (filter (λ (x : ClassPart). same_occ x.occ o) parts) (in_filter (λ (x : ClassPart). same_occ x.occ o) p parts part (itself o))
