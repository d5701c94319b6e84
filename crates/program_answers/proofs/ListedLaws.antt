-- Lists that stand for others as they grow, and lists with the same members.
use Rattle.std.proofs.Common.{◌≡◌, ◌⊎◌, inl, inr, ◌↔◌, ℕ, zero, suc, ◌+◌, ◌<◌, ◌≤◌, List, [], ◌∷◌, ◌++◌, map, filter, take, length, get_or, Bool, true, false, refl, sym, ap, ◌∙◌, subst, arith}
use Rattle.std.specs.Prelude.{if◌then◌else◌}
use Rattle.std.specs.List.{flat_map}
use Rattle.std.proofs.lemmas.List.{append-nil, map-append, take_all, take_more}
use Rattle.scheme_model.specs.declared.Occ.{Occ}
use Rattle.program_leaves.specs.Members.{IsIn}
use Rattle.program_leaves.specs.Pairs.{AreOccs}
use Rattle.arrow_index.proofs.BinderLaws.{in_filter, from_filter}
use Rattle.program_leaves.proofs.MemberLaws.{in_left, in_right, in_either, in_from, contains_from, in_map, from_map, in_flat_map, from_flat_map}

-- ---- as they grow

-- one more is told of the items gone through
pub told_more : {A C : Type 0} (f : A → C) (xs : List A) (i : ℕ) (d : A) (old new : List C) (c : C) → i < length xs → old ≡ map f (take i xs) → new ≡ old ++ c ∷ [] → c ≡ f (get_or xs i d) → new ≡ map f (take (i + 1) xs)
told_more f xs i d old new c lt was is e =
    is ∙ (λ j. was j ++ e j ∷ []) ∙ sym (map-append f (take i xs) (get_or xs i d ∷ [])) ∙ ap (map f) (sym (take_more xs i d lt))

-- one more is kept, and what it is seen as is told of the items gone through
pub kept_more : {A B C : Type 0} (seen : B → C) (f : A → C) (xs : List A) (i : ℕ) (d : A) (old new : List B) (b : B) → i < length xs → map seen old ≡ map f (take i xs) → new ≡ old ++ b ∷ [] → seen b ≡ f (get_or xs i d) →
    map seen new ≡ map f (take (i + 1) xs)
kept_more seen f xs i d old new b lt was is e = told_more f xs i d (map seen old) (map seen new) (seen b) lt was (ap (map seen) is ∙ map-append seen old (b ∷ [])) e

pub filter_one : {A : Type 0} (q : A → Bool) (xs : List A) (x : A) → filter q (xs ++ x ∷ []) ≡ filter q xs ++ (if q x then x ∷ [] else [])
filter_one q [] x = refl
filter_one q (y ∷ ys) x = by_test (q y) (filter_one q ys x)
  where
    by_test : (b : Bool) → filter q (ys ++ x ∷ []) ≡ filter q ys ++ (if q x then x ∷ [] else []) → (if b then y ∷ filter q (ys ++ x ∷ []) else filter q (ys ++ x ∷ [])) ≡ (if b then y ∷ filter q ys else filter q ys) ++ (if q x then x ∷ [] else [])
    by_test true e = λ j. y ∷ e j
    by_test false e = e

-- the same of those that pass
pub passed_more : {A B C : Type 0} (seen : B → C) (f : A → C) (q : A → Bool) (xs : List A) (i : ℕ) (d : A) (old new : List B) (b : B) → i < length xs → map seen old ≡ map f (filter q (take i xs)) → new ≡ old ++ b ∷ [] → seen b ≡ f (get_or xs i d) →
    q (get_or xs i d) ≡ true → map seen new ≡ map f (filter q (take (i + 1) xs))
passed_more seen f q xs i d old new b lt was is e h =
    ap (map seen) is ∙ map-append seen old (b ∷ []) ∙ (λ j. was j ++ e j ∷ []) ∙ sym (map-append f (filter q (take i xs)) (get_or xs i d ∷ []))
    ∙ ap (map f) (sym (ap (filter q) (take_more xs i d lt) ∙ filter_one q (take i xs) (get_or xs i d) ∙ ap (λ (t : Bool). filter q (take i xs) ++ (if t then get_or xs i d ∷ [] else [])) h))

pub passed_over : {A C : Type 0} (f : A → C) (q : A → Bool) (xs : List A) (i : ℕ) (d : A) (old : List C) → i < length xs → old ≡ map f (filter q (take i xs)) → q (get_or xs i d) ≡ false → old ≡ map f (filter q (take (i + 1) xs))
passed_over f q xs i d old lt was h =
    was ∙ ap (map f) (sym (ap (filter q) (take_more xs i d lt) ∙ filter_one q (take i xs) (get_or xs i d) ∙ ap (λ (t : Bool). filter q (take i xs) ++ (if t then get_or xs i d ∷ [] else [])) h ∙ append-nil (filter q (take i xs))))

-- one more is told of what items are told as
pub twice_more : {A B C : Type 0} (f : B → C) (seen : A → B) (xs : List A) (i : ℕ) (d : A) (old new : List C) (c : C) → i < length xs → old ≡ map f (map seen (take i xs)) → new ≡ old ++ c ∷ [] → c ≡ f (seen (get_or xs i d)) →
    new ≡ map f (map seen (take (i + 1) xs))
twice_more f seen xs i d old new c lt was is e =
    is ∙ (λ j. was j ++ e j ∷ []) ∙ sym (map-append f (map seen (take i xs)) (seen (get_or xs i d) ∷ [])) ∙ ap (map f) (sym (map-append seen (take i xs) (get_or xs i d ∷ []))) ∙ ap (λ (ys : List _). map f (map seen ys)) (sym (take_more xs i d lt))

pub twice_all : {A B C : Type 0} (f : B → C) (seen : A → B) (xs : List A) (i : ℕ) (old : List C) → length xs ≤ i → old ≡ map f (map seen (take i xs)) → old ≡ map f (map seen xs)
twice_all f seen xs i old le was = was ∙ ap (λ (ys : List _). map f (map seen ys)) (take_all i xs le)

-- of what is told those that pass
module _ {A B C : Type 0} (seen : B → C) (p : A → C) (q : C → Bool) (xs : List A) (i : ℕ) (d : A) where
  next_told : i < length xs → filter q (map p (take (i + 1) xs)) ≡ filter q (map p (take i xs)) ++ (if q (p (get_or xs i d)) then p (get_or xs i d) ∷ [] else [])
  next_told lt = ap (λ (ys : List A). filter q (map p ys)) (take_more xs i d lt) ∙ ap (filter q) (map-append p (take i xs) (get_or xs i d ∷ [])) ∙ filter_one q (map p (take i xs)) (p (get_or xs i d))

  pub told_if : (old new : List B) (b : B) → i < length xs → map seen old ≡ filter q (map p (take i xs)) → new ≡ old ++ b ∷ [] → seen b ≡ p (get_or xs i d) → q (seen b) ≡ true → map seen new ≡ filter q (map p (take (i + 1) xs))
  told_if old new b lt was is e h =
      ap (map seen) is ∙ map-append seen old (b ∷ []) ∙ (λ j. was j ++ e j ∷ []) ∙ sym (next_told lt ∙ ap (λ (t : Bool). filter q (map p (take i xs)) ++ (if t then p (get_or xs i d) ∷ [] else [])) (ap q (sym e) ∙ h))

  pub told_over : (old : List B) (b : B) → i < length xs → map seen old ≡ filter q (map p (take i xs)) → seen b ≡ p (get_or xs i d) → q (seen b) ≡ false → map seen old ≡ filter q (map p (take (i + 1) xs))
  told_over old b lt was e h =
      was ∙ sym (next_told lt ∙ ap (λ (t : Bool). filter q (map p (take i xs)) ++ (if t then p (get_or xs i d) ∷ [] else [])) (ap q (sym e) ∙ h) ∙ append-nil (filter q (map p (take i xs))))

-- what holds of each, and of one more
pub each_more : {B C : Type 0} (seen : B → C) (P : C → Type 0) (old new : List B) (b : B) → ((c : C) → IsIn c (map seen old) → P c) → new ≡ old ++ b ∷ [] → P (seen b) → (c : C) → IsIn c (map seen new) → P c
each_more {C = C} seen P old new b each is one c h = by_case (in_either c (map seen old) (seen b ∷ []) (subst (IsIn c) (ap (map seen) is ∙ map-append seen old (b ∷ [])) h))
  where
    by_case : IsIn c (map seen old) ⊎ ((seen b ≡ c) ⊎ ⊥) → P c
    by_case (inl k) = each c k
    by_case (inr (inl k)) = subst P k one
    by_case (inr (inr k)) = absurd k

pub item_in : {B C : Type 0} (seen : B → C) (xs : List B) (i : ℕ) (d : B) → i < length xs → IsIn (seen (get_or xs i d)) (map seen xs)
item_in seen [] i d lt = absurd (omega (arith, lt))
item_in seen (x ∷ xs) zero d lt = inl refl
item_in seen (x ∷ xs) (suc i) d lt = inr (item_in seen xs i d (omega (arith, lt)))

-- ---- the same members

abbrev pub HaveSame : {A : Type 0} → List A → List A → Type 0
HaveSame {A = A} xs ys = (x : A) → IsIn x xs ↔ IsIn x ys

pub same_listed : {A : Type 0} (xs ys : List A) → xs ≡ ys → HaveSame xs ys
same_listed xs ys e x = (subst (IsIn x) e, subst (IsIn x) (sym e))

pub same_twice : {A : Type 0} (xs ys zs : List A) → HaveSame xs ys → HaveSame ys zs → HaveSame xs zs
same_twice xs ys zs h k x = (λ i. (k x).0 ((h x).0 i), λ i. (h x).1 ((k x).1 i))

pub same_both : {A : Type 0} (ws xs ys zs : List A) → HaveSame ws xs → HaveSame ys zs → HaveSame (ws ++ ys) (xs ++ zs)
same_both ws xs ys zs h k x = (λ i. there (in_either x ws ys i), λ i. back (in_either x xs zs i))
  where
    there : IsIn x ws ⊎ IsIn x ys → IsIn x (xs ++ zs)
    there (inl i) = in_left x xs zs ((h x).0 i)
    there (inr i) = in_right x xs zs ((k x).0 i)

    back : IsIn x xs ⊎ IsIn x zs → IsIn x (ws ++ ys)
    back (inl i) = in_left x ws ys ((h x).1 i)
    back (inr i) = in_right x ws ys ((k x).1 i)

pub same_turned : {A : Type 0} (xs ys : List A) → HaveSame (xs ++ ys) (ys ++ xs)
same_turned xs ys x = (λ i. turned xs ys (in_either x xs ys i), λ i. turned ys xs (in_either x ys xs i))
  where
    turned : (us vs : List _) → IsIn x us ⊎ IsIn x vs → IsIn x (vs ++ us)
    turned us vs (inl i) = in_right x vs us i
    turned us vs (inr i) = in_left x vs us i

pub same_map : {A C : Type 0} (f : A → C) (xs ys : List A) → HaveSame xs ys → HaveSame (map f xs) (map f ys)
same_map f xs ys h c = (λ i. let r = from_map f c xs i in subst (λ w. IsIn w (map f ys)) r.2 (in_map f r.0 ys ((h r.0).0 r.1)), λ i. let r = from_map f c ys i in subst (λ w. IsIn w (map f xs)) r.2 (in_map f r.0 xs ((h r.0).1 r.1)))

pub same_flat : {A C : Type 0} (f : A → List C) (xs ys : List A) → HaveSame xs ys → HaveSame (flat_map f xs) (flat_map f ys)
same_flat f xs ys h c = (λ i. let r = from_flat_map f c xs i in in_flat_map f r.0 c ys ((h r.0).0 r.1) r.2, λ i. let r = from_flat_map f c ys i in in_flat_map f r.0 c xs ((h r.0).1 r.1) r.2)

pub same_filter : {A : Type 0} (q : A → Bool) (xs ys : List A) → HaveSame xs ys → HaveSame (filter q xs) (filter q ys)
same_filter q xs ys h x = (λ i. let r = passed xs i in pass ys ((h x).0 r.0) r.1, λ i. let r = passed ys i in pass xs ((h x).1 r.0) r.1)
  where
    passed : (zs : List _) → IsIn x (filter q zs) → IsIn x zs × (q x ≡ true)
    passed zs i = from_filter q x zs i

    pass : (zs : List _) → IsIn x zs → q x ≡ true → IsIn x (filter q zs)
    pass zs i e = in_filter q x zs i e

pub occs_same : (os these : List Occ) → AreOccs os these → HaveSame os these
occs_same os these h o = (λ i. in_from o these ((h.same o).0 (contains_from o os i)), λ i. in_from o os ((h.same o).1 (contains_from o these i)))
