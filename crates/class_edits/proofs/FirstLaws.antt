-- The first of bytes is the one with which they begin in their order.
use Rattle.std.proofs.Common.{◌≡◌, ◌⊎◌, inl, inr, ℕ, zero, suc, ◌+◌, ◌<◌, ◌≤◌, arith, List, [], ◌∷◌, ◌++◌, map, drop, get_or, length, Bool, true, false, cond, Option, Some, None, refl, sym, ap, ◌∙◌}
use Rattle.scheme_model.specs.declared.Occ.{Occ}
use Rattle.scheme_model.specs.Answers.{Facts, bytes_before, ordered_by, put_by}
use Rattle.scheme_model.specs.Diagnostics.{Bytes}
use Rattle.program_leaves.specs.Members.{IsIn}
use Rattle.arrow_index.specs.Classes.{AreParts}
use Rattle.program_answers.specs.Classed.{bare_part, head_of}
use Rattle.program_answers.specs.declared.classes.ClassPart.{ClassPart}
use Rattle.program_answers.proofs.BytesLaws.{bytes_cmp, bytes_order}
use Rattle.program_answers.proofs.ListedLaws.{HaveSame, same_map}
use Rattle.program_answers.proofs.OrderedLaws.{same_ordered}
use Rattle.class_edits.specs.Clashes.{clashes, clashing}
use Rattle.class_edits.specs.FirstBytes.{earlier, first_of, is_same, repeated}
use Rattle.class_edits.proofs.ClashLaws.{are_clashing}

abbrev in_order : List Bytes → List Bytes
in_order bs = ordered_by bytes_before bs

-- ---- one more

head_put : (b : Bytes) (bs : List Bytes) → head_of (put_by bytes_before b bs) ≡ Some (earlier (head_of bs) b)
head_put b [] = refl
head_put b (a ∷ bs) = go (bytes_before b a) (bytes_before a b)
  where
    go : (s t : Bool) → head_of (cond s (b ∷ a ∷ bs) (cond t (a ∷ put_by bytes_before b bs) (a ∷ bs))) ≡ Some (cond s b a)
    go true t = refl
    go false true = refl
    go false false = refl

-- ---- all of them, those first that came last

abbrev onto : List Bytes → List Bytes → List Bytes
onto [] before = before
onto (b ∷ bs) before = onto bs (b ∷ before)

first_onto : (o : Option Bytes) (bs before : List Bytes) → o ≡ head_of (in_order before) → first_of o bs ≡ head_of (in_order (onto bs before))
first_onto o [] before e = e
first_onto o (b ∷ bs) before e = first_onto (Some (earlier o b)) bs (b ∷ before) (ap (λ q. Some (earlier q b)) e ∙ sym (head_put b (in_order before)))

from_onto : (b : Bytes) (bs before : List Bytes) → IsIn b (onto bs before) → IsIn b bs ⊎ IsIn b before
from_onto b [] before i = inr i
from_onto b (a ∷ bs) before i = by_case (from_onto b bs (a ∷ before) i)
  where
    by_case : IsIn b bs ⊎ ((a ≡ b) ⊎ IsIn b before) → ((a ≡ b) ⊎ IsIn b bs) ⊎ IsIn b before
    by_case (inl j) = inl (inr j)
    by_case (inr (inl e)) = inl (inl e)
    by_case (inr (inr j)) = inr j

in_onto : (b : Bytes) (bs before : List Bytes) → IsIn b bs ⊎ IsIn b before → IsIn b (onto bs before)
in_onto b [] before (inl i) = absurd i
in_onto b [] before (inr i) = i
in_onto b (a ∷ bs) before (inl (inl e)) = in_onto b bs (a ∷ before) (inr (inl e))
in_onto b (a ∷ bs) before (inl (inr i)) = in_onto b bs (a ∷ before) (inl i)
in_onto b (a ∷ bs) before (inr i) = in_onto b bs (a ∷ before) (inr (inr i))

same_onto : (bs : List Bytes) → HaveSame (onto bs []) bs
same_onto bs b = (λ i. by_case (from_onto b bs [] i), λ i. in_onto b bs [] (inl i))
  where
    by_case : IsIn b bs ⊎ ⊥ → IsIn b bs
    by_case (inl i) = i
    by_case (inr i) = absurd i

first_is : (bs : List Bytes) → first_of None bs ≡ head_of (in_order bs)
first_is bs = first_onto None bs [] refl ∙ ap head_of (same_ordered bytes_cmp bytes_before bytes_order (onto bs []) bs (same_onto bs))

-- ---- of the members that would get two new names

pub first_clashing : (f : Facts) (at : Occ) (parts : List ClassPart) → AreParts (map bare_part parts) f.links at → first_of None (map f.bytes (repeated None parts)) ≡ head_of (clashes f at)
first_clashing f at parts are =
    first_is (map f.bytes (repeated None parts))
    ∙ ap head_of (same_ordered bytes_cmp bytes_before bytes_order (map f.bytes (repeated None parts)) (map f.bytes (clashing f.links at)) (same_map f.bytes (repeated None parts) (clashing f.links at) (are_clashing f.links at parts are)))

-- ---- where there is none

none_put : (b : Bytes) (bs : List Bytes) → head_of (put_by bytes_before b bs) ≡ None → ⊥
none_put b bs h = let e = sym (head_put b bs) ∙ h in cc

none_first : (f : Facts) (os : List Occ) → head_of (in_order (map f.bytes os)) ≡ None → os ≡ []
none_first f [] h = refl
none_first f (o ∷ os) h = absurd (none_put (f.bytes o) (in_order (map f.bytes os)) h)

pub none_clashing : (f : Facts) (at : Occ) → head_of (clashes f at) ≡ None → clashing f.links at ≡ []
none_clashing f at h = none_first f (clashing f.links at) h

-- ---- part by part

drop_one : {A : Type 0} (xs : List A) (i : ℕ) (x : A) → i < length xs → x ≡ get_or xs i x → drop i xs ≡ x ∷ drop (suc i) xs
drop_one [] i x lt is = absurd (omega (arith, lt))
drop_one (y ∷ xs) zero x lt is = λ j. sym is j ∷ xs
drop_one (y ∷ xs) (suc i) x lt is = drop_one xs i x (omega (arith, lt)) is

drop_next : {A : Type 0} (xs : List A) (i : ℕ) (x : A) → i < length xs → x ≡ get_or xs i x → drop i xs ≡ x ∷ drop (i + 1) xs
drop_next xs i x lt is = let count : suc i ≡ i + 1 = omega arith in drop_one xs i x lt is ∙ ap (λ (n : ℕ). x ∷ drop n xs) count

module _ (f : Occ → Bytes) (parts : List ClassPart) (i : ℕ) (p : ClassPart) (last : Option Occ) (first : Option Bytes) where
  left : i < length parts → p ≡ get_or parts i p → (b : Bool) → is_same last p.occ ≡ b → repeated last (drop i parts) ≡ cond b (p.occ ∷ []) [] ++ repeated (Some p.occ) (drop (i + 1) parts)
  left lt is b e = ap (repeated last) (drop_next parts i p lt is) ∙ ap (λ (t : Bool). cond t (p.occ ∷ []) [] ++ repeated (Some p.occ) (drop (i + 1) parts)) e

  pub step_again : (new : Option Bytes) → i < length parts → p ≡ get_or parts i p → is_same last p.occ ≡ true → new ≡ Some (earlier first (f p.occ)) →
      first_of new (map f (repeated (Some p.occ) (drop (i + 1) parts))) ≡ first_of first (map f (repeated last (drop i parts)))
  step_again new lt is e k = ap (λ (o : Option Bytes). first_of o (map f (repeated (Some p.occ) (drop (i + 1) parts)))) k ∙ sym (ap (λ (os : List Occ). first_of first (map f os)) (left lt is true e))

  pub step_over : i < length parts → p ≡ get_or parts i p → is_same last p.occ ≡ false → first_of first (map f (repeated (Some p.occ) (drop (i + 1) parts))) ≡ first_of first (map f (repeated last (drop i parts)))
  step_over lt is e = sym (ap (λ (os : List Occ). first_of first (map f os)) (left lt is false e))

pub none_left : (f : Occ → Bytes) (parts : List ClassPart) (i : ℕ) (last : Option Occ) (first : Option Bytes) → length parts ≤ i → first_of first (map f (repeated last (drop i parts))) ≡ first
none_left f parts i last first le = ap (λ (ps : List ClassPart). first_of first (map f (repeated last ps))) (gone parts i le)
  where
    gone : (ps : List ClassPart) (i : ℕ) → length ps ≤ i → drop i ps ≡ []
    gone [] zero le = refl
    gone [] (suc i) le = refl
    gone (p ∷ ps) zero le = absurd (omega (arith, le))
    gone (p ∷ ps) (suc i) le = gone ps i (omega (arith, le))
