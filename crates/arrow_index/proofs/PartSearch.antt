-- Whether an occurrence has a part, found by the order of parts.
use Rattle.std.proofs.Common.{◌≡◌, ◌⊎◌, inl, inr, ℕ, zero, suc, ◌<◌, ◌≤◌, List, [], ◌∷◌, length, get_or, slice_get, Some, None, Bool, true, false, refl, sym, ap, ◌∙◌, arith}
use Rattle.std.specs.Prelude.{◌||◌}
use Rattle.std.specs.List.Sorted.{IsStrictlySortedBy, IsPartitionedBy, IsPartitionPoint}
use Rattle.std.specs.Ordering.{is_eq, is_lt}
use Rattle.std.specs.declared.cmp.Ordering.{Ordering}
use Rattle.std.specs.declared.cmp.Ordering.TheVariants.{Less, Equal}
use Rattle.std.proofs.lemmas.Bool.{cases_order}
use Rattle.scheme_model.specs.declared.Occ.{Occ}
use Rattle.scheme_model.specs.Entries.{same_occ}
use Rattle.program_leaves.specs.Placed.{occ_cmp}
use Rattle.program_leaves.proofs.KeyLaws.{one_occ, occs_equal}
use Rattle.arrow_index.specs.Classes.{has_part, part_cmp}
use Rattle.arrow_index.specs.declared.classes.ClassPart.{ClassPart}
use Rattle.arrow_index.proofs.QueryLaws.{before_not_same, first_less, keys_before, keys_in_turn}

part_first : (p q : ClassPart) → part_cmp p q ≡ Less → (occ_cmp p.occ q.occ ≡ Less) ⊎ (occ_cmp p.occ q.occ ≡ Equal)
part_first p q h = first_less (occ_cmp p.occ q.occ) _ h

pub before_parts : (ps : List ClassPart) (o : Occ) → IsStrictlySortedBy part_cmp ps → IsPartitionedBy (λ (p : ClassPart). is_lt (occ_cmp p.occ o)) ps
before_parts ps o h = keys_before part_cmp (λ (p : ClassPart). p.occ) part_first ps o h

-- one that has a part at a place
pub there : (ps : List ClassPart) (o : Occ) (k : ℕ) (d : ClassPart) → k < length ps → same_occ (get_or ps k d).occ o ≡ true → has_part ps o ≡ true
there [] o k d lt e = absurd (omega (arith, lt))
there (p ∷ ps) o zero d lt e = ap (λ (b : Bool). b || has_part ps o) e
there (p ∷ ps) o (suc k) d lt e = ap (λ (b : Bool). same_occ p.occ o || b) (there ps o k d (omega (arith, lt)) e) ∙ or_true (same_occ p.occ o)
  where
    or_true : (b : Bool) → (b || true) ≡ true
    or_true true = refl
    or_true false = refl

-- one that has a part at none
nowhere : (ps : List ClassPart) (o : Occ) → ((k : ℕ) (d : ClassPart) → k < length ps → same_occ (get_or ps k d).occ o ≡ false) → has_part ps o ≡ false
nowhere [] o h = refl
nowhere (p ∷ ps) o h =
    let first : same_occ p.occ o ≡ false = h zero p (omega arith) in
    let rest = nowhere ps o (λ k d lt. h (suc k) d (omega (arith, lt))) in
    λ j. first j || rest j

-- where the first that doesn't come before isn't the same, or there is none
pub missing : (ps : List ClassPart) (o : Occ) (at : ℕ) → IsStrictlySortedBy part_cmp ps → IsPartitionPoint (λ (p : ClassPart). is_lt (occ_cmp p.occ o) ≡ true) (λ (p : ClassPart). is_lt (occ_cmp p.occ o) ≡ false) ps at →
    ((d : ClassPart) → at < length ps → same_occ (get_or ps at d).occ o ≡ false) → has_part ps o ≡ false
missing ps o at sorted point other = nowhere ps o (λ k d lt. elim (cases_order k at) [
  | inl e ↦ by_place k d lt (inr (omega (arith, e)))
  | inr more ↦ elim more [ inl l ↦ by_place k d lt (inl l) | inr g ↦ by_place k d lt (inr (omega (arith, g))) ]
])
  where
    by_test : (k : ℕ) (d : ClassPart) → at ≤ k → k < length ps → (b : Bool) → same_occ (get_or ps k d).occ o ≡ b → b ≡ false
    by_test k d le lt false e = refl
    by_test k d le lt true e =
        let x = get_or ps at d in
        let y = get_or ps k d in
        let within : at < length ps = omega (arith, le, lt) in
        let is : y.occ ≡ o = one_occ y.occ o e in
        elim (keys_in_turn part_cmp (λ (p : ClassPart). p.occ) part_first ps at k d sorted le lt) [
          | inl l ↦
              let before : is_lt (occ_cmp x.occ o) ≡ true = ap (λ (z : Occ). is_lt (occ_cmp x.occ z)) (sym is) ∙ ap is_lt l in
              let not_before : is_lt (occ_cmp x.occ o) ≡ false = point.1 at d (omega arith) within in
              let both : true ≡ false = sym before ∙ not_before in absurd cc
          | inr q ↦
              let same : same_occ x.occ o ≡ true = ap (same_occ x.occ) (sym is) ∙ sym (occs_equal x.occ y.occ) ∙ equal_is (occ_cmp x.occ y.occ) q in
              let both : true ≡ false = sym same ∙ other d within in absurd cc
        ]
      where
        equal_is : (r : Ordering) → r ≡ Equal → is_eq r ≡ true
        equal_is r h = ap is_eq h

    by_place : (k : ℕ) (d : ClassPart) → k < length ps → (k < at) ⊎ (at ≤ k) → same_occ (get_or ps k d).occ o ≡ false
    by_place k d lt (inl l) = before_not_same (get_or ps k d).occ o (point.0 k d (omega arith) l)
    by_place k d lt (inr le) = by_test k d le lt (same_occ (get_or ps k d).occ o) refl

-- ---- at the place that was found

get_is : (ps : List ClassPart) (k : ℕ) (p d : ClassPart) → slice_get ps k ≡ Some p → (k < length ps) × (get_or ps k d ≡ p)
get_is [] k p d h = absurd cc
get_is (x ∷ ps) zero p d h = (omega arith, some h)
  where
    some : Some x ≡ Some p → x ≡ p
    some e = cc
get_is (x ∷ ps) (suc k) p d h = let r = get_is ps k p d h in (omega (arith, r.0), r.1)

none_is : (ps : List ClassPart) (k : ℕ) → slice_get ps k ≡ None → length ps ≤ k
none_is [] k h = omega arith
none_is (x ∷ ps) zero h = absurd cc
none_is (x ∷ ps) (suc k) h = let r = none_is ps k h in omega (arith, r)

module _ (ps : List ClassPart) (o : Occ) (at : ℕ) (sorted : IsStrictlySortedBy part_cmp ps) (point : IsPartitionPoint (λ (p : ClassPart). is_lt (occ_cmp p.occ o) ≡ true) (λ (p : ClassPart). is_lt (occ_cmp p.occ o) ≡ false) ps at) where
  pub found : (p : ClassPart) → slice_get ps at ≡ Some p → same_occ p.occ o ≡ has_part ps o
  found p h = by_value (same_occ p.occ o) refl
    where
      by_value : (b : Bool) → same_occ p.occ o ≡ b → b ≡ has_part ps o
      by_value true e = let r = get_is ps at p p h in sym (there ps o at p r.0 (ap (λ (q : ClassPart). same_occ q.occ o) r.1 ∙ e))
      by_value false e = sym (missing ps o at sorted point (λ d lt. ap (λ (q : ClassPart). same_occ q.occ o) (get_is ps at p d h).1 ∙ e))

  pub at_none : slice_get ps at ≡ None → false ≡ has_part ps o
  at_none h = let over = none_is ps at h in sym (missing ps o at sorted point (λ d lt. absurd (omega (arith, over, lt))))
