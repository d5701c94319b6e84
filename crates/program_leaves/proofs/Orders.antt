-- Lists that were sorted and of which each item was kept once; the orders of occurrences and of pairs.
use Rattle.std.proofs.Common.{◌≡◌, ◌↔◌, Bool, true, List, [], sym, ◌∙◌, subst}
use Rattle.std.specs.Prelude.{◌&&◌}
use Rattle.std.specs.List.{Contains, dedup}
use Rattle.std.specs.List.Retain.{IsFiltered, DiffersFromLast}
use Rattle.std.specs.List.Sorted.{IsPermutation, IsSorted, IsStrictlySortedBy}
use Rattle.std.specs.Ordering.{eq_by_cmp}
use Rattle.std.specs.declared.cmp.Ordering.{Ordering}
use Rattle.std.specs.Cmp.{IsTotalOrder, IsEquivalence, nat_cmp_total, on_total, then_total, eq_by_cmp_equiv}
use Rattle.std.proofs.lemmas.List.Kept.{Contains-dedup, Contains-from_dedup, IsStrictlySortedBy-dedup}
use Rattle.std.proofs.lemmas.List.Filters.{dedup_is}
use Rattle.std.proofs.lemmas.List.Sorted.{Contains-permutation, IsPermutation-sym}
use Rattle.scheme_model.specs.declared.Occ.{Occ}
use Rattle.scheme_model.specs.Entries.{same_occ}
use Rattle.program_leaves.specs.declared.pairs.Pair.{Pair}
use Rattle.program_leaves.specs.Placed.{occ_cmp}
use Rattle.program_leaves.specs.Pairs.{pair_cmp}
use Rattle.program_leaves.proofs.KeyLaws.{both_equal, occs_equal, one_occ, left, right}

module _ {X : Type 0} {R : X → X → Ordering} (o : IsTotalOrder R) {E : X → X → Bool} (ties : (x y : X) → E x y ≡ eq_by_cmp R x y) (one : (x y : X) → E x y ≡ true → x ≡ y) where
  alike : IsEquivalence E
  alike = subst IsEquivalence (sym (λ j x y. ties x y j)) (eq_by_cmp_equiv o)

  pub each_once : (xs ys zs all : List X) → IsPermutation xs ys → IsSorted R ys → IsFiltered (DiffersFromLast E) [] ys zs → all ≡ zs → IsStrictlySortedBy R all × ((q : X) → Contains all q ↔ Contains xs q)
  each_once xs ys zs all p s f e =
      let is : all ≡ dedup E ys = e ∙ dedup_is E ys zs f in (
        subst (IsStrictlySortedBy R) (sym is) (IsStrictlySortedBy-dedup o ties ys s),
        λ q. (
          λ g. Contains-permutation ys xs q (IsPermutation-sym xs ys p) (Contains-from_dedup E ys q (subst (λ (l : List X). Contains l q) is g)),
          λ g. subst (λ (l : List X). Contains l q) (sym is) (Contains-dedup alike one ys q (Contains-permutation xs ys q p g)),
        ),
      )

-- ---- occurrences

pub occ_total : IsTotalOrder occ_cmp
occ_total = then_total (on_total (λ (o : Occ). o.unit) nat_cmp_total) (then_total (on_total (λ (o : Occ). o.form) nat_cmp_total) (on_total (λ (o : Occ). o.token) nat_cmp_total))

pub occ_ties : (o p : Occ) → same_occ o p ≡ eq_by_cmp occ_cmp o p
occ_ties o p = sym (occs_equal o p)

-- ---- pairs

pub pair_total : IsTotalOrder pair_cmp
pair_total = then_total (on_total (λ (p : Pair). p.binder) occ_total) (on_total (λ (p : Pair). p.target) occ_total)

abbrev same_pair : Pair → Pair → Bool
same_pair p q = same_occ p.binder q.binder && same_occ p.target q.target

pub pair_ties : (p q : Pair) → same_pair p q ≡ eq_by_cmp pair_cmp p q
pair_ties p q = sym (both_equal (occ_cmp p.binder q.binder) (occ_cmp p.target q.target) ∙ (λ j. occs_equal p.binder q.binder j && occs_equal p.target q.target j))

pub one_pair : (p q : Pair) → same_pair p q ≡ true → p ≡ q
one_pair p q h =
    let b = one_occ p.binder q.binder (left (same_occ p.binder q.binder) (same_occ p.target q.target) h) in
    let t = one_occ p.target q.target (right (same_occ p.binder q.binder) (same_occ p.target q.target) h) in
    λ j. record { binder = b j; target = t j }
