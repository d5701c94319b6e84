-- The order of links.
use Rattle.std.proofs.Common.{◌≡◌, ℕ, Bool, true, false, List, refl, sym, ap, ◌∙◌}
use Rattle.std.specs.Prelude.{◌&&◌}
use Rattle.std.specs.Str.{bytes_eq}
use Rattle.std.specs.Ordering.{nat_cmp, ordering_then, ordering_reverse, is_eq, eq_by_cmp}
use Rattle.std.specs.declared.cmp.Ordering.TheVariants.{Less, Equal}
use Rattle.std.specs.Cmp.{IsTotalOrder, on_total, then_total}
use Rattle.std.specs.Cmp.Lexicographic.{slice_cmp}
use Rattle.std.proofs.lemmas.Cmp.{nat_list_cmp_total}
use Rattle.std.proofs.lemmas.Map.Text.{is_eq-slice_cmp}
use Rattle.scheme_model.specs.declared.Occ.{Occ}
use Rattle.scheme_model.specs.Entries.{Source, At, StandardName, same_occ}
use Rattle.syntax_tree.proofs.InternLaws.{bytes_told}
use Rattle.program_leaves.specs.Placed.{occ_cmp}
use Rattle.program_leaves.proofs.KeyLaws.{both_equal, occs_equal, one_occ, left, right}
use Rattle.program_leaves.proofs.Orders.{occ_total}
use Rattle.arrow_index.specs.contracts.links.LinkOrd.TheImpl.{cmp-value}
use Rattle.arrow_index.specs.contracts.links.LinkPartialEq.TheImpl.{eq-value}
use Rattle.arrow_index.specs.Links.{source_of, as_link, origin_cmp, link_cmp}
use Rattle.arrow_index.specs.declared.links.Link.{Link}
use Rattle.arrow_index.specs.declared.links.LinkOrigin.{LinkOrigin}
use Rattle.arrow_index.specs.declared.links.LinkOrigin.TheVariants.{Place, Standard}

origin_turned : (x y : LinkOrigin) → origin_cmp x y ≡ ordering_reverse (origin_cmp y x)
origin_turned (Place o) (Place p) = occ_total.antisymm o p
origin_turned (Place o) (Standard t) = refl
origin_turned (Standard s) (Place p) = refl
origin_turned (Standard s) (Standard t) = nat_list_cmp_total.antisymm s t

origin_after : (x y z : LinkOrigin) → origin_cmp x y ≡ Less → origin_cmp y z ≡ Less → origin_cmp x z ≡ Less
origin_after (Place o) (Place p) (Place q) h g = occ_total.trans o p q h g
origin_after (Place o) (Place p) (Standard u) h g = refl
origin_after (Place o) (Standard t) (Place q) h g = absurd cc
origin_after (Place o) (Standard t) (Standard u) h g = refl
origin_after (Standard s) (Place p) z h g = absurd cc
origin_after (Standard s) (Standard t) (Place q) h g = absurd cc
origin_after (Standard s) (Standard t) (Standard u) h g = nat_list_cmp_total.trans s t u h g

origin_alike : (x y z : LinkOrigin) → origin_cmp x y ≡ Equal → origin_cmp x z ≡ origin_cmp y z
origin_alike (Place o) (Place p) (Place q) h = occ_total.congr o p q h
origin_alike (Place o) (Place p) (Standard u) h = refl
origin_alike (Place o) (Standard t) z h = absurd cc
origin_alike (Standard s) (Place p) z h = absurd cc
origin_alike (Standard s) (Standard t) (Place q) h = refl
origin_alike (Standard s) (Standard t) (Standard u) h = nat_list_cmp_total.congr s t u h

origin_total : IsTotalOrder origin_cmp
origin_total = record { antisymm = origin_turned; trans = origin_after; congr = origin_alike }

pub link_total : IsTotalOrder link_cmp
link_total = then_total (on_total (λ (l : Link). l.origin) origin_total) (then_total (on_total (λ (l : Link). l.target) occ_total) (on_total (λ (l : Link). l.prefix) nat_list_cmp_total))

abbrev same_origin : LinkOrigin → LinkOrigin → Bool
same_origin (Place o) (Place p) = same_occ o p
same_origin (Place o) (Standard t) = false
same_origin (Standard s) (Place p) = false
same_origin (Standard s) (Standard t) = bytes_eq s t

origins_equal : (x y : LinkOrigin) → is_eq (origin_cmp x y) ≡ same_origin x y
origins_equal (Place o) (Place p) = occs_equal o p
origins_equal (Place o) (Standard t) = refl
origins_equal (Standard s) (Place p) = refl
origins_equal (Standard s) (Standard t) = is_eq-slice_cmp s t

one_origin : (x y : LinkOrigin) → same_origin x y ≡ true → x ≡ y
one_origin (Place o) (Place p) h = ap Place (one_occ o p h)
one_origin (Place o) (Standard t) h = absurd cc
one_origin (Standard s) (Place p) h = absurd cc
one_origin (Standard s) (Standard t) h = ap Standard (bytes_told s t h)

abbrev pub same_link : Link → Link → Bool
same_link a b = same_origin a.origin b.origin && (same_occ a.target b.target && bytes_eq a.prefix b.prefix)

pub link_ties : (a b : Link) → same_link a b ≡ eq_by_cmp link_cmp a b
link_ties a b =
    sym (both_equal (origin_cmp a.origin b.origin) (ordering_then (occ_cmp a.target b.target) (slice_cmp nat_cmp a.prefix b.prefix))
    ∙ (λ j. origins_equal a.origin b.origin j && (both_equal (occ_cmp a.target b.target) (slice_cmp nat_cmp a.prefix b.prefix) ∙ (λ i. occs_equal a.target b.target i && is_eq-slice_cmp a.prefix b.prefix i)) j))

pub one_link : (a b : Link) → same_link a b ≡ true → a ≡ b
one_link a b h =
    let rest = right (same_origin a.origin b.origin) (same_occ a.target b.target && bytes_eq a.prefix b.prefix) h in
    let o = one_origin a.origin b.origin (left (same_origin a.origin b.origin) (same_occ a.target b.target && bytes_eq a.prefix b.prefix) h) in
    let t = one_occ a.target b.target (left (same_occ a.target b.target) (bytes_eq a.prefix b.prefix) rest) in
    let p = bytes_told a.prefix b.prefix (right (same_occ a.target b.target) (bytes_eq a.prefix b.prefix) rest) in
    λ j. record { origin = o j; target = t j; prefix = p j }

-- ---- the order that the code derives is this one

derived_cmp : (x y : LinkOrigin) (t u : Occ) (p q : List ℕ) →
    cmp-value.it (record { origin = x; target = t; prefix = p }) (record { origin = y; target = u; prefix = q }) ≡ link_cmp (record { origin = x; target = t; prefix = p }) (record { origin = y; target = u; prefix = q })
derived_cmp (Place o) (Place r) t u p q = refl
derived_cmp (Place o) (Standard r) t u p q = refl
derived_cmp (Standard s) (Place r) t u p q = refl
derived_cmp (Standard s) (Standard r) t u p q = refl

pub cmp_is : (a b : Link) → cmp-value.it a b ≡ link_cmp a b
cmp_is a b = derived_cmp a.origin b.origin a.target b.target a.prefix b.prefix

derived_eq : (x y : LinkOrigin) (t u : Occ) (p q : List ℕ) →
    eq-value.it (record { origin = x; target = t; prefix = p }) (record { origin = y; target = u; prefix = q }) ≡ same_link (record { origin = x; target = t; prefix = p }) (record { origin = y; target = u; prefix = q })
derived_eq (Place o) (Place r) t u p q = refl
derived_eq (Place o) (Standard r) t u p q = refl
derived_eq (Standard s) (Place r) t u p q = refl
derived_eq (Standard s) (Standard r) t u p q = refl

pub eq_is : (a b : Link) → eq-value.it a b ≡ same_link a b
eq_is a b = derived_eq a.origin b.origin a.target b.target a.prefix b.prefix

-- ---- links that say the same are one

place_told : (o p : Occ) → At o ≡ At p → o ≡ p
place_told o p e = ap (occ_of o) e
  where
    occ_of : Occ → Source → Occ
    occ_of d (At x) = x
    occ_of d (StandardName s) = d

name_told : (s t : List ℕ) → StandardName s ≡ StandardName t → s ≡ t
name_told s t e = ap (text_of s) e
  where
    text_of : List ℕ → Source → List ℕ
    text_of d (At x) = d
    text_of d (StandardName x) = x

source_told : (x y : LinkOrigin) → source_of x ≡ source_of y → x ≡ y
source_told (Place o) (Place p) e = ap Place (place_told o p e)
source_told (Place o) (Standard t) e = absurd cc
source_told (Standard s) (Place p) e = absurd cc
source_told (Standard s) (Standard t) e = ap Standard (name_told s t e)

pub same_as_link : (a b : Link) → as_link a ≡ as_link b → a ≡ b
same_as_link a b e =
    let o = source_told a.origin b.origin (λ j. (e j).origin) in
    λ j. record { origin = o j; target = (e j).target; prefix = (e j).prefix }
