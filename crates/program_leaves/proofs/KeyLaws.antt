-- Keys that are one, and maps by keys of which the first or the last counts.
use Rattle.std.proofs.Common.{◌≡◌, ℕ, ◌+◌, ◌<◌, Bool, true, false, cond, List, [], ◌∷◌, ◌++◌, map, take, length, get_or, Option, Some, None, refl, sym, ap, ◌∙◌, arith}
use Rattle.std.specs.Prelude.{◌&&◌, ◌||◌, ◌==◌, if◌then◌else◌}
use Rattle.std.specs.Ordering.{nat_cmp, ordering_then, is_eq}
use Rattle.std.specs.declared.cmp.Ordering.{Ordering}
use Rattle.std.specs.declared.cmp.Ordering.TheVariants.{Less, Equal, Greater}
use Rattle.std.proofs.lemmas.Bool.Decides.{nat_tests}
use Rattle.std.proofs.lemmas.List.{map-append, take_more}
use Rattle.scheme_model.specs.declared.Occ.{Occ}
use Rattle.scheme_model.specs.Entries.{same_occ}
use Rattle.syntax_tree.specs.declared.rules.Named as code
use Rattle.program_leaves.specs.declared.sight.LocalNo.{LocalNo}
use Rattle.program_leaves.specs.declared.sight.GlobalNo.{GlobalNo}
use Rattle.program_leaves.specs.declared.sight.PlacedLeaf.{PlacedLeaf}
use Rattle.program_leaves.specs.Placed.{occ_cmp, local_cmp, global_cmp, form_cmp, same_local, same_global, first_or, PlacedSeen, placed_of, bound_in, bound_or, local_in}
use Rattle.program_leaves.specs.Variables.{place_among}

pub both_equal : (a b : Ordering) → is_eq (ordering_then a b) ≡ (is_eq a && is_eq b)
both_equal Less b = refl
both_equal Equal b = refl
both_equal Greater b = refl

pub numbers_equal : (a b : ℕ) → is_eq (nat_cmp a b) ≡ (a == b)
numbers_equal a b = grind (arith, nat_tests)

pub locals_equal : (a b : LocalNo) → is_eq (local_cmp a b) ≡ same_local a b
locals_equal a b =
    both_equal (form_cmp a.at b.at) (nat_cmp a.count b.count)
    ∙ (λ j. (both_equal (nat_cmp a.at.unit b.at.unit) (nat_cmp a.at.form b.at.form) ∙ (λ i. numbers_equal a.at.unit b.at.unit i && numbers_equal a.at.form b.at.form i)) j && numbers_equal a.count b.count j)

pub globals_equal : (a b : GlobalNo) → is_eq (global_cmp a b) ≡ same_global a b
globals_equal a b = both_equal (nat_cmp a.unit b.unit) (nat_cmp a.ident b.ident) ∙ (λ i. numbers_equal a.unit b.unit i && numbers_equal a.ident b.ident i)

-- keys that are told to be one are
pub one_number : (a b : ℕ) → (a == b) ≡ true → a ≡ b
one_number a b h = grind (arith, nat_tests)

pub left : (a b : Bool) → (a && b) ≡ true → a ≡ true
left true b h = refl
left false b h = absurd cc

pub right : (a b : Bool) → (a && b) ≡ true → b ≡ true
right true b h = h
right false b h = absurd cc

pub one_local : (a b : LocalNo) → same_local a b ≡ true → a ≡ b
one_local a b h =
    let f = left (a.at.unit == b.at.unit && a.at.form == b.at.form) (a.count == b.count) h in
    let u = one_number a.at.unit b.at.unit (left (a.at.unit == b.at.unit) (a.at.form == b.at.form) f) in
    let g = one_number a.at.form b.at.form (right (a.at.unit == b.at.unit) (a.at.form == b.at.form) f) in
    let n = one_number a.count b.count (right (a.at.unit == b.at.unit && a.at.form == b.at.form) (a.count == b.count) h) in
    λ j. record { at = record { unit = u j; form = g j }; count = n j }

-- ---- of which the first counts

pub first_none : {A : Type 0} (o : Option A) → first_or o None ≡ o
first_none None = refl
first_none (Some p) = refl

pub first_first : {A : Type 0} (a b c : Option A) → first_or (first_or a b) c ≡ first_or a (first_or b c)
first_first None b c = refl
first_first (Some p) b c = refl

pub if_first : {A : Type 0} (b : Bool) (p : A) (x y : Option A) → (if b then Some p else first_or x y) ≡ first_or (if b then Some p else x) y
if_first true p x y = refl
if_first false p x y = refl

bound_first : (b : Option (LocalNo × Option Occ)) (k : LocalNo) (x y : Option (Option Occ)) → bound_or b k (first_or x y) ≡ first_or (bound_or b k x) y
bound_first None k x y = refl
bound_first (Some b) k x y = if_first (same_local b.0 k) b.1 x y

local-append : (xs ys : List PlacedSeen) (k : LocalNo) → local_in (xs ++ ys) k ≡ first_or (local_in xs k) (local_in ys k)
local-append [] ys k = refl
local-append (x ∷ xs) ys k = ap (bound_or (bound_in x) k) (local-append xs ys k) ∙ bound_first (bound_in x) k (local_in xs k) (local_in ys k)

pub local_more : (ls : List PlacedLeaf) (i : ℕ) (l : PlacedLeaf) (k : LocalNo) (old new : Option (Option Occ)) → i < length ls → l ≡ get_or ls i l → old ≡ local_in (map placed_of (take i ls)) k →
    new ≡ first_or old (bound_or (bound_in (placed_of l)) k None) → new ≡ local_in (map placed_of (take (i + 1) ls)) k
local_more ls i l k old new lt is h n =
    n ∙ (λ j. first_or (h j) (bound_or (bound_in (placed_of (is j))) k None)) ∙ sym (local-append (map placed_of (take i ls)) (placed_of (get_or ls i l) ∷ []) k)
    ∙ ap (λ (q : List PlacedSeen). local_in q k) (sym (ap (map placed_of) (take_more ls i l lt) ∙ map-append placed_of (take i ls) (get_or ls i l ∷ [])))

place-append : (vs ws : List code.Named) (n : ℕ) → place_among (vs ++ ws) n ≡ first_or (place_among vs n) (place_among ws n)
place-append [] ws n = refl
place-append (v ∷ vs) ws n = ap (λ (q : Option (Option Occ)). if v.ident == n then Some v.occ else q) (place-append vs ws n) ∙ if_first (v.ident == n) v.occ (place_among vs n) (place_among ws n)

pub place_more : (vs : List code.Named) (i n : ℕ) (d : code.Named) (old new : Option (Option Occ)) → i < length vs → old ≡ place_among (take i vs) n →
    new ≡ first_or old (if (get_or vs i d).ident == n then Some (get_or vs i d).occ else None) → new ≡ place_among (take (i + 1) vs) n
place_more vs i n d old new lt h k =
    k ∙ ap (λ (o : Option (Option Occ)). first_or o (if (get_or vs i d).ident == n then Some (get_or vs i d).occ else None)) h ∙ sym (place-append (take i vs) (get_or vs i d ∷ []) n)
    ∙ ap (λ (q : List code.Named). place_among q n) (sym (take_more vs i d lt))

-- ---- occurrences

pub occs_equal : (o p : Occ) → is_eq (occ_cmp o p) ≡ same_occ o p
occs_equal o p =
    both_equal (nat_cmp o.unit p.unit) (ordering_then (nat_cmp o.form p.form) (nat_cmp o.token p.token))
    ∙ (λ j. numbers_equal o.unit p.unit j && (both_equal (nat_cmp o.form p.form) (nat_cmp o.token p.token) ∙ (λ i. numbers_equal o.form p.form i && numbers_equal o.token p.token i)) j)

pub flip : (a b : ℕ) → (a == b) ≡ (b == a)
flip a b = grind (arith, nat_tests)

pub occs_flip : (o p : Occ) → same_occ o p ≡ same_occ p o
occs_flip o p = λ j. flip o.unit p.unit j && (flip o.form p.form j && flip o.token p.token j)

or_true : (b : Bool) → (b || true) ≡ true
or_true true = refl
or_true false = refl

pub or_false : (b : Bool) → (b || false) ≡ b
or_false true = refl
or_false false = refl

or_of : (b x : Bool) → cond b true x ≡ (x || b)
or_of true x = sym (or_true x)
or_of false x = sym (or_false x)

pub occ_added : (p o : Occ) (old new : Bool) → new ≡ cond (is_eq (occ_cmp p o)) true old → new ≡ (old || same_occ o p)
occ_added p o old new n = n ∙ ap (λ (b : Bool). cond b true old) (occs_equal p o ∙ occs_flip p o) ∙ or_of (same_occ o p) old

pub one_occ : (o p : Occ) → same_occ o p ≡ true → o ≡ p
one_occ o p h =
    let u = one_number o.unit p.unit (left (o.unit == p.unit) (o.form == p.form && o.token == p.token) h) in
    let r = right (o.unit == p.unit) (o.form == p.form && o.token == p.token) h in
    let f = one_number o.form p.form (left (o.form == p.form) (o.token == p.token) r) in
    let t = one_number o.token p.token (right (o.form == p.form) (o.token == p.token) r) in
    λ j. record { unit = u j; form = f j; token = t j }
