-- The places of bindings whose variables are among some, and the bindings at them.
use Rattle.std.proofs.Common.{◌≡◌, ℕ, zero, suc, ◌+◌, ◌<◌, Bool, true, false, ◌||◌, ◌&&◌, List, [], ◌∷◌, ◌++◌, length, take, get_or, map, Some, refl, sym, ap, ◌∙◌, subst, arith}
use Rattle.std.specs.Prelude.{nat_eq, if◌then◌else◌, Option, Vec}
use Rattle.std.specs.declared.alloc.Global.{Global}
use Rattle.std.specs.declared.cmp.Ordering.{Ordering}
use Rattle.std.specs.declared.cmp.Ordering.TheVariants.{Less}
use Rattle.std.specs.List.{list_any, slice_get, AllByRecursion}
use Rattle.std.specs.BTreeMap.{BTreeMap}
use Rattle.std.specs.BTreeSet.{BTreeSet, contains, IsOrdered}
use Rattle.std.specs.List.Sorted.{IsStrictlySortedBy}
use Rattle.std.specs.Ordering.{nat_cmp, is_eq}
use Rattle.std.proofs.Math.Dec.{eqb-suc-suc, eqb-zero-suc, eqb-suc-zero}
use Rattle.std.proofs.lemmas.Bool.Decides.{nat_tests}
use Rattle.std.proofs.lemmas.Cmp.{nat_cmp_total}
use Rattle.std.proofs.lemmas.Map.Lookups.{btree_set_from_contains, exact_unsigned}
use Rattle.scheme_model.specs.Matching.{Binding}
use Rattle.scheme_model.specs.Trees.{Tree}
use Rattle.scheme_model.specs.Building.{stands_in, used_in}
use Rattle.scheme_model.specs.Ident.{Ident as Identifier, same_ident}
use Rattle.syntax_tree.specs.declared.trees.Work.{Work}
use Rattle.syntax_tree.specs.declared.trees.table.Region.{Region}
use Rattle.rules_build.specs.declared.values.Bound as code
use Rattle.rules_build.specs.Values.{has_at, places_at, ArePlaces, AreBound, IsBound, with_one, bounds_at}
use Rattle.rules_build.proofs.NameLaws.{key_is, or_none}
use Rattle.rules_build.proofs.PairLaws.{take_more}

-- ---- one binding more

and_true : (a : Bool) → a ≡ (a && true)
and_true true = refl
and_true false = refl

and_false : (a : Bool) → false ≡ (a && false)
and_false true = refl
and_false false = refl

pub has_last : (p : ℕ → Bool) (bs : List code.Bound) (b : code.Bound) (q : ℕ) → has_at p (bs ++ b ∷ []) q ≡ (has_at p bs q || (p b.variable && nat_eq q (length bs)))
has_last p [] b zero = and_true (p b.variable)
has_last p [] b (suc q) = and_false (p b.variable) ∙ ap (λ (x : Bool). p b.variable && x) (sym (eqb-suc-zero q))
has_last p (a ∷ bs) b zero = or_none (p a.variable) ∙ ap (λ (x : Bool). p a.variable || x) (and_false (p b.variable) ∙ ap (λ (x : Bool). p b.variable && x) (sym (eqb-zero-suc (length bs))))
has_last p (a ∷ bs) b (suc q) = has_last p bs b q ∙ ap (λ (x : Bool). has_at p bs q || (p b.variable && x)) (sym (eqb-suc-suc q (length bs)))

length_taken : (k : ℕ) (bs : List code.Bound) → k < length bs → length (take k bs) ≡ k
length_taken zero bs l = refl
length_taken (suc k) [] l = absurd (omega arith)
length_taken (suc k) (b ∷ bs) l = let e = length_taken k bs (omega arith) in ap suc e

pub has_more : (p : ℕ → Bool) (bs : List code.Bound) (k q : ℕ) (d : code.Bound) → k < length bs → has_at p (take (k + 1) bs) q ≡ (has_at p (take k bs) q || (p (get_or bs k d).variable && nat_eq q k))
has_more p bs k q d l =
    ap (λ (xs : List code.Bound). has_at p xs q) (take_more k bs d l) ∙ has_last p (take k bs) (get_or bs k d) q
    ∙ ap (λ (n : ℕ). has_at p (take k bs) q || (p (get_or bs k d).variable && nat_eq q n)) (length_taken k bs l)

-- ---- the places of some numbers

none_any : (ks : List ℕ) → list_any (λ (n : ℕ). false) ks ≡ false
none_any [] = refl
none_any (k ∷ ks) = none_any ks

pub eq_turned : (m n : ℕ) → nat_eq m n ≡ nat_eq n m
eq_turned m n = grind (arith, nat_tests)

any_by_number : (v : ℕ) (ks : List ℕ) → list_any (λ (n : ℕ). nat_eq v n) ks ≡ list_any (λ (n : ℕ). is_eq (nat_cmp v n)) ks
any_by_number v ks = λ j. list_any (λ (n : ℕ). sym (key_is v n) j) ks

has_any : (names : BTreeSet ℕ) (bs : List code.Bound) (q : ℕ) → list_any (λ (n : ℕ). has_at (λ v. nat_eq v n) bs q) names.keys ≡ has_at (contains nat_cmp names) bs q
has_any names [] q = none_any names.keys
has_any names (b ∷ bs) zero = any_by_number b.variable names.keys
has_any names (b ∷ bs) (suc q) = has_any names bs q

pub among : (names : BTreeSet ℕ) (places : BTreeMap ℕ (Vec ℕ Global)) (bs : List code.Bound) (q : ℕ) → ArePlaces bs places →
    list_any (λ (n : ℕ). list_any (nat_eq q) (places_at places n)) names.keys ≡ has_at (contains nat_cmp names) bs q
among names places bs q are = (λ j. list_any (λ (n : ℕ). are n q j) names.keys) ∙ has_any names bs q

-- a place is one of a binding
pub has_within : (p : ℕ → Bool) (bs : List code.Bound) (q : ℕ) → has_at p bs q ≡ true → q < length bs
has_within p [] q h = absurd cc
has_within p (b ∷ bs) zero h = omega arith
has_within p (b ∷ bs) (suc q) h = let l = has_within p bs q h in omega arith

-- ---- these places in order

abbrev where_at : (ℕ → Bool) → List code.Bound → List ℕ
where_at p [] = []
where_at p (b ∷ bs) = if p b.variable then 0 ∷ map suc (where_at p bs) else map suc (where_at p bs)

cmp_suc : (x y : ℕ) → nat_cmp (suc x) (suc y) ≡ nat_cmp x y
cmp_suc x y = grind (arith, nat_tests)

cmp_zero : (y : ℕ) → nat_cmp 0 (suc y) ≡ Less
cmp_zero y = grind (arith, nat_tests)

cmp_none : (y : ℕ) → is_eq (nat_cmp (suc y) 0) ≡ false
cmp_none y = key_is (suc y) 0 ∙ eqb-suc-zero y

zero_below : (ks : List ℕ) → AllByRecursion (λ (y : ℕ). nat_cmp 0 y ≡ Less) (map suc ks)
zero_below [] = tt
zero_below (k ∷ ks) = (cmp_zero k, zero_below ks)

below_suc : (x : ℕ) (ks : List ℕ) → AllByRecursion (λ (y : ℕ). nat_cmp x y ≡ Less) ks → AllByRecursion (λ (y : ℕ). nat_cmp (suc x) y ≡ Less) (map suc ks)
below_suc x [] h = tt
below_suc x (k ∷ ks) h = (cmp_suc x k ∙ h.0, below_suc x ks h.1)

sorted_suc : (ks : List ℕ) → IsStrictlySortedBy nat_cmp ks → IsStrictlySortedBy nat_cmp (map suc ks)
unfolding IsStrictlySortedBy
sorted_suc [] h = tt
sorted_suc (k ∷ ks) h = (below_suc k ks h.0, sorted_suc ks h.1)

sorted_if : (b : Bool) (ks : List ℕ) → IsStrictlySortedBy nat_cmp ks → IsStrictlySortedBy nat_cmp (if b then 0 ∷ map suc ks else map suc ks)
unfolding IsStrictlySortedBy
sorted_if true ks h = (zero_below ks, sorted_suc ks h)
sorted_if false ks h = sorted_suc ks h

sorted_where : (p : ℕ → Bool) (bs : List code.Bound) → IsStrictlySortedBy nat_cmp (where_at p bs)
unfolding IsStrictlySortedBy
sorted_where p [] = tt
sorted_where p (b ∷ bs) = sorted_if (p b.variable) (where_at p bs) (sorted_where p bs)

any_zero : (ks : List ℕ) → list_any (λ (k : ℕ). is_eq (nat_cmp 0 k)) (map suc ks) ≡ false
any_zero [] = refl
any_zero (k ∷ ks) = ap (λ (o : Ordering). is_eq o || list_any (λ (k : ℕ). is_eq (nat_cmp 0 k)) (map suc ks)) (cmp_zero k) ∙ any_zero ks

any_suc : (q : ℕ) (ks : List ℕ) → list_any (λ (k : ℕ). is_eq (nat_cmp (suc q) k)) (map suc ks) ≡ list_any (λ (k : ℕ). is_eq (nat_cmp q k)) ks
any_suc q [] = refl
any_suc q (k ∷ ks) = λ j. is_eq (cmp_suc q k j) || any_suc q ks j

any_where_zero : (b : Bool) (ks : List ℕ) → list_any (λ (k : ℕ). is_eq (nat_cmp 0 k)) (if b then 0 ∷ map suc ks else map suc ks) ≡ b
any_where_zero true ks = refl
any_where_zero false ks = any_zero ks

any_where_suc : (b : Bool) (q : ℕ) (ks : List ℕ) → list_any (λ (k : ℕ). is_eq (nat_cmp (suc q) k)) (if b then 0 ∷ map suc ks else map suc ks) ≡ list_any (λ (k : ℕ). is_eq (nat_cmp q k)) ks
any_where_suc true q ks = ap (λ (x : Bool). x || list_any (λ (k : ℕ). is_eq (nat_cmp (suc q) k)) (map suc ks)) (cmp_none q) ∙ any_suc q ks
any_where_suc false q ks = any_suc q ks

any_where : (p : ℕ → Bool) (bs : List code.Bound) (q : ℕ) → list_any (λ (k : ℕ). is_eq (nat_cmp q k)) (where_at p bs) ≡ has_at p bs q
any_where p [] q = refl
any_where p (b ∷ bs) zero = any_where_zero (p b.variable) (where_at p bs)
any_where p (b ∷ bs) (suc q) = any_where_suc (p b.variable) q (where_at p bs) ∙ any_where p bs q

-- a set of these places has them in order
where_is : (p : ℕ → Bool) (bs : List code.Bound) (places : BTreeSet ℕ) → IsOrdered nat_cmp places → ((q : ℕ) → contains nat_cmp places q ≡ has_at p bs q) → places.keys ≡ where_at p bs
where_is p bs places ordered has =
    btree_set_from_contains nat_cmp_total places (record { keys = where_at p bs }) ordered (sorted_where p bs) (λ q. has q ∙ sym (any_where p bs q)) exact_unsigned

-- ---- the bindings at places

pub at_first : (bs : List code.Bound) (k : ℕ) (ks : List ℕ) (b : code.Bound) → slice_get bs k ≡ Some b → bounds_at bs (k ∷ ks) ≡ b ∷ bounds_at bs ks
at_first bs k ks b e = ap (λ (o : Option code.Bound). with_one o (bounds_at bs ks)) e

at_suc : (b : code.Bound) (bs : List code.Bound) (ks : List ℕ) → bounds_at (b ∷ bs) (map suc ks) ≡ bounds_at bs ks
at_suc b bs [] = refl
at_suc b bs (k ∷ ks) = ap (with_one (slice_get bs k)) (at_suc b bs ks)

module _ (work : Work) (region : Region) (t : Tree Identifier) (p : ℕ → Bool) where
  used_if : (x y : Bool) → x ≡ y → (b : code.Bound) (bs : List code.Bound) (m : Binding Identifier Identifier) (ms : List (Binding Identifier Identifier)) (ks : List ℕ) →
      IsBound work region b m → AreBound work region (bounds_at bs ks) (used_in same_ident t ms) →
      AreBound work region (bounds_at (b ∷ bs) (if x then 0 ∷ map suc ks else map suc ks)) (if y then m ∷ used_in same_ident t ms else used_in same_ident t ms)
  used_if true true e b bs m ms ks one rest = (one, subst (λ (zs : List code.Bound). AreBound work region zs (used_in same_ident t ms)) (sym (at_suc b bs ks)) rest)
  used_if true false e b bs m ms ks one rest = absurd cc
  used_if false true e b bs m ms ks one rest = absurd cc
  used_if false false e b bs m ms ks one rest = subst (λ (zs : List code.Bound). AreBound work region zs (used_in same_ident t ms)) (sym (at_suc b bs ks)) rest

  used_where : ((b : code.Bound) (m : Binding Identifier Identifier) → IsBound work region b m → p b.variable ≡ stands_in same_ident m.variable t) →
      (bs : List code.Bound) (ms : List (Binding Identifier Identifier)) → AreBound work region bs ms → AreBound work region (bounds_at bs (where_at p bs)) (used_in same_ident t ms)
  used_where same [] [] h = tt
  used_where same [] (m ∷ ms) h = absurd h
  used_where same (b ∷ bs) [] h = absurd h
  used_where same (b ∷ bs) (m ∷ ms) h = used_if (p b.variable) (stands_in same_ident m.variable t) (same b m h.0) b bs m ms (where_at p bs) h.0 (used_where same bs ms h.1)

  -- the bindings at these places are those of variables that stand in the template
  pub used_at : ((b : code.Bound) (m : Binding Identifier Identifier) → IsBound work region b m → p b.variable ≡ stands_in same_ident m.variable t) →
      (bs : List code.Bound) (ms : List (Binding Identifier Identifier)) (places : BTreeSet ℕ) → IsOrdered nat_cmp places → ((q : ℕ) → contains nat_cmp places q ≡ has_at p bs q) →
      AreBound work region bs ms → AreBound work region (bounds_at bs places.keys) (used_in same_ident t ms)
  used_at same bs ms places ordered has h =
      subst (λ (ks : List ℕ). AreBound work region (bounds_at bs ks) (used_in same_ident t ms)) (sym (where_is p bs places ordered has)) (used_where same bs ms h)
