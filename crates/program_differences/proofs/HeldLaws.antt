-- Which of some occurrences in order are those of tokens in a range: the first that isn't before the least, if any is.
use Rattle.std.proofs.Common.{◌≡◌, ℕ, ◌+◌, ◌-◌, ◌<◌, ◌≤◌, cond, Bool, true, false, List, length, get_or, refl, sym, ap, ◌∙◌, ◌⊎◌, inl, inr, arith}
use Rattle.std.specs.Prelude.{◌==◌, nat_lt, nat_le, ◌&&◌, slice_get, Option, Some, None}
use Rattle.std.specs.List.{list_any}
use Rattle.std.specs.List.Sorted.{IsSorted, IsPartitionedBy, IsPartitionPoint}
use Rattle.std.specs.Ordering.{nat_cmp, ordering_then, is_lt}
use Rattle.std.specs.declared.cmp.Ordering.{Ordering}
use Rattle.std.specs.declared.cmp.Ordering.TheVariants.{Less, Equal, Greater}
use Rattle.std.specs.Cmp.{IsStrictWeakOrder}
use Rattle.std.proofs.lemmas.Bool.{cases_lt}
use Rattle.std.proofs.lemmas.Bool.Decides.{nat_tests}
use Rattle.std.proofs.lemmas.List.{get_or_default}
use Rattle.std.proofs.lemmas.List.Folds.{list_any_none, list_any_at}
use Rattle.std.proofs.lemmas.List.Sorted.{ranks_by, sorted_far}
use Rattle.scheme_model.specs.declared.Occ.{Occ}
use Rattle.core_tree.specs.declared.units.TokenRange.{TokenRange}
use Rattle.program_leaves.specs.Placed.{occ_cmp}
use Rattle.program_leaves.proofs.KeyLaws.{left, right}
use Rattle.program_leaves.proofs.Orders.{occ_total}
use Rattle.program_differences.specs.Reached.{range_holds, least_held}

-- ---- orders

abbrev pub before : Occ → Occ → Bool
before o p = is_lt (occ_cmp o p)

-- one number is below another, or the rest decides where they are the same
not_below : (x y : ℕ) (r : Ordering) → is_lt (ordering_then (nat_cmp x y) r) ≡ false → (y ≤ x) × (x ≡ y → is_lt r ≡ false)
not_below x y r h = go (nat_lt x y) (x == y) refl refl h
  where
    go : (a b : Bool) → nat_lt x y ≡ a → (x == y) ≡ b → is_lt (ordering_then (cond a Less (cond b Equal Greater)) r) ≡ false → (y ≤ x) × (x ≡ y → is_lt r ≡ false)
    go true b e f k = absurd cc
    go false true e f k = (grind (arith, nat_tests), λ s. k)
    go false false e f k = (grind (arith, nat_tests), λ s. absurd (grind (arith, nat_tests)))

below : (x y : ℕ) (r : Ordering) → is_lt (ordering_then (nat_cmp x y) r) ≡ true → (x ≤ y) × (x ≡ y → is_lt r ≡ true)
below x y r h = go (nat_lt x y) (x == y) refl refl h
  where
    go : (a b : Bool) → nat_lt x y ≡ a → (x == y) ≡ b → is_lt (ordering_then (cond a Less (cond b Equal Greater)) r) ≡ true → (x ≤ y) × (x ≡ y → is_lt r ≡ true)
    go true b e f k = (grind (arith, nat_tests), λ s. absurd (grind (arith, nat_tests)))
    go false true e f k = (grind (arith, nat_tests), λ s. k)
    go false false e f k = absurd cc

number_below : (x y : ℕ) → is_lt (nat_cmp x y) ≡ true → x < y
number_below x y h = grind (arith, nat_tests)

number_not_below : (x y : ℕ) → is_lt (nat_cmp x y) ≡ false → y ≤ x
number_not_below x y h = grind (arith, nat_tests)

record IsBelow (o p : Occ) : Type 0 where
  unit : o.unit ≤ p.unit
  form : o.unit ≡ p.unit → o.form ≤ p.form
  token : o.unit ≡ p.unit → o.form ≡ p.form → o.token < p.token

record IsFrom (o p : Occ) : Type 0 where
  unit : p.unit ≤ o.unit
  form : o.unit ≡ p.unit → p.form ≤ o.form
  token : o.unit ≡ p.unit → o.form ≡ p.form → p.token ≤ o.token

is_below : (o p : Occ) → before o p ≡ true → IsBelow o p
is_below o p h =
    let rest : Ordering = ordering_then (nat_cmp o.form p.form) (nat_cmp o.token p.token) in
    let a = below o.unit p.unit rest h in record {
      unit = a.0;
      form = λ u. (below o.form p.form (nat_cmp o.token p.token) (a.1 u)).0;
      token = λ u f. number_below o.token p.token ((below o.form p.form (nat_cmp o.token p.token) (a.1 u)).1 f);
    }

is_from : (o p : Occ) → before o p ≡ false → IsFrom o p
is_from o p h =
    let rest : Ordering = ordering_then (nat_cmp o.form p.form) (nat_cmp o.token p.token) in
    let a = not_below o.unit p.unit rest h in record {
      unit = a.0;
      form = λ u. (not_below o.form p.form (nat_cmp o.token p.token) (a.1 u)).0;
      token = λ u f. number_not_below o.token p.token ((not_below o.form p.form (nat_cmp o.token p.token) (a.1 u)).1 f);
    }

pub past : (a n : ℕ) → false ≡ nat_lt a n → n ≤ a
past a n e = grind (arith, nat_tests)

pub within : (a n : ℕ) → true ≡ nat_lt a n → a < n
within a n e = grind (arith, nat_tests)

-- ---- ranges

record IsHeld (t : TokenRange) (o : Occ) : Type 0 where
  unit : t.home.unit ≡ o.unit
  form : t.home.form ≡ o.form
  first : t.first ≤ t.home.first + o.token
  last : t.home.first + o.token ≤ t.last

is_held : (t : TokenRange) (o : Occ) → range_holds t o ≡ true → IsHeld t o
is_held t o h =
    let u = t.home.unit == o.unit in
    let f = t.home.form == o.form in
    let a = nat_le t.first (t.home.first + o.token) in
    let b = nat_le (t.home.first + o.token) t.last in
    let hu = left u (f && (a && b)) h in
    let rest = right u (f && (a && b)) h in
    let hf = left f (a && b) rest in
    let ends = right f (a && b) rest in
    let ha = left a b ends in
    let hb = right a b ends in record {
      unit = grind (arith, nat_tests);
      form = grind (arith, nat_tests);
      first = grind (arith, nat_tests);
      last = grind (arith, nat_tests);
    }

holds_it : (t : TokenRange) (o : Occ) → IsHeld t o → range_holds t o ≡ true
holds_it t o h =
    let hu = h.unit in let hf = h.form in let ha = h.first in let hb = h.last in
    let u : (t.home.unit == o.unit) ≡ true = grind (arith, nat_tests) in
    let f : (t.home.form == o.form) ≡ true = grind (arith, nat_tests) in
    let a : nat_le t.first (t.home.first + o.token) ≡ true = grind (arith, nat_tests) in
    let b : nat_le (t.home.first + o.token) t.last ≡ true = grind (arith, nat_tests) in
    (λ i. u i && (f i && (a i && b i)))

-- what isn't held
not_held : (t : TokenRange) (o : Occ) → (IsHeld t o → ⊥) → range_holds t o ≡ false
not_held t o h = go (range_holds t o) refl
  where
    go : (b : Bool) → range_holds t o ≡ b → b ≡ false
    go true e = absurd (h (is_held t o e))
    go false e = refl

-- none before the least is held
before_least : (t : TokenRange) (o : Occ) → before o (least_held t) ≡ true → range_holds t o ≡ false
before_least t o b =
    not_held t o (
    λ h.
    let low = is_below o (least_held t) b in
    let less = low.token (sym h.unit) (sym h.form) in
    let from = h.first in
    omega (arith, less, from)
    )

-- of those from the least on, the first is held where a later one is
between : (t : TokenRange) (o p : Occ) → before o (least_held t) ≡ false → before p o ≡ false → IsHeld t p → IsHeld t o
between t o p a b h =
    let low = is_from o (least_held t) a in
    let high = is_from p o b in
    let u0 = low.unit in let u1 = high.unit in let hu = h.unit in
    let unit : t.home.unit ≡ o.unit = omega (arith, u0, u1, hu) in
    let f0 = low.form (sym unit) in
    let f1 = high.form (sym hu ∙ unit) in
    let hf = h.form in
    let form : t.home.form ≡ o.form = omega (arith, f0, f1, hf) in
    let t0 = low.token (sym unit) (sym form) in
    let t1 = high.token (sym hu ∙ unit) (sym hf ∙ form) in
    let hl = h.last in
    record { unit = unit; form = form; first = omega (arith, t0); last = omega (arith, t1, hl) }

-- ---- in order

never : false ≡ true → ⊥
never e = absurd cc

weak : IsStrictWeakOrder before
weak = ranks_by occ_total (λ (o : Occ). o)

module _ (t : TokenRange) (xs : List Occ) (sorted : IsSorted occ_cmp xs) where
  abbrev pub is_early : Occ → Bool
  is_early o = before o (least_held t)

  pub early_first : IsPartitionedBy is_early xs
  early_first i j d le lt e = go (is_early (get_or xs i d)) refl
    where
      far : before (get_or xs j d) (get_or xs i d) ≡ false
      far = sorted_far before weak xs sorted i j d le lt

      go : (b : Bool) → is_early (get_or xs i d) ≡ b → b ≡ true
      go true k = refl
      go false k = absurd (not_early (is_below (get_or xs j d) (least_held t) e) (is_from (get_or xs j d) (get_or xs i d) far) (is_from (get_or xs i d) (least_held t) k))
        where
          not_early : IsBelow (get_or xs j d) (least_held t) → IsFrom (get_or xs j d) (get_or xs i d) → IsFrom (get_or xs i d) (least_held t) → ⊥
          not_early l m n =
              let a = l.unit in let b = m.unit in let c = n.unit in
              let x : (get_or xs i d).unit ≡ t.home.unit = omega (arith, a, b, c) in
              let y : (get_or xs j d).unit ≡ t.home.unit = omega (arith, a, b, c) in
              let f = l.form y in let g = m.form (y ∙ sym x) in let h = n.form x in
              let v : (get_or xs i d).form ≡ t.home.form = omega (arith, f, g, h) in
              let w : (get_or xs j d).form ≡ t.home.form = omega (arith, f, g, h) in
              let p = l.token y w in let q = m.token (y ∙ sym x) (w ∙ sym v) in let r = n.token x v in
              omega (arith, p, q, r)

  module _ (at : ℕ) (point : IsPartitionPoint (λ o. is_early o ≡ true) (λ o. is_early o ≡ false) xs at) where
    pub none_held : length xs ≤ at → list_any (range_holds t) xs ≡ false
    none_held le = list_any_none (range_holds t) xs (λ k d lt. before_least t (get_or xs k d) (point.0 k d (omega arith) (omega (arith, le, lt))))

    pub first_held : (o : Occ) → at < length xs → o ≡ get_or xs at o → range_holds t o ≡ list_any (range_holds t) xs
    first_held o lt is = go (range_holds t o) refl
      where
        late : is_early o ≡ false
        late = ap is_early is ∙ point.1 at o (omega arith) lt

        no_later : range_holds t o ≡ false → (k : ℕ) (d : Occ) → k < length xs → range_holds t (get_or xs k d) ≡ false
        no_later e k d less = by (cases_lt k at)
          where
            by : (k < at) ⊎ (at ≤ k) → range_holds t (get_or xs k d) ≡ false
            by (inl low) = before_least t (get_or xs k d) (point.0 k d (omega arith) low)
            by (inr high) =
                let far = sorted_far before weak xs sorted at k d high less in
                let same : get_or xs at d ≡ o = get_or_default xs at d o lt ∙ sym is in
                not_held t (get_or xs k d) (λ h. never (sym e ∙ holds_it t o (between t o (get_or xs k d) late (ap (λ p. before (get_or xs k d) p) (sym same) ∙ far) h)))

        go : (b : Bool) → range_holds t o ≡ b → b ≡ list_any (range_holds t) xs
        go true e = sym (list_any_at (range_holds t) xs at o lt (ap (range_holds t) (sym is) ∙ e))
        go false e = sym (list_any_none (range_holds t) xs (no_later e))
