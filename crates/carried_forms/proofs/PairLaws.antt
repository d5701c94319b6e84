-- The forms of a unit are paired in order, so no two of them get one number.
use Rattle.std.proofs.Common.{◌≡◌, ℕ, zero, suc, ◌+◌, ◌-◌, ◌≤◌, ◌<◌, List, [], ◌∷◌, ◌++◌, length, drop, Bool, true, false, cond, Some, None, refl, sym, ◌∙◌, arith}
use Rattle.std.specs.Prelude.{reverse, ◌==◌, ◌&&◌}
use Rattle.std.specs.List.{list_any}
use Rattle.std.proofs.lemmas.List.{length-reverse, length-drop}
use Rattle.std.proofs.lemmas.Bool.{eqb-true}
use Rattle.carried_forms.specs.Alike.{same_list}
use Rattle.carried_forms.specs.Paired.{FormText, is_same_form, is_same_at_home, common_front, in_step, by_ends, Rise, form_pairs, UnitText, is_same_unit, UnitPair, with_forms, pair_of, pairs_from, unit_pairs, prelude_pair, number_after, form_after, renumbering}

-- ---- numbers in step

weaken : (b a c d m n : ℕ) → c ≤ b → d ≤ a → (qs : List (ℕ × ℕ)) → Rise b a m n qs → Rise c d m n qs
weaken b a c d m n l k [] r = tt
weaken b a c d m n l k (q ∷ qs) r = (omega (arith, l, r.0), r.1, omega (arith, k, r.2), r.3, r.4)

steps_then : (b a k m n : ℕ) → b + k ≤ m → a + k ≤ n → (qs : List (ℕ × ℕ)) → Rise (b + k) (a + k) m n qs → Rise b a m n (in_step b a k ++ qs)
steps_then b a zero m n l j qs r = weaken (b + zero) (a + zero) b a m n (omega arith) (omega arith) qs r
steps_then b a (suc k) m n l j qs r =
    let rest = steps_then (suc b) (suc a) k m n (omega (arith, l)) (omega (arith, j)) qs (weaken (b + suc k) (a + suc k) (suc b + k) (suc a + k) m n (omega arith) (omega arith) qs r) in
    (omega arith, omega (arith, l), omega arith, omega (arith, j), rest)

steps : (b a k m n : ℕ) → b + k ≤ m → a + k ≤ n → Rise b a m n (in_step b a k)
steps b a zero m n l j = tt
steps b a (suc k) m n l j = (omega arith, omega (arith, l), omega arith, omega (arith, j), steps (suc b) (suc a) k m n (omega (arith, l)) (omega (arith, j)))

-- ---- ends

one_more : (x y : ℕ) (t : Bool) → x ≤ y → cond t (suc x) 0 ≤ suc y
one_more x y true l = omega (arith, l)
one_more x y false l = omega arith

front_left : (fs gs : List FormText) → common_front fs gs ≤ length fs
front_left [] gs = omega arith
front_left (f ∷ fs) [] = omega arith
front_left (f ∷ fs) (g ∷ gs) = one_more (common_front fs gs) (length fs) (is_same_form f g) (front_left fs gs)

front_right : (fs gs : List FormText) → common_front fs gs ≤ length gs
front_right [] gs = omega arith
front_right (f ∷ fs) [] = omega arith
front_right (f ∷ fs) (g ∷ gs) = one_more (common_front fs gs) (length gs) (is_same_form f g) (front_right fs gs)

left_over : (k : ℕ) (fs : List FormText) → length (reverse (drop k fs)) ≡ length fs - k
left_over k fs = length-reverse (drop k fs) ∙ length-drop k fs

pub ends_rise : (fs gs : List FormText) → Rise 0 0 (length fs) (length gs) (by_ends fs gs)
ends_rise fs gs =
    let front = common_front fs gs in
    let end = common_front (reverse (drop front fs)) (reverse (drop front gs)) in
    let l = front_left fs gs in
    let r = front_right fs gs in
    let el = front_left (reverse (drop front fs)) (reverse (drop front gs)) in
    let er = front_right (reverse (drop front fs)) (reverse (drop front gs)) in
    let ol = left_over front fs in
    let or = left_over front gs in
    let back = steps (length fs - end) (length gs - end) end (length fs) (length gs) (omega (arith, el, ol)) (omega (arith, er, or)) in
    steps_then 0 0 front (length fs) (length gs) (omega (arith, l)) (omega (arith, r)) (in_step (length fs - end) (length gs - end) end)
    (weaken (length fs - end) (length gs - end) (0 + front) (0 + front) (length fs) (length gs) (omega (arith, el, ol, l)) (omega (arith, er, or, r)) (in_step (length fs - end) (length gs - end) end) back)

-- ---- no two forms get one number

least : (b a m n : ℕ) (qs : List (ℕ × ℕ)) → Rise b a m n qs → a ≤ n → (f : ℕ) → a ≤ number_after (n + f) qs f
least b a m n [] r l f = omega (arith, l)
least b a m n (q ∷ qs) r l f = go (q.0 == f) (least (suc q.0) (suc q.1) m n qs r.4 (omega (arith, r.3)) f)
  where
    go : {x : ℕ} (t : Bool) → suc q.1 ≤ x → a ≤ cond t q.1 x
    go true k = r.2
    go false k = let h = r.2 in omega (arith, h, k)

apart : (b a m n : ℕ) (qs : List (ℕ × ℕ)) → Rise b a m n qs → (f g : ℕ) → f < g → number_after (n + f) qs f ≡ number_after (n + g) qs g → ⊥
apart b a m n [] r f g l e = omega (arith, l, e)
apart b a m n (q ∷ qs) r f g l e = go (q.0 == f) (q.0 == g) refl refl (least (suc q.0) (suc q.1) m n qs r.4 (omega (arith, r.3)) f) (least (suc q.0) (suc q.1) m n qs r.4 (omega (arith, r.3)) g) (apart (suc q.0) (suc q.1) m n qs r.4 f g l) e
  where
    go : {x y : ℕ} (s t : Bool) → (q.0 == f) ≡ s → (q.0 == g) ≡ t → suc q.1 ≤ x → suc q.1 ≤ y → (x ≡ y → ⊥) → cond s q.1 x ≡ cond t q.1 y → ⊥
    go true true es et lx ly rest e = let i = eqb-true q.0 f es in let j = eqb-true q.0 g et in omega (arith, i, j, l)
    go true false es et lx ly rest e = omega (arith, ly, e)
    go false true es et lx ly rest e = omega (arith, lx, e)
    go false false es et lx ly rest e = rest e

numbers_differ : (m n : ℕ) (qs : List (ℕ × ℕ)) → Rise 0 0 m n qs → (f g : ℕ) → number_after (n + f) qs f ≡ number_after (n + g) qs g → f ≡ g
numbers_differ m n qs r f g e =
    let below = apart 0 0 m n qs r f g in
    let above = apart 0 0 m n qs r g f in
    omega (arith, (λ (l : f < g). below l e), (λ (l : g < f). above l (sym e)))

-- ---- units

abbrev Rises : UnitPair → Type 0
Rises p = (m : ℕ) × Rise 0 0 m p.size p.forms

abbrev AllRise : List UnitPair → Type 0
AllRise [] = Unit {0}
AllRise (p ∷ ps) = Rises p × AllRise ps

all_joined : (ps qs : List UnitPair) → AllRise ps → AllRise qs → AllRise (ps ++ qs)
all_joined [] qs h k = k
all_joined (p ∷ ps) qs h k = (h.0, all_joined ps qs h.1 k)

both_true : (s t : Bool) → (s && t) ≡ true → t ≡ true
both_true true t e = e
both_true false t e = absurd cc

same_length : (fs gs : List FormText) → same_list is_same_at_home fs gs ≡ true → length fs ≤ length gs
same_length [] gs e = omega arith
same_length (f ∷ fs) [] e = absurd cc
same_length (f ∷ fs) (g ∷ gs) e = let l = same_length fs gs (both_true (is_same_at_home f g) (same_list is_same_at_home fs gs) e) in omega (arith, l)

paired_rise : (b a : ℕ) (fs gs : List FormText) → AllRise (with_forms b a (length gs) (form_pairs fs gs))
paired_rise b a fs gs = go (list_any (λ f. f.included) (fs ++ gs)) (same_list is_same_at_home fs gs) refl
  where
    go : (s t : Bool) → same_list is_same_at_home fs gs ≡ t → AllRise (with_forms b a (length gs) (cond s (cond t (Some (in_step 0 0 (length fs))) None) (Some (by_ends fs gs))))
    go true true e = ((length fs, steps 0 0 (length fs) (length fs) (length gs) (omega arith) (let l = same_length fs gs e in omega (arith, l))), tt)
    go true false e = tt
    go false t e = ((length fs, ends_rise fs gs), tt)

pair_rises : (b : ℕ) (u : UnitText) (a : ℕ) (vs : List UnitText) → AllRise (pair_of b u a vs)
pair_rises b u a [] = tt
pair_rises b u a (v ∷ vs) = go (is_same_unit u v) (pair_of b u (suc a) vs) (pair_rises b u (suc a) vs)
  where
    go : (t : Bool) (ps : List UnitPair) → AllRise ps → AllRise (cond t (with_forms b a (length v.forms) (form_pairs u.forms v.forms)) ps)
    go true ps h = paired_rise b a u.forms v.forms
    go false ps h = h

pairs_rise : (b : ℕ) (us vs : List UnitText) → AllRise (pairs_from b us vs)
pairs_rise b [] vs = tt
pairs_rise b (u ∷ us) vs = all_joined (pair_of b u 0 vs) (pairs_from (suc b) us vs) (pair_rises b u 0 vs) (pairs_rise (suc b) us vs)

forms_differ : (ps : List UnitPair) → AllRise ps → (u f g : ℕ) → form_after ps u f ≡ form_after ps u g → f ≡ g
forms_differ [] h u f g e = e
forms_differ (p ∷ ps) h u f g e = go (p.before == u) (forms_differ ps h.1 u f g) e
  where
    go : (t : Bool) → (form_after ps u f ≡ form_after ps u g → f ≡ g) → cond t (number_after (p.size + f) p.forms f) (form_after ps u f) ≡ cond t (number_after (p.size + g) p.forms g) (form_after ps u g) → f ≡ g
    go true rest k = numbers_differ h.0.0 p.size p.forms h.0.1 f g k
    go false rest k = rest k

prelude_rises : Rises prelude_pair
prelude_rises = (1, (omega arith, omega arith, omega arith, omega arith, tt))

pub one_number : (us vs : List UnitText) (u f g : ℕ) → (renumbering (unit_pairs us vs)).form u f ≡ (renumbering (unit_pairs us vs)).form u g → f ≡ g
one_number us vs u f g e = forms_differ (prelude_pair ∷ unit_pairs us vs) (prelude_rises, pairs_rise 0 us vs) u f g e
