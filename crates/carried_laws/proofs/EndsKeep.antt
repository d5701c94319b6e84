-- Where forms of a kind stand at the same places of two texts with the same trees, pairs by the ends keep the places of those that they pair.
use Rattle.std.proofs.Common.{◌≡◌, ◌⊎◌, inl, inr, ℕ, zero, suc, ◌+◌, ◌-◌, ◌≤◌, ◌<◌, List, length, Bool, true, false, refl, sym, ap, ◌∙◌, subst, arith}
use Rattle.std.specs.Prelude.{reverse, nat_lt}
use Rattle.std.proofs.lemmas.Bool.Decides.{nat_tests}
use Rattle.std.proofs.lemmas.List.{length-reverse, length-drop}
use Rattle.carried_forms.specs.Paired.{FormText, is_same_form, in_step, by_ends}
use Rattle.carried_forms.specs.Carried.{IsIn}
use Rattle.carried_laws.specs.Homes.{At}
use Rattle.carried_laws.specs.HomeUris.{StandAlike, TellsByTrees}
use Rattle.carried_laws.proofs.Places.{parted, below, same_at}
use Rattle.carried_laws.proofs.FormsSame.{SameAt, front_left, front_right, InStep, step_in, front, left_over, right_over, end, from_end}

module _ (kind : FormText → Bool) (told : TellsByTrees kind) (fs gs : List FormText) (alike : StandAlike kind fs gs) where
  abbrev e : ℕ
  e = end fs gs

  in_left : e ≤ length fs
  in_left =
      let a = front_left (reverse (left_over fs gs)) (reverse (right_over fs gs)) in let b = length-reverse (left_over fs gs) in let c = length-drop (front fs gs) fs in let d = front_left fs gs in
      omega (arith, a, b, c, d)

  in_right : e ≤ length gs
  in_right =
      let a = front_right (reverse (left_over fs gs)) (reverse (right_over fs gs)) in let b = length-reverse (right_over fs gs) in let c = length-drop (front fs gs) gs in let d = front_right fs gs in
      omega (arith, a, b, c, d)

  pair_here : (i m n : ℕ) → i < e → m ≡ length fs - e + i → n ≡ length gs - e + i → SameAt fs gs m n
  pair_here i m n l a b = from_end fs gs (m, n) (record { index = i; few = l; before = a; after = b })

  abbrev OfKind : List FormText → ℕ → Type 0
  OfKind xs k = (f : FormText) × At xs k f × (kind f ≡ true)

  -- what stands in pairs is of one kind
  kind_there : (m n : ℕ) → SameAt fs gs m n → OfKind fs m → OfKind gs n
  kind_there m n s k = (s.other, s.there, sym (told s.one s.other s.same) ∙ (ap kind (same_at fs m s.one k.0 s.here k.1) ∙ k.2))

  kind_here : (m n : ℕ) → SameAt fs gs m n → OfKind gs n → OfKind fs m
  kind_here m n s k = (s.one, s.here, told s.one s.other s.same ∙ (ap kind (same_at gs n s.other k.0 s.there k.1) ∙ k.2))

  there_too : (k : ℕ) → OfKind fs k → OfKind gs k
  there_too k h = let z = alike.0 k h.0 h.1 h.2 in (z.0, z.1, sym (told h.0 z.0 z.2) ∙ h.2)

  here_too : (k : ℕ) → OfKind gs k → OfKind fs k
  here_too k h = let z = alike.1 k h.0 h.1 h.2 in (z.0, z.1, told z.0 h.0 z.2 ∙ h.2)

  -- there would be more and more of them
  longer_after : (fuel k : ℕ) → length fs - e ≤ k → length fs ≤ k + fuel → length fs < length gs → OfKind fs k → ⊥
  longer_after zero k from few more h = let l = below fs k h.0 h.1 in absurd (omega (arith, l, few))
  longer_after (suc fuel) k from few more h =
      let l = below fs k h.0 h.1 in let a = in_left in let b = in_right in
      let i = k - (length fs - e) in
      let n = length gs - e + i in
      let s = pair_here i k n (omega (arith, l, from, a)) (omega (arith, l, from, a)) refl in
      longer_after fuel n (omega (arith, l, from, a, b, more)) (omega (arith, l, from, a, b, more, few)) more (here_too n (kind_there k n s h))

  longer_before : (fuel k : ℕ) → length fs - e ≤ k → length fs ≤ k + fuel → length gs < length fs → OfKind fs k → ⊥
  longer_before zero k from few more h = let l = below fs k h.0 h.1 in absurd (omega (arith, l, few))
  longer_before (suc fuel) k from few more h =
      let there = there_too k h in
      let l = below gs k there.0 there.1 in let a = in_left in let b = in_right in
      let i = k - (length gs - e) in
      let m = length fs - e + i in
      let s = pair_here i m k (omega (arith, l, from, a, b, more)) refl (omega (arith, l, from, a, b, more)) in
      longer_before fuel m (omega (arith, l, from, a, b, more)) (omega (arith, l, from, a, b, more, few)) more (kind_here m k s there)

  pub ends_keep : (q : ℕ × ℕ) (f : FormText) → IsIn q (by_ends fs gs) → At fs q.0 f → kind f ≡ true → q.1 ≡ q.0
  ends_keep q f h at is = go (parted q (in_step 0 0 (front fs gs)) (in_step (length fs - e) (length gs - e) e) h)
    where
      by_length : (i : ℕ) → q.0 ≡ length fs - e + i → q.1 ≡ length gs - e + i → (b : Bool) → nat_lt (length fs) (length gs) ≡ b → (c : Bool) → nat_lt (length gs) (length fs) ≡ c → q.1 ≡ q.0
      by_length i x y true m c n = absurd (longer_after (length fs) q.0 (omega (arith, x)) (omega arith) (grind (arith, nat_tests, m)) (f, at, is))
      by_length i x y false m true n = absurd (longer_before (length fs) q.0 (omega (arith, x)) (omega arith) (grind (arith, nat_tests, n)) (f, at, is))
      by_length i x y false m false n = let same : length fs ≡ length gs = grind (arith, nat_tests, m, n) in y ∙ (ap (λ t. t - e + i) (sym same) ∙ sym x)

      go : IsIn q (in_step 0 0 (front fs gs)) ⊎ IsIn q (in_step (length fs - e) (length gs - e) e) → q.1 ≡ q.0
      go (inl k) = let s = step_in 0 0 (front fs gs) q k in let x = s.before in let y = s.after in omega (arith, x, y)
      go (inr k) = let s = step_in (length fs - e) (length gs - e) e q k in by_length s.index s.before s.after (nat_lt (length fs) (length gs)) refl (nat_lt (length gs) (length fs)) refl
