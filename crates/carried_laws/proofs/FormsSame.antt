-- Forms that are paired have the same tree.
use Rattle.std.proofs.Common.{◌≡◌, ◌⊎◌, inl, inr, ℕ, zero, suc, ◌+◌, ◌-◌, ◌≤◌, ◌<◌, List, [], ◌∷◌, ◌++◌, length, drop, Bool, true, false, cond, Option, Some, None, refl, sym, ap, subst, arith}
use Rattle.std.specs.Prelude.{reverse, ◌==◌, ◌&&◌}
use Rattle.std.specs.List.{list_any}
use Rattle.std.specs.Str.{bytes_eq}
use Rattle.std.proofs.lemmas.List.{length-reverse, length-drop}
use Rattle.carried_forms.specs.Alike.{same_list}
use Rattle.carried_forms.specs.Paired.{FormText, is_same_form, is_same_at_home, common_front, in_step, by_ends, form_pairs}
use Rattle.carried_forms.specs.Carried.{IsIn}
use Rattle.carried_laws.specs.Homes.{At}
use Rattle.carried_laws.proofs.Places.{parted, dropped_at, reversed_at}

pub record SameAt (fs gs : List FormText) (f g : ℕ) : Type 0 where
  pub one : FormText
  pub other : FormText
  pub here : At fs f one
  pub there : At gs g other
  pub same : is_same_form one other ≡ true

front_same : (fs gs : List FormText) (i : ℕ) → i < common_front fs gs → SameAt fs gs i i
front_same [] gs i l = absurd (omega (arith, l))
front_same (f ∷ fs) [] i l = absurd (omega (arith, l))
front_same (f ∷ fs) (g ∷ gs) i l = go (is_same_form f g) refl i l (λ k m. front_same fs gs k m)
  where
    go : (t : Bool) → is_same_form f g ≡ t → (i : ℕ) → i < cond t (suc (common_front fs gs)) 0 → ((k : ℕ) → k < common_front fs gs → SameAt fs gs k k) → SameAt (f ∷ fs) (g ∷ gs) i i
    go true e zero l law = record { one = f; other = g; here = refl; there = refl; same = e }
    go true e (suc k) l law = let s = law k (omega (arith, l)) in record { one = s.one; other = s.other; here = s.here; there = s.there; same = s.same }
    go false e i l law = absurd (omega (arith, l))

one_more : (x y : ℕ) (t : Bool) → x ≤ y → cond t (suc x) 0 ≤ suc y
one_more x y true l = omega (arith, l)
one_more x y false l = omega arith

pub front_left : (fs gs : List FormText) → common_front fs gs ≤ length fs
front_left [] gs = omega arith
front_left (f ∷ fs) [] = omega arith
front_left (f ∷ fs) (g ∷ gs) = one_more (common_front fs gs) (length fs) (is_same_form f g) (front_left fs gs)

pub front_right : (fs gs : List FormText) → common_front fs gs ≤ length gs
front_right [] gs = omega arith
front_right (f ∷ fs) [] = omega arith
front_right (f ∷ fs) (g ∷ gs) = one_more (common_front fs gs) (length gs) (is_same_form f g) (front_right fs gs)

pub record InStep (b a n : ℕ) (q : ℕ × ℕ) : Type 0 where
  pub index : ℕ
  pub few : index < n
  pub before : q.0 ≡ b + index
  pub after : q.1 ≡ a + index

pub step_in : (b a n : ℕ) (q : ℕ × ℕ) → IsIn q (in_step b a n) → InStep b a n q
step_in b a zero q h = absurd h
step_in b a (suc n) q (inl e) = (let x = ap (λ (z : ℕ × ℕ). z.0) e in let y = ap (λ (z : ℕ × ℕ). z.1) e in record { index = 0; few = omega arith; before = omega (arith, x); after = omega (arith, y) })
step_in b a (suc n) q (inr h) =
    let s = step_in (suc b) (suc a) n q h in let l = s.few in let x = s.before in let y = s.after in
    record { index = suc s.index; few = omega (arith, l); before = omega (arith, x); after = omega (arith, y) }

-- at other places that are the same
moved_at : (fs gs : List FormText) (f g m n : ℕ) → f ≡ m → g ≡ n → SameAt fs gs f g → SameAt fs gs m n
moved_at fs gs f g m n a b h = subst (λ (z : ℕ × ℕ). SameAt fs gs z.0 z.1) (λ j. (a j, b j)) h

module _ (fs gs : List FormText) where
  abbrev pub front : ℕ
  front = common_front fs gs

  abbrev pub left_over : List FormText
  left_over = drop front fs

  abbrev pub right_over : List FormText
  right_over = drop front gs

  abbrev pub end : ℕ
  end = common_front (reverse left_over) (reverse right_over)

  -- so many before the last
  pub from_end : (q : ℕ × ℕ) → InStep (length fs - end) (length gs - end) end q → SameAt fs gs q.0 q.1
  from_end q s =
      let i = s.index in let l = s.few in let x = s.before in let y = s.after in
      let r = front_same (reverse left_over) (reverse right_over) (end - suc i) (omega (arith, l)) in
      let fl = front_left fs gs in let fr = front_right fs gs in
      let el = front_left (reverse left_over) (reverse right_over) in let er = front_right (reverse left_over) (reverse right_over) in
      let la = length-reverse left_over in let lb = length-reverse right_over in let da = length-drop front fs in let db = length-drop front gs in
      let m = length left_over - suc (end - suc i) in let n = length right_over - suc (end - suc i) in
      moved_at fs gs (front + m) (front + n) q.0 q.1 (omega (arith, l, x, fl, el, la, da)) (omega (arith, l, y, fr, er, lb, db))
      (record {
        one = r.one;
        other = r.other;
        here = dropped_at front fs m r.one (reversed_at left_over (end - suc i) r.one r.here);
        there = dropped_at front gs n r.other (reversed_at right_over (end - suc i) r.other r.there);
        same = r.same;
      })

  ends_same : (q : ℕ × ℕ) → IsIn q (by_ends fs gs) → SameAt fs gs q.0 q.1
  ends_same q h = go (parted q (in_step 0 0 front) (in_step (length fs - end) (length gs - end) end) h)
    where
      go : IsIn q (in_step 0 0 front) ⊎ IsIn q (in_step (length fs - end) (length gs - end) end) → SameAt fs gs q.0 q.1
      go (inl k) = let s = step_in 0 0 front q k in let x = s.before in let y = s.after in moved_at fs gs s.index s.index q.0 q.1 (omega (arith, x)) (omega (arith, y)) (front_same fs gs s.index s.few)
      go (inr k) = from_end q (step_in (length fs - end) (length gs - end) end q k)

both : (a b : Bool) → (a && b) ≡ true → (a ≡ true) × (b ≡ true)
both true true h = (refl, refl)
both true false h = absurd cc
both false b h = absurd cc

list_same : (fs gs : List FormText) → same_list is_same_at_home fs gs ≡ true → (i : ℕ) → i < length fs → SameAt fs gs i i
list_same [] gs e i l = absurd (omega (arith, l))
list_same (f ∷ fs) [] e i l = absurd cc
list_same (f ∷ fs) (g ∷ gs) e zero l =
    let t = both (is_same_at_home f g) (same_list is_same_at_home fs gs) e in
    record { one = f; other = g; here = refl; there = refl; same = (both (is_same_form f g) (bytes_eq f.home.uri g.home.uri && (f.home.number == g.home.number)) t.0).0 }
list_same (f ∷ fs) (g ∷ gs) e (suc i) l =
    let t = both (is_same_at_home f g) (same_list is_same_at_home fs gs) e in
    let s = list_same fs gs t.1 i (omega (arith, l)) in record { one = s.one; other = s.other; here = s.here; there = s.there; same = s.same }

list_or : List (ℕ × ℕ) → Option (List (ℕ × ℕ)) → List (ℕ × ℕ)
list_or d None = d
list_or d (Some qs) = qs

pub forms_same : (fs gs : List FormText) (qs : List (ℕ × ℕ)) → form_pairs fs gs ≡ Some qs → (q : ℕ × ℕ) → IsIn q qs → SameAt fs gs q.0 q.1
unfolding list_or
forms_same fs gs qs e q h = go (list_any (λ f. f.included) (fs ++ gs)) (same_list is_same_at_home fs gs) refl e
  where
    go : (s t : Bool) → same_list is_same_at_home fs gs ≡ t → cond s (cond t (Some (in_step 0 0 (length fs))) None) (Some (by_ends fs gs)) ≡ Some qs → SameAt fs gs q.0 q.1
    go true true d k =
        let i : qs ≡ in_step 0 0 (length fs) = sym (ap (list_or qs) k) in
        let s = step_in 0 0 (length fs) q (subst (IsIn q) i h) in let x = s.before in let y = s.after in
        moved_at fs gs s.index s.index q.0 q.1 (omega (arith, x)) (omega (arith, y)) (list_same fs gs d s.index s.few)
    go true false d k = let z : None ≡ Some qs = k in absurd cc
    go false t d k = ends_same fs gs q (subst (IsIn q) (sym (ap (list_or qs) k)) h)
