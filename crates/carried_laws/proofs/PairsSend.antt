-- Pairs send what goes on to what it goes on as: a unit to its number after, and each of its forms that goes on to the number that it has then.
use Rattle.std.proofs.Common.{◌≡◌, ◌⊎◌, inl, inr, ℕ, zero, suc, ◌+◌, ◌≤◌, List, [], ◌∷◌, ◌++◌, length, Bool, true, false, cond, Option, Some, None, refl, sym, ap, ◌∙◌, subst, arith, eq-eqb}
use Rattle.std.specs.Prelude.{◌==◌}
use Rattle.std.specs.List.{list_any}
use Rattle.std.proofs.lemmas.Bool.{eqb-true, false_from_ne_true}
use Rattle.scheme_model.specs.Program.{prelude_unit}
use Rattle.carried_forms.specs.Alike.{same_list}
use Rattle.carried_forms.specs.Paired.{FormText, is_same_at_home, in_step, by_ends, Rise, form_pairs, UnitText, is_same_unit, AreWithin, UnitPair, with_forms, pair_of, pairs_from, unit_pairs, unit_after, number_after, form_after, renumbering}
use Rattle.carried_forms.specs.Carried.{IsIn}
use Rattle.carried_forms.proofs.UnitLaws.{key_told}
use Rattle.carried_forms.proofs.PairLaws.{ends_rise}
use Rattle.carried_laws.specs.Homes.{At}
use Rattle.carried_laws.proofs.Places.{parted}

-- ---- the first pair of a unit

abbrev Leads : UnitPair → List UnitPair → Type 0
Leads p [] = ⊥
Leads p (q ∷ qs) = (q ≡ p) ⊎ (((q.before == p.before) ≡ false) × Leads p qs)

leads_unit : (p : UnitPair) (ps : List UnitPair) → Leads p ps → unit_after ps p.before ≡ p.after
leads_unit p [] h = absurd h
leads_unit p (q ∷ qs) (inl e) =
    let t = eq-eqb q.before p.before (ap (λ (z : UnitPair). z.before) e) in
    ap (λ b. cond b q.after (unit_after qs p.before)) t ∙ ap (λ (z : UnitPair). z.after) e
leads_unit p (q ∷ qs) (inr h) = ap (λ b. cond b q.after (unit_after qs p.before)) h.0 ∙ leads_unit p qs h.1

leads_form : (p : UnitPair) (ps : List UnitPair) (f : ℕ) → Leads p ps → form_after ps p.before f ≡ number_after (p.size + f) p.forms f
leads_form p [] f h = absurd h
leads_form p (q ∷ qs) f (inl e) =
    let t = eq-eqb q.before p.before (ap (λ (z : UnitPair). z.before) e) in
    ap (λ b. cond b (number_after (q.size + f) q.forms f) (form_after qs p.before f)) t ∙ ap (λ (z : UnitPair). number_after (z.size + f) z.forms f) e
leads_form p (q ∷ qs) f (inr h) = ap (λ b. cond b (number_after (q.size + f) q.forms f) (form_after qs p.before f)) h.0 ∙ leads_form p qs f h.1

-- ---- where a pair is from

-- of a unit, among units from a number on
pub record PairFrom (u : UnitText) (b a : ℕ) (vs : List UnitText) (p : UnitPair) : Type 0 where
  pub before : p.before ≡ b
  pub place : ℕ
  pub after : p.after ≡ a + place
  pub unit : UnitText
  pub there : At vs place unit
  pub same : is_same_unit u unit ≡ true
  pub forms : form_pairs u.forms unit.forms ≡ Some p.forms
  pub alone : pair_of b u a vs ≡ p ∷ []

pair_found : (b : ℕ) (u : UnitText) (a : ℕ) (vs : List UnitText) (p : UnitPair) → IsIn p (pair_of b u a vs) → PairFrom u b a vs p
pair_found b u a [] p h = absurd h
pair_found b u a (v ∷ vs) p h = go (is_same_unit u v) refl h (λ k. pair_found b u (suc a) vs p k)
  where
    this : is_same_unit u v ≡ true → (o : Option (List (ℕ × ℕ))) → form_pairs u.forms v.forms ≡ o → IsIn p (with_forms b a (length v.forms) o) → PairFrom u b a (v ∷ vs) p
    this e None q k = absurd k
    this e (Some fs) q (inl i) = record {
      before = ap (λ (z : UnitPair). z.before) i;
      place = 0;
      after = ap (λ (z : UnitPair). z.after) i ∙ (let d : a ≡ a + 0 = omega arith in d);
      unit = v;
      there = refl;
      same = e;
      forms = q ∙ ap (λ (z : UnitPair). Some z.forms) (sym i);
      alone = (λ j. cond (e j) (with_forms b a (length v.forms) (q j)) (pair_of b u (suc a) vs)) ∙ ap (λ z. z ∷ []) (sym i);
    }
    this e (Some fs) q (inr k) = absurd k

    go : (t : Bool) → is_same_unit u v ≡ t → IsIn p (cond t (with_forms b a (length v.forms) (form_pairs u.forms v.forms)) (pair_of b u (suc a) vs)) → (IsIn p (pair_of b u (suc a) vs) → PairFrom u b (suc a) vs p) → PairFrom u b a (v ∷ vs) p
    go true e k rest = this e (form_pairs u.forms v.forms) refl k
    go false e k rest =
        let f = rest k in let c = f.after in
        record { before = f.before; place = suc f.place; after = omega (arith, c); unit = f.unit; there = f.there; same = f.same; forms = f.forms; alone = ap (λ t. cond t (with_forms b a (length v.forms) (form_pairs u.forms v.forms)) (pair_of b u (suc a) vs)) e ∙ f.alone }

-- a unit before and after, with the forms of both
pub record PairOf (b : ℕ) (us vs : List UnitText) (p : UnitPair) : Type 0 where
  pub place : ℕ
  pub before : p.before ≡ b + place
  pub unit : UnitText
  pub here : At us place unit
  pub from : PairFrom unit p.before 0 vs p
  pub leads : Leads p (pairs_from b us vs)

abbrev Befores : ℕ → List UnitPair → Type 0
Befores b [] = Unit {0}
Befores b (p ∷ ps) = (p.before ≡ b) × Befores b ps

one_before : (b a size : ℕ) (o : Option (List (ℕ × ℕ))) → Befores b (with_forms b a size o)
one_before b a size None = tt
one_before b a size (Some fs) = (refl, tt)

befores_of : (b : ℕ) (u : UnitText) (a : ℕ) (vs : List UnitText) → Befores b (pair_of b u a vs)
befores_of b u a [] = tt
befores_of b u a (v ∷ vs) = go (is_same_unit u v) (befores_of b u (suc a) vs)
  where
    go : (t : Bool) → Befores b (pair_of b u (suc a) vs) → Befores b (cond t (with_forms b a (length v.forms) (form_pairs u.forms v.forms)) (pair_of b u (suc a) vs))
    go true h = one_before b a (length v.forms) (form_pairs u.forms v.forms)
    go false h = h

apart : (m n : ℕ) → (m ≡ n → ⊥) → (m == n) ≡ false
apart m n h = false_from_ne_true (m == n) (λ e. h (eqb-true m n e))

leads_behind : (b : ℕ) (p : UnitPair) (qs ps : List UnitPair) → (b ≡ p.before → ⊥) → Befores b qs → Leads p ps → Leads p (qs ++ ps)
leads_behind b p [] ps ne h k = k
leads_behind b p (q ∷ qs) ps ne h k = inr (apart q.before p.before (λ e. ne (sym h.0 ∙ e)), leads_behind b p qs ps ne h.1 k)

pub pairs_found : (b : ℕ) (us vs : List UnitText) (p : UnitPair) → IsIn p (pairs_from b us vs) → PairOf b us vs p
pairs_found b [] vs p h = absurd h
pairs_found b (u ∷ us) vs p h = go (parted p (pair_of b u 0 vs) (pairs_from (suc b) us vs) h) (λ k. pairs_found (suc b) us vs p k)
  where
    go : IsIn p (pair_of b u 0 vs) ⊎ IsIn p (pairs_from (suc b) us vs) → (IsIn p (pairs_from (suc b) us vs) → PairOf (suc b) us vs p) → PairOf b (u ∷ us) vs p
    go (inl k) rest =
        let f = pair_found b u 0 vs p k in
        let e = f.before in
        record {
          place = 0;
          before = omega (arith, e);
          unit = u;
          here = refl;
          from = subst (λ m. PairFrom u m 0 vs p) (sym f.before) f;
          leads = subst (λ (qs : List UnitPair). Leads p (qs ++ pairs_from (suc b) us vs)) (sym f.alone) (inl refl);
        }
    go (inr k) rest =
        let f = rest k in
        let e = f.before in
        record {
          place = suc f.place;
          before = omega (arith, e);
          unit = f.unit;
          here = f.here;
          from = f.from;
          leads = leads_behind b p (pair_of b u 0 vs) (pairs_from (suc b) us vs) (λ d. omega (arith, d, e)) (befores_of b u 0 vs) f.leads;
        }

-- ---- numbers

within_at : (n : ℕ) (us : List UnitText) → AreWithin n us → (k : ℕ) (u : UnitText) → At us k u → prelude_unit ≤ n + k → u.broken ≡ true
within_at n [] w k u h l = absurd h
within_at n (x ∷ us) w zero u h l = ap (λ (z : UnitText). z.broken) (sym h) ∙ w.0 (omega (arith, l))
within_at n (x ∷ us) w (suc k) u h l = within_at (suc n) us w.1 k u h (omega (arith, l))

rise_sends : (b a m n : ℕ) (qs : List (ℕ × ℕ)) → Rise b a m n qs → (q : ℕ × ℕ) → IsIn q qs → (other : ℕ) → (b ≤ q.0) × (number_after other qs q.0 ≡ q.1)
rise_sends b a m n [] r q h other = absurd h
rise_sends b a m n (x ∷ qs) r q (inl e) other =
    let t = eq-eqb x.0 q.0 (ap (λ (z : ℕ × ℕ). z.0) (sym e)) in
    ((let l = r.0 in let d = ap (λ (z : ℕ × ℕ). z.0) e in omega (arith, l, d)), ap (λ c. cond c x.1 (number_after other qs q.0)) t ∙ ap (λ (z : ℕ × ℕ). z.1) (sym e))
rise_sends b a m n (x ∷ qs) r q (inr h) other =
    let s = rise_sends (suc x.0) (suc x.1) m n qs r.4 q h other in
    let le = s.0 in let l = r.0 in
    (omega (arith, le, l), ap (λ c. cond c x.1 (number_after other qs q.0)) (apart x.0 q.0 (λ d. omega (arith, d, le))) ∙ s.1)

steps : (b a k m n : ℕ) → b + k ≤ m → a + k ≤ n → Rise b a m n (in_step b a k)
steps b a zero m n l j = tt
steps b a (suc k) m n l j = (omega arith, omega (arith, l), omega arith, omega (arith, j), steps (suc b) (suc a) k m n (omega (arith, l)) (omega (arith, j)))

list_or : List (ℕ × ℕ) → Option (List (ℕ × ℕ)) → List (ℕ × ℕ)
list_or d None = d
list_or d (Some qs) = qs

pub forms_send : (fs gs : List FormText) (qs : List (ℕ × ℕ)) → form_pairs fs gs ≡ Some qs → (q : ℕ × ℕ) → IsIn q qs → (other : ℕ) → number_after other qs q.0 ≡ q.1
unfolding list_or
forms_send fs gs qs e q h other = go (list_any (λ f. f.included) (fs ++ gs)) (same_list is_same_at_home fs gs) e
  where
    go : (s t : Bool) → cond s (cond t (Some (in_step 0 0 (length fs))) None) (Some (by_ends fs gs)) ≡ Some qs → number_after other qs q.0 ≡ q.1
    go true true k =
        let i : in_step 0 0 (length fs) ≡ qs = ap (list_or qs) k in
        (rise_sends 0 0 (length fs) (length fs) qs (subst (Rise 0 0 (length fs) (length fs)) i (steps 0 0 (length fs) (length fs) (length fs) (omega arith) (omega arith))) q h other).1
    go true false k = let z : None ≡ Some qs = k in absurd cc
    go false t k = let i : by_ends fs gs ≡ qs = ap (list_or qs) k in (rise_sends 0 0 (length fs) (length gs) qs (subst (Rise 0 0 (length fs) (length gs)) i (ends_rise fs gs)) q h other).1

module _ (us vs : List UnitText) (w : AreWithin 0 us) (p : UnitPair) (h : IsIn p (unit_pairs us vs)) where
  abbrev found : PairOf 0 us vs p
  found = pairs_found 0 us vs p h

  not_prelude : (prelude_unit == p.before) ≡ false
  not_prelude = apart prelude_unit p.before (λ e.
      let c = found.before in
      let broken = within_at 0 us w found.place found.unit found.here (omega (arith, e, c)) in
      let fine = (key_told found.unit found.from.unit found.from.same).here in
      let z : true ≡ false = sym broken ∙ fine in absurd cc)

  pub unit_sent : (renumbering (unit_pairs us vs)).unit p.before ≡ p.after
  unit_sent = ap (λ b. cond b prelude_unit (unit_after (unit_pairs us vs) p.before)) not_prelude ∙ leads_unit p (unit_pairs us vs) found.leads

  pub form_sent : (q : ℕ × ℕ) → IsIn q p.forms → (renumbering (unit_pairs us vs)).form p.before q.0 ≡ q.1
  form_sent q k =
      ap (λ b. cond b (number_after (1 + q.0) ((0, 0) ∷ []) q.0) (form_after (unit_pairs us vs) p.before q.0)) not_prelude
      ∙ leads_form p (unit_pairs us vs) q.0 found.leads ∙ forms_send found.unit.forms found.from.unit.forms p.forms found.from.forms q k (p.size + q.0)
