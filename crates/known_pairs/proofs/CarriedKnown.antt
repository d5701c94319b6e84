-- What is carried by the pairs of an event is carried by those that are known before, so no more is worked.
use Rattle.std.proofs.Common.{◌≡◌, ◌⊎◌, inl, inr, ℕ, suc, ◌+◌, ◌≤◌, List, [], ◌∷◌, Bool, true, false, cond, refl, sym, ap, ◌∙◌, subst, arith, eq-eqb}
use Rattle.std.specs.Prelude.{◌&&◌, ◌==◌}
use Rattle.std.proofs.lemmas.Bool.{eqb-true}
use Rattle.scheme_model.specs.Program.{prelude_unit}
use Rattle.scheme_model.specs.Substitution.{Clock}
use Rattle.renumbering_laws.specs.Renumbering.{Renumbering}
use Rattle.renumbering_laws.specs.NewSurroundings.{HasOldNumbers}
use Rattle.carried_forms.specs.Paired.{UnitText, UnitPair, unit_after, number_after, form_after}
use Rattle.carried_forms.specs.Worked.{WorkedForm, WorkedUnit, OpenDocument, AreOpenOnce, read_documents, units_at_work, unit_texts}
use Rattle.carried_forms.specs.Carried.{IsIn, worked_at, both_alike, is_among, uses_beside, work_beside, carried, work}
use Rattle.carried_forms.proofs.CarriedLaws.{carried_only, carried_all}
use Rattle.carried_forms.proofs.OldNumbers.{pairs_tell}
use Rattle.carried_forms.proofs.ProgramUnits.{programs_told, programs_within}
use Rattle.carried_laws.specs.CarriedOver.{numbers_between, pairs_between, AllHomesGoOn}
use Rattle.carried_laws.proofs.CarriedOver.{both_there}
use Rattle.carried_laws.proofs.FormsWritten.{work_begins}
use Rattle.carried_laws.proofs.HomeTrees.{worked_tree}
use Rattle.carried_laws.proofs.PairsSend.{pairs_found, unit_sent, form_sent}
use Rattle.agreeing_numbers.specs.Following.{Follows}
use Rattle.agreeing_numbers.proofs.Following.{follow_alike}
use Rattle.known_pairs.specs.Known.{known_texts, pairs_known, numbers_known, carried_known, work_known}
use Rattle.known_pairs.proofs.PairsKnown.{known_within, known_pair}

-- ---- numbers of pairs

abbrev Leads : UnitPair → List UnitPair → Type 0
Leads p [] = ⊥
Leads p (q ∷ qs) = (q ≡ p) ⊎ (((q.before == p.before) ≡ false) × Leads p qs)

leads_form : (p : UnitPair) (ps : List UnitPair) (f : ℕ) → Leads p ps → form_after ps p.before f ≡ number_after (p.size + f) p.forms f
leads_form p [] f h = absurd h
leads_form p (q ∷ qs) f (inl e) =
    let t = eq-eqb q.before p.before (ap (λ (z : UnitPair). z.before) e) in
    ap (λ b. cond b (number_after (q.size + f) q.forms f) (form_after qs p.before f)) t ∙ ap (λ (z : UnitPair). number_after (z.size + f) z.forms f) e
leads_form p (q ∷ qs) f (inr h) = ap (λ b. cond b (number_after (q.size + f) q.forms f) (form_after qs p.before f)) h.0 ∙ leads_form p qs f h.1

-- a unit that goes on is of a pair
paired_or : (ps : List UnitPair) (u : ℕ) → ((p : UnitPair) × IsIn p ps × (p.before ≡ u)) ⊎ (unit_after ps u ≡ suc prelude_unit + u)
paired_or [] u = inr refl
paired_or (p ∷ ps) u = go (p.before == u) refl (paired_or ps u)
  where
    go : (t : Bool) → (p.before == u) ≡ t → ((q : UnitPair) × IsIn q ps × (q.before ≡ u)) ⊎ (unit_after ps u ≡ suc prelude_unit + u) → ((q : UnitPair) × IsIn q (p ∷ ps) × (q.before ≡ u)) ⊎ (unit_after (p ∷ ps) u ≡ suc prelude_unit + u)
    go true e rest = inl (p, inl refl, eqb-true p.before u e)
    go false e (inl h) = inl (h.0, inr h.1, h.2)
    go false e (inr h) = inr (ap (λ t. cond t p.after (unit_after ps u)) e ∙ h)

-- ---- sums

among_in : (cs : List (ℕ × ℕ)) (u f : ℕ) → is_among cs u f ≡ true → IsIn (u, f) cs
among_in [] u f h = absurd cc
among_in (c ∷ cs) u f h = go ((c.0 == u) && (c.1 == f)) refl h (λ k. among_in cs u f k)
  where
    both : (a b : Bool) → (a && b) ≡ true → (a ≡ true) × (b ≡ true)
    both true true h = (refl, refl)
    both true false h = absurd cc
    both false b h = absurd cc

    go : (b : Bool) → ((c.0 == u) && (c.1 == f)) ≡ b → cond b true (is_among cs u f) ≡ true → (is_among cs u f ≡ true → IsIn (u, f) cs) → ((u, f) ≡ c) ⊎ IsIn (u, f) cs
    go true e k law = let q = both (c.0 == u) (c.1 == f) e in let a = eqb-true c.0 u q.0 in let b = eqb-true c.1 f q.1 in inl (λ j. (sym a j, sym b j))
    go false e k law = inr (law k)

in_among : (cs : List (ℕ × ℕ)) (u f : ℕ) → IsIn (u, f) cs → is_among cs u f ≡ true
in_among [] u f h = absurd h
in_among (c ∷ cs) u f (inl e) =
    let a = eq-eqb c.0 u (ap (λ (z : ℕ × ℕ). z.0) (sym e)) in let b = eq-eqb c.1 f (ap (λ (z : ℕ × ℕ). z.1) (sym e)) in λ j. cond (a j && b j) true (is_among cs u f)
in_among (c ∷ cs) u f (inr h) = go ((c.0 == u) && (c.1 == f)) (in_among cs u f h)
  where
    go : (b : Bool) → is_among cs u f ≡ true → cond b true (is_among cs u f) ≡ true
    go true k = refl
    go false k = k

module _ (cs ds : List (ℕ × ℕ)) (more : (c : ℕ × ℕ) → IsIn c cs → IsIn c ds) where
  one_less : (u f n : ℕ) → cond (is_among ds u f) 0 n ≤ cond (is_among cs u f) 0 n
  one_less u f n = go (is_among cs u f) refl (is_among ds u f) refl
    where
      go : (a : Bool) → is_among cs u f ≡ a → (b : Bool) → is_among ds u f ≡ b → cond b 0 n ≤ cond a 0 n
      go a e true d = omega arith
      go false e false d = omega arith
      go true e false d = let z : true ≡ false = sym (in_among ds u f (more (u, f) (among_in cs u f e))) ∙ d in absurd cc

  uses_less : (u : ℕ) (uses : Clock) (fs : List WorkedForm) → uses_beside ds u uses fs ≤ uses_beside cs u uses fs
  uses_less u uses [] = omega arith
  uses_less u uses (f ∷ fs) = let a = one_less u f.form (uses f.form) in let b = uses_less u uses fs in omega (arith, a, b)

  work_less : (ws : List WorkedUnit) → work_beside ds ws ≤ work_beside cs ws
  work_less [] = omega arith
  work_less (w ∷ ws) = let a = uses_less w.number w.uses w.forms in let b = work_less ws in omega (arith, a, b)

-- ---- the event

module _ (before after : List OpenDocument) (once : AreOpenOnce before) (once_after : AreOpenOnce after) where
  abbrev us : List UnitText
  us = unit_texts before

  abbrev r : Renumbering
  r = numbers_between before after

  abbrev q : Renumbering
  q = numbers_known before after

  pub known_tell : HasOldNumbers q
  known_tell = pairs_tell us (known_texts after) (programs_told before once) (known_within before after once once_after)

  module _ (p : UnitPair) (h : IsIn p (pairs_between before after)) (other : (prelude_unit == p.before) ≡ false) where
    abbrev k : IsIn p (pairs_known before after)
    k = known_pair before after once once_after p h

    unit_follows : r.unit p.before ≡ q.unit p.before
    unit_follows = unit_sent us (unit_texts after) (programs_within before once) p h ∙ sym (unit_sent us (known_texts after) (programs_within before once) p k)

    form_follows : (f : ℕ) → r.form p.before f ≡ q.form p.before f
    form_follows f =
        let a = leads_form p (pairs_between before after) f (pairs_found 0 us (unit_texts after) p h).leads in
        let b = leads_form p (pairs_known before after) f (pairs_found 0 us (known_texts after) p k).leads in
        (λ j. cond (other j) (number_after (1 + f) ((0, 0) ∷ []) f) (a j)) ∙ sym (λ j. cond (other j) (number_after (1 + f) ((0, 0) ∷ []) f) (b j))

  -- what goes on by the pairs of the event goes on so
  pub known_follow : Follows r q (read_documents after)
  known_follow = record {
    units = λ u few. unit_by u (prelude_unit == u) refl few;
    forms = λ u f few l. form_by u f (prelude_unit == u) refl few;
  }
    where
      far : (u : ℕ) → (prelude_unit == u) ≡ false → unit_after (pairs_between before after) u ≡ suc prelude_unit + u → r.unit u ≤ prelude_unit → ⊥
      far u e h few = let a = ap (λ t. cond t prelude_unit (unit_after (pairs_between before after) u)) e in omega (arith, a, h, few)

      unit_of : (u : ℕ) → (prelude_unit == u) ≡ false → r.unit u ≤ prelude_unit → ((p : UnitPair) × IsIn p (pairs_between before after) × (p.before ≡ u)) ⊎ (unit_after (pairs_between before after) u ≡ suc prelude_unit + u) → r.unit u ≡ q.unit u
      unit_of u e few (inl h) = subst (λ n. r.unit n ≡ q.unit n) h.2 (unit_follows h.0 h.1 (ap (λ n. prelude_unit == n) h.2 ∙ e))
      unit_of u e few (inr h) = absurd (far u e h few)

      unit_by : (u : ℕ) (t : Bool) → (prelude_unit == u) ≡ t → r.unit u ≤ prelude_unit → r.unit u ≡ q.unit u
      unit_by u true e few = ap (λ t. cond t prelude_unit (unit_after (pairs_between before after) u)) e ∙ sym (ap (λ t. cond t prelude_unit (unit_after (pairs_known before after) u)) e)
      unit_by u false e few = unit_of u e few (paired_or (pairs_between before after) u)

      form_of : (u f : ℕ) → (prelude_unit == u) ≡ false → r.unit u ≤ prelude_unit → ((p : UnitPair) × IsIn p (pairs_between before after) × (p.before ≡ u)) ⊎ (unit_after (pairs_between before after) u ≡ suc prelude_unit + u) → r.form u f ≡ q.form u f
      form_of u f e few (inl h) = subst (λ n. r.form n f ≡ q.form n f) h.2 (form_follows h.0 h.1 (ap (λ n. prelude_unit == n) h.2 ∙ e) f)
      form_of u f e few (inr h) = absurd (far u e h few)

      form_by : (u f : ℕ) (t : Bool) → (prelude_unit == u) ≡ t → r.unit u ≤ prelude_unit → r.form u f ≡ q.form u f
      form_by u f true e few = ap (λ t. cond t (number_after (1 + f) ((0, 0) ∷ []) f) (form_after (pairs_between before after) u f)) e ∙ sym (ap (λ t. cond t (number_after (1 + f) ((0, 0) ∷ []) f) (form_after (pairs_known before after) u f)) e)
      form_by u f false e few = form_of u f e few (paired_or (pairs_between before after) u)

  module _ (homes : AllHomesGoOn before after) where
    abbrev ws : List WorkedUnit
    ws = units_at_work (read_documents before)

    abbrev vs : List WorkedUnit
    vs = units_at_work (read_documents after)

    old_numbers : HasOldNumbers r
    old_numbers = pairs_tell us (unit_texts after) (programs_told before once) (programs_within after once_after)

    alike_known : (p : UnitPair) → IsIn p (pairs_between before after) → (x : ℕ × ℕ) → IsIn x p.forms → both_alike r (worked_at ws p.before x.0) (worked_at vs p.after x.1) ≡ true → both_alike q (worked_at ws p.before x.0) (worked_at vs p.after x.1) ≡ true
    alike_known p i x k h =
        let z = both_there r (worked_at ws p.before x.0) (worked_at vs p.after x.1) h in
        let to = unit_sent us (unit_texts after) (programs_within before once) p i in
        let form = form_sent us (unit_texts after) (programs_within before once) p i x k in
        let same = worked_tree before after r p i x k z.one z.other z.here z.there to form homes in
        let alike = follow_alike (read_documents after) r q old_numbers known_follow p.before x.1 z.one z.other (work_begins (read_documents before) p.before x.0 z.one z.here) (ap (λ n. worked_at vs n x.1) to ∙ z.there) same.0 same.1 z.alike in
        (λ j. both_alike q (z.here j) (z.there j)) ∙ alike

    pub carried_too : (c : ℕ × ℕ) → IsIn c (carried before after) → IsIn c (carried_known before after)
    carried_too c h =
        let z = carried_only r ws vs (pairs_between before after) c h in
        carried_all q ws vs (pairs_known before after) c
        (record { unit = z.unit; goes_on = known_pair before after once once_after z.unit z.goes_on; forms = z.forms; with_it = z.with_it; alike = alike_known z.unit z.goes_on z.forms z.with_it z.alike; is = z.is })

    pub known_less : work_known before after ≤ work before after
    known_less = work_less (carried before after) (carried_known before after) carried_too vs
