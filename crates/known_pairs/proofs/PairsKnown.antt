-- Pairs of an event are among those that are known before forms are worked on.
use Rattle.std.proofs.Common.{◌≡◌, inl, inr, ℕ, zero, suc, ◌+◌, List, [], ◌∷◌, ◌++◌, map, length, Bool, true, false, cond, Option, Some, None, refl, sym, ap, ◌∙◌, subst, arith}
use Rattle.scheme_model.specs.Order.{is_some}
use Rattle.scheme_model.specs.Program.{Prepared, UnitResult, known_in, units_of, prepare, fault_before}
use Rattle.scheme_model.specs.ScopedProgram.{scoped_work, scoped_before}
use Rattle.carried_forms.specs.Paired.{UnitText, UnitPair, is_same_unit, IsAlone, AreTold, AreWithin, form_pairs, with_forms, pair_of, pairs_from, unit_pairs}
use Rattle.carried_forms.specs.Worked.{OpenDocument, AreOpenOnce, read_documents, unit_text, unit_texts}
use Rattle.carried_forms.specs.Carried.{IsIn}
use Rattle.carried_forms.proofs.UnitLaws.{key_told, by_key}
use Rattle.carried_forms.proofs.ProgramUnits.{no_fault, texts_told, texts_within, programs_told}
use Rattle.carried_laws.specs.Homes.{At}
use Rattle.carried_laws.proofs.PairsSend.{pairs_found}
use Rattle.known_pairs.specs.Known.{known_texts, pairs_known}

clash : {P : Type 0} → true ≡ false → P
clash h = absurd cc

-- ---- where a unit stands that another goes on as

alone_at : (u : UnitText) (vs : List UnitText) → IsAlone u vs → (n : ℕ) (v : UnitText) → At vs n v → is_same_unit u v ≡ false
alone_at u [] h n v at = absurd at
alone_at u (x ∷ vs) h zero v at = subst (λ (z : UnitText). is_same_unit u z ≡ false) at h.0
alone_at u (x ∷ vs) h (suc n) v at = alone_at u vs h.1 n v at

same_beside : (u x v : UnitText) → is_same_unit u x ≡ true → is_same_unit u v ≡ true → is_same_unit x v ≡ true
same_beside u x v a b =
    let h = key_told u x a in let k = key_told u v b in
    by_key x v (record { here = h.there; there = k.there; uri = sym h.uri ∙ k.uri; kind = sym h.kind ∙ k.kind; name = sym h.name ∙ k.name })

pair_there : (b : ℕ) (u : UnitText) (a : ℕ) (vs : List UnitText) → AreTold vs → (n : ℕ) (v : UnitText) → At vs n v → is_same_unit u v ≡ true → pair_of b u a vs ≡ with_forms b (a + n) (length v.forms) (form_pairs u.forms v.forms)
pair_there b u a [] told n v at same = absurd at
pair_there b u a (x ∷ vs) told zero v at same =
    let e : is_same_unit u x ≡ true = ap (is_same_unit u) at ∙ same in
    let d : a ≡ a + 0 = omega arith in
    ap (λ t. cond t (with_forms b a (length x.forms) (form_pairs u.forms x.forms)) (pair_of b u (suc a) vs)) e ∙ (λ j. with_forms b (d j) (length (at j).forms) (form_pairs u.forms (at j).forms))
pair_there b u a (x ∷ vs) told (suc n) v at same = go (is_same_unit u x) refl (pair_there b u (suc a) vs told.1 n v at same)
  where
    d : suc a + n ≡ a + suc n
    d = omega arith

    go : (t : Bool) → is_same_unit u x ≡ t → pair_of b u (suc a) vs ≡ with_forms b (suc a + n) (length v.forms) (form_pairs u.forms v.forms) →
        cond t (with_forms b a (length x.forms) (form_pairs u.forms x.forms)) (pair_of b u (suc a) vs) ≡ with_forms b (a + suc n) (length v.forms) (form_pairs u.forms v.forms)
    go true e rest = clash (sym (same_beside u x v e same) ∙ alone_at x vs told.0 n v at)
    go false e rest = rest ∙ ap (λ m. with_forms b m (length v.forms) (form_pairs u.forms v.forms)) d

in_pairs : (b : ℕ) (us vs : List UnitText) (n : ℕ) (u : UnitText) (p : UnitPair) → At us n u → pair_of (b + n) u 0 vs ≡ p ∷ [] → IsIn p (pairs_from b us vs)
in_pairs b [] vs n u p at e = absurd at
in_pairs b (x ∷ us) vs zero u p at e =
    let d : b + 0 ≡ b = omega arith in
    let one : pair_of b x 0 vs ≡ p ∷ [] = (λ j. pair_of (sym d j) (at j) 0 vs) ∙ e in
    subst (λ (ps : List UnitPair). IsIn p (ps ++ pairs_from (suc b) us vs)) (sym one) (inl refl)
in_pairs b (x ∷ us) vs (suc n) u p at e =
    let d : b + suc n ≡ suc b + n = omega arith in
    later (pair_of b x 0 vs) (in_pairs (suc b) us vs n u p at (ap (λ m. pair_of m u 0 vs) (sym d) ∙ e))
  where
    later : (ps : List UnitPair) → IsIn p (pairs_from (suc b) us vs) → IsIn p (ps ++ pairs_from (suc b) us vs)
    later [] h = h
    later (z ∷ ps) h = inr (later ps h)

-- ---- texts of which fewer are broken

pub mapped_there : {X Y : Type 0} (f g : X → Y) (xs : List X) (n : ℕ) (y : Y) → At (map f xs) n y → (x : X) × IsIn x xs × (f x ≡ y) × At (map g xs) n (g x)
mapped_there f g [] n y at = absurd at
mapped_there f g (x ∷ xs) zero y at = (x, inl refl, at, refl)
mapped_there f g (x ∷ xs) (suc n) y at = let h = mapped_there f g xs n y at in (h.0, inr h.1, h.2, h.3)

module _ (before after : List OpenDocument) (once : AreOpenOnce before) (once_after : AreOpenOnce after) where
  abbrev ps : List Prepared
  ps = let all = units_of (read_documents after) in prepare all 0 all

  abbrev rs : List UnitResult
  rs = let all = units_of (read_documents after) in (scoped_work all ps (known_in (read_documents after)) (length ps) scoped_before).results

  abbrev fault : Prepared → Bool
  fault p = is_some (fault_before (units_of (read_documents after)) ps p)

  none_of : {X : Type 0} (o : Option X) → is_some o ≡ false → o ≡ None
  none_of None h = refl
  none_of (Some x) h = clash h

  clear : (p : Prepared) → IsIn p ps → fault p ≡ false → fault_before (units_of (read_documents after)) ps p ≡ None
  clear p h e = none_of (fault_before (units_of (read_documents after)) ps p) e

  pub known_told : AreTold (known_texts after)
  known_told = texts_told after once_after fault clear

  pub known_within : AreWithin 0 (known_texts after)
  known_within = texts_within after once_after fault clear

  still_same : (u : UnitText) (p : Prepared) → IsIn p ps → is_same_unit u (unit_text after rs p) ≡ true → is_same_unit u (record (unit_text after rs p) { broken = fault p }) ≡ true
  still_same u p h e =
      let k = key_told u (unit_text after rs p) e in
      by_key u (record (unit_text after rs p) { broken = fault p }) (record { here = k.here; there = ap is_some (no_fault after p h k.there); uri = k.uri; kind = k.kind; name = k.name })

  pub known_pair : (p : UnitPair) → IsIn p (unit_pairs (unit_texts before) (unit_texts after)) → IsIn p (pairs_known before after)
  known_pair p h =
      let f = pairs_found 0 (unit_texts before) (unit_texts after) p h in
      let g = f.from in
      let z = mapped_there (unit_text after rs) (λ (x : Prepared). record (unit_text after rs x) { broken = fault x }) ps g.place g.unit g.there in
      let same = still_same f.unit z.0 z.1 (ap (is_same_unit f.unit) z.2 ∙ g.same) in
      let old = pair_there p.before f.unit 0 (unit_texts after) (programs_told after once_after) g.place g.unit g.there g.same in
      let new = pair_there p.before f.unit 0 (known_texts after) known_told g.place (record (unit_text after rs z.0) { broken = fault z.0 }) z.3 same in
      let forms : (unit_text after rs z.0).forms ≡ g.unit.forms = ap (λ (x : UnitText). x.forms) z.2 in
      let one : pair_of p.before f.unit 0 (known_texts after) ≡ p ∷ [] = new ∙ ((λ j. with_forms p.before (0 + g.place) (length (forms j)) (form_pairs f.unit.forms (forms j))) ∙ (sym old ∙ g.alone)) in
      in_pairs 0 (unit_texts before) (known_texts after) f.place f.unit p f.here (ap (λ n. pair_of n f.unit 0 (known_texts after)) (sym f.before) ∙ one)
