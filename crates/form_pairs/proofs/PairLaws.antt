-- The pairs of units, one unit after another.
use Rattle.std.proofs.Common.{◌≡◌, ℕ, zero, suc, ◌+◌, ◌<◌, ◌≤◌, All, List, [], ◌∷◌, ◌++◌, map, Bool, true, false, cond, length, get_or, slice_get, drop, Option, Some, None, Result, Ok, Err, refl, sym, ap, ◌∙◌, subst, arith, append_assoc}
use Rattle.std.specs.Result.{IfOk}
use Rattle.std.proofs.lemmas.List.Elements.{All-append}
use Rattle.std.proofs.lemmas.List.{append-nil, map-append}
use Rattle.std.proofs.lemmas.Option.{slice_get_read}
use Rattle.std.proofs.Math.ListN.{drop_of_length-le}
use Rattle.unit_sources.specs.UnitsRead.{forms_of}
use Rattle.unit_sources.specs.declared.units.UnitForm.{UnitForm}
use Rattle.form_pairs.specs.Found.{pair_seen, pair_there, pair_if, pair_from, pair_in}
use Rattle.carried_forms.specs.Paired.{FormText, UnitText, UnitPair, form_pairs, is_same_unit, pair_of, pairs_from, unit_pairs, with_forms}
use Rattle.carried_forms.specs.Worked.{form_texts}
use Rattle.form_pairs.specs.Units.{IsUnitText, AreUnits, uri_in, forms_if, texts_at}
use Rattle.form_pairs.specs.declared.pairs.UnitPair as code_pair
use Rattle.form_pairs.specs.declared.units.UnitText as code
use Rattle.form_pairs.proofs.UnitTexts.{UnitThere, unit_there, as_many_units}

abbrev made : List code.UnitText → ℕ → List code.UnitText → ℕ → List UnitPair
made cs b ds a = with_forms b a (length (texts_at ds a)) (form_pairs (texts_at cs b) (texts_at ds a))

-- the forms of a unit are the texts there
forms_there : (cs : List code.UnitText) (us : List UnitText) (k : ℕ) (c : code.UnitText) → k < length cs → c ≡ get_or cs k c → (t : UnitThere (uri_in cs) 0 k c us) → t.unit.forms ≡ texts_at cs k
forms_there cs us k c lt at t =
    t.is.forms ∙ ap (λ (n : ℕ). form_texts (uri_in cs) n 0 (forms_of c.forms.now)) from_none
    ∙ ap (λ (o : Option code.UnitText). form_texts (uri_in cs) k 0 (forms_of (forms_if o))) (sym (slice_get_read cs (length cs) k c refl lt at))
  where
    from_none : 0 + k ≡ k
    from_none = omega arith

module _ (cs ds : List code.UnitText) (us vs : List UnitText) (are : AreUnits cs us) (too : AreUnits ds vs) (b a : ℕ) (c d : code.UnitText) (first : b < length cs) (at : c ≡ get_or cs b c)
    (second : a < length ds) (there : d ≡ get_or ds a d) (r : Bool) (same : (f g : ℕ → List ℕ) (n m : ℕ) (u v : UnitText) → IsUnitText f n c u → IsUnitText g m d v → r ≡ is_same_unit u v) where
  before : UnitThere (uri_in cs) 0 b c us
  before = unit_there (uri_in cs) 0 cs us are b c first at

  after : UnitThere (uri_in ds) 0 a d vs
  after = unit_there (uri_in ds) 0 ds vs too a d second there

  step : pair_from us b a (drop a vs) ≡ cond r (made cs b ds a) (pair_from us b (a + 1) (drop (a + 1) vs))
  step =
      let u = before.unit in
      let v = after.unit in
      let rest = drop (a + 1) vs in
      let on : suc a ≡ a + 1 = omega arith in
      (λ j. pair_if b (before.there j) a (after.next j))
      ∙ ap (λ (t : Bool). cond t (with_forms b a (length v.forms) (form_pairs u.forms v.forms)) (pair_of b u (suc a) rest)) (sym (same (uri_in cs) (uri_in ds) (0 + b) (0 + a) u v before.is after.is))
      ∙ (λ j. cond r (with_forms b a (length (forms_there ds vs a d second there after j)) (form_pairs (forms_there cs us b c first at before j) (forms_there ds vs a d second there after j))) (pair_of b u (on j) rest))
      ∙ ap (λ (o : Option UnitText). cond r (made cs b ds a) (pair_if b o (a + 1) rest)) (sym before.there)

  pub pair_found : (ps : List UnitPair) → ps ≡ made cs b ds a → pair_in us b vs ≡ pair_from us b a (drop a vs) → r ≡ true → ps ≡ pair_in us b vs
  pair_found ps is so_far holds = is ∙ sym (so_far ∙ step ∙ ap (λ (t : Bool). cond t (made cs b ds a) (pair_from us b (a + 1) (drop (a + 1) vs))) holds)

  pub pair_not_yet : pair_in us b vs ≡ pair_from us b a (drop a vs) → r ≡ false → pair_in us b vs ≡ pair_from us b (a + 1) (drop (a + 1) vs)
  pair_not_yet so_far fails = so_far ∙ step ∙ ap (λ (t : Bool). cond t (made cs b ds a) (pair_from us b (a + 1) (drop (a + 1) vs))) fails

no_more : (b a : ℕ) (o : Option UnitText) → pair_if b o a [] ≡ []
no_more b a None = refl
no_more b a (Some u) = refl

pub no_pair : (ds : List code.UnitText) (us vs : List UnitText) → AreUnits ds vs → (b a : ℕ) → length ds ≤ a → pair_in us b vs ≡ pair_from us b a (drop a vs) → [] ≡ pair_in us b vs
no_pair ds us vs too b a done so_far =
    let many = as_many_units (uri_in ds) 0 ds vs too in
    sym (so_far ∙ ap (pair_from us b a) (drop_of_length-le vs {i = a} (omega (arith, done, many))) ∙ no_more b a (slice_get us b))

-- ---- all units

-- the unit there, and those from it on
unit_next : (us : List UnitText) (k : ℕ) → k < length us → (u : UnitText) × (slice_get us k ≡ Some u) × (drop k us ≡ u ∷ drop (k + 1) us)
unit_next [] k lt = absurd (omega (arith, lt))
unit_next (u ∷ us) zero lt = (u, refl, refl)
unit_next (u ∷ us) (suc k) lt =
    let more = unit_next us k (omega (arith, lt)) in
    let on : suc k + 1 ≡ suc (k + 1) = omega arith in (more.0, more.1, more.2 ∙ ap (λ (m : ℕ). more.0 ∷ drop m (u ∷ us)) (sym on))

module _ (cs : List code.UnitText) (us vs : List UnitText) (are : AreUnits cs us) (b : ℕ) where
  pub one_more : b < length cs → (ps qs : List code_pair.UnitPair) (p : Option code_pair.UnitPair) → map pair_seen qs ≡ map pair_seen ps ++ pair_there p → pair_there p ≡ pair_in us b vs →
      map pair_seen ps ++ pairs_from b (drop b us) vs ≡ unit_pairs us vs → map pair_seen qs ++ pairs_from (b + 1) (drop (b + 1) us) vs ≡ unit_pairs us vs
  one_more lt ps qs p grown is so_far =
      let many = as_many_units (uri_in cs) 0 cs us are in
      let t = unit_next us b (omega (arith, lt, many)) in
      let on : suc b ≡ b + 1 = omega arith in
      ap (λ (l : List UnitPair). l ++ pairs_from (b + 1) (drop (b + 1) us) vs) (grown ∙ ap (λ (l : List UnitPair). map pair_seen ps ++ l) (is ∙ ap (λ (o : Option UnitText). pair_if b o 0 vs) t.1))
      ∙ append_assoc (map pair_seen ps) (pair_of b t.0 0 vs) (pairs_from (b + 1) (drop (b + 1) us) vs)
      ∙ ap (λ (n : ℕ). map pair_seen ps ++ (pair_of b t.0 0 vs ++ pairs_from n (drop (b + 1) us) vs)) (sym on)
      ∙ ap (λ (l : List UnitText). map pair_seen ps ++ pairs_from b l vs) (sym t.2)
      ∙ so_far

  pub all_done : (ps : List code_pair.UnitPair) → length cs ≤ b → map pair_seen ps ++ pairs_from b (drop b us) vs ≡ unit_pairs us vs → map pair_seen ps ≡ unit_pairs us vs
  all_done ps done so_far =
      let many = as_many_units (uri_in cs) 0 cs us are in
      sym (append-nil (map pair_seen ps)) ∙ ap (λ (l : List UnitText). map pair_seen ps ++ pairs_from b l vs) (sym (drop_of_length-le us {i = b} (omega (arith, done, many)))) ∙ so_far

pub pushed : (ps qs : List code_pair.UnitPair) (p : code_pair.UnitPair) → qs ≡ ps ++ p ∷ [] → map pair_seen qs ≡ map pair_seen ps ++ pair_there (Some p)
pushed ps qs p is = ap (map pair_seen) is ∙ map-append pair_seen ps (p ∷ [])

-- what holds of each holds of each and one more
pub all_more : {X : Type 0} (P : X → Type 0) (xs ys : List X) (x : X) → ys ≡ xs ++ x ∷ [] → All P xs → P x → All P ys
all_more P xs ys x is so_far here = subst (All P) (sym is) (All-append P xs (x ∷ []) so_far one)
  where
    one : All P (x ∷ [])
    one zero d lt = here
    one (suc k) d lt = absurd (omega (arith, lt))

-- what holds where there is an answer
pub by_answer : {X E : Type 0} (P Q : X → Type 0) → ((x : X) → P x → Q x) → (r : Result X E) → IfOk r P → IfOk r Q
by_answer P Q f (Ok x) h = f x h
by_answer P Q f (Err e) h = tt
