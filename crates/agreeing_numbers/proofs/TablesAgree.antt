-- Numbers that tables of an event tell agree with those of its pairs.
use Rattle.std.proofs.Common.{◌≡◌, ℕ, zero, suc, ◌+◌, ◌<◌, List, [], ◌∷◌, length, Bool, true, false, cond, Option, Some, None, refl, sym, ap, ◌∙◌, subst, arith}
use Rattle.std.specs.Prelude.{slice_get}
use Rattle.std.proofs.lemmas.Option.{slice_get_within}
use Rattle.scheme_model.specs.declared.Home.{Home}
use Rattle.scheme_model.specs.Declarations.{UnitForm, home_of, home_or, is_part_kind}
use Rattle.scheme_model.specs.Includes.{max_units}
use Rattle.scheme_model.specs.IncludedUnits.{Placed}
use Rattle.scheme_model.specs.Program.{Prepared, prepared, prepare, prelude_unit, units_of, forms_at_work}
use Rattle.form_laws.specs.Begins.{Each}
use Rattle.renumbering_laws.specs.Renumbering.{Renumbering}
use Rattle.carried_forms.specs.Worked.{OpenDocument, read_documents}
use Rattle.carried_laws.specs.CarriedOver.{numbers_between, prepared_of}
use Rattle.carried_laws.specs.Homes.{At}
use Rattle.part_homes.specs.AtHome.{IsFormOfPart}
use Rattle.part_homes.proofs.PartsThere.{all_at_home}
use Rattle.agreeing_numbers.specs.Agreeing.{AgreeOnForm, AgreeOnUnit, AgreeOn}
use Rattle.agreeing_numbers.specs.Tables.{Includes, FollowsPairs}

-- ---- lists

pub each_placed : {X : Type 0} (P : X → Type 0) (xs : List X) → ((i : ℕ) (x : X) → slice_get xs i ≡ Some x → P x) → Each P xs
each_placed P [] h = tt
each_placed P (x ∷ xs) h = (h 0 x refl, each_placed P xs (λ i y e. h (suc i) y e))

pub each_get : {X : Type 0} (P : X → Type 0) (xs : List X) → Each P xs → (i : ℕ) (x : X) → slice_get xs i ≡ Some x → P x
each_get P [] h i x e = absurd cc
each_get P (y ∷ xs) h zero x e = let q : y ≡ x = cc in subst P q h.0
each_get P (y ∷ xs) h (suc i) x e = each_get P xs h.1 i x e

pub at_get : {X : Type 0} (xs : List X) (i : ℕ) (x : X) → At xs i x → slice_get xs i ≡ Some x
at_get [] i x h = absurd h
at_get (y ∷ xs) zero x h = ap (λ z. Some z) h
at_get (y ∷ xs) (suc i) x h = at_get xs i x h

pub numbered : (all : List Placed) (k : ℕ) (us : List Placed) (i : ℕ) (p : Prepared) → slice_get (prepare all k us) i ≡ Some p → p.number ≡ k + i
numbered all k [] i p h = absurd cc
numbered all k (u ∷ us) zero p h = let e : prepared all k u ≡ p = cc in ap (λ (z : Prepared). z.number) (sym e) ∙ (let z : k ≡ k + 0 = omega arith in z)
numbered all k (u ∷ us) (suc i) p h = numbered all (suc k) us i p h ∙ (let e : suc k + i ≡ k + suc i = omega arith in e)

module _ (before after : List OpenDocument) (is_home : ℕ → Bool) (q : Renumbering) (follows : FollowsPairs before after is_home q) where
  abbrev r : Renumbering
  r = numbers_between before after

  abbrev ps : List Prepared
  ps = prepared_of before

  unit_same : (u : ℕ) → u < prelude_unit → r.unit u ≡ q.unit u
  unit_same u few = go (is_home u) refl
    where
      go : (b : Bool) → is_home u ≡ b → r.unit u ≡ q.unit u
      go true e = sym (follows.homes u e)
      go false e = sym (follows.units u (omega (arith, few)) e)

  module _ (i : ℕ) (p : Prepared) (there : slice_get ps i ≡ Some p) (few : i < prelude_unit) where
    -- a form of the unit itself
    own_same : (n : ℕ) (f : UnitForm) → At (forms_at_work p) n f → r.form i n ≡ q.form i n
    own_same n f at = go (is_home i) refl
      where
        of_part : (c : Bool) → c ≡ true → At (cond c [] p.forms) n f → r.form i n ≡ q.form i n
        of_part true e h = absurd h
        of_part false e h = absurd cc

        among : (c : Bool) → At (cond c [] p.forms) n f → n < length p.forms
        among true h = absurd h
        among false h = slice_get_within p.forms n f (at_get p.forms n f h)

        go : (b : Bool) → is_home i ≡ b → r.form i n ≡ q.form i n
        go true e = of_part (is_part_kind p.placed.source.kind) (follows.parts i p e there) at
        go false e = sym (follows.forms i n few e (p, there, among (is_part_kind p.placed.source.kind) at))

    -- and where an included one is at home
    home_same : (h : Home) → IsFormOfPart ps h → Includes before h → (r.unit h.unit ≡ q.unit h.unit) × (r.form h.unit h.form ≡ q.form h.unit h.form)
    home_same h k included = (unit_same h.unit k.few, go (is_home h.unit) refl)
      where
        go : (b : Bool) → is_home h.unit ≡ b → r.form h.unit h.form ≡ q.form h.unit h.form
        go true e = sym (follows.at_home h e included)
        go false e = sym (follows.forms h.unit h.form k.few e (k.unit, k.there, slice_get_within k.unit.forms h.form k.form k.form_there))

    form_same : (n : ℕ) (f : UnitForm) → At (forms_at_work p) n f → slice_get p.forms n ≡ Some f → (o : Option Home) → f.home ≡ o → let h = home_or i n f.datum o in AgreeOnForm r q i n h.unit h.form
    form_same n f at here None e = record { form_same = own_same n f at; home_unit_same = unit_same i few; home_form_same = own_same n f at }
    form_same n f at here (Some h) e =
        let homes = each_get (λ (f : UnitForm). (h : Home) → f.home ≡ Some h → IsFormOfPart ps h) p.forms (each_get _ ps (all_at_home (read_documents before)) i p there) n f here in
        let z = home_same h (homes h e) (i, p, there, (n, f, here, e)) in
        record { form_same = own_same n f at; home_unit_same = z.0; home_form_same = z.1 }

    at_work : (n : ℕ) (f : UnitForm) → At (forms_at_work p) n f → slice_get p.forms n ≡ Some f
    at_work n f h = go (is_part_kind p.placed.source.kind) h
      where
        go : (c : Bool) → At (cond c [] p.forms) n f → slice_get p.forms n ≡ Some f
        go true k = absurd k
        go false k = at_get p.forms n f k

    unit_agrees : p.number ≡ i → AgreeOnUnit r q p
    unit_agrees e = record {
      unit = subst (λ m. r.unit m ≡ q.unit m) (sym e) (unit_same i few);
      forms = λ n f at. subst (λ m. let h = home_of m n f in AgreeOnForm r q m n h.unit h.form) (sym e) (form_same n f at (at_work n f at) f.home refl);
    }

  pub tables_agree : AgreeOn r q (read_documents before)
  tables_agree = record {
    prelude = sym (follows.units prelude_unit (omega arith) follows.prelude);
    prelude_form = sym follows.prelude_form;
    units = each_placed _ ps (λ i p there few. let e : p.number ≡ 0 + i = numbered (units_of (read_documents before)) 0 (units_of (read_documents before)) i p there in let m : p.number ≡ i = omega (arith, e) in unit_agrees i p there (subst (λ n. n < max_units) m few) m);
  }
