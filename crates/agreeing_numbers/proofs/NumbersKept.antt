-- A renumbering that keeps the numbers of a program, and no others.
use Rattle.std.proofs.Common.{◌≡◌, ℕ, zero, suc, pred, ◌+◌, ◌-◌, ◌<◌, List, [], ◌∷◌, length, Bool, true, false, cond, Option, Some, None, refl, sym, ap, ◌∙◌, subst, arith, eq-eqb}
use Rattle.std.specs.Prelude.{slice_get, nat_lt, ◌==◌, ◌&&◌, ◌||◌}
use Rattle.std.specs.List.{list_any}
use Rattle.std.proofs.lemmas.Bool.Decides.{nat_tests}
use Rattle.std.proofs.lemmas.Option.{slice_get_within}
use Rattle.scheme_model.specs.declared.Home.{Home}
use Rattle.scheme_model.specs.Declarations.{UnitForm, home_of, home_or, is_part_kind}
use Rattle.scheme_model.specs.Includes.{Document, max_units}
use Rattle.scheme_model.specs.Program.{Prepared, prepare, prelude_unit, units_of, forms_at_work}
use Rattle.renumbering_laws.specs.Renumbering.{Renumbering}
use Rattle.renumbering_laws.specs.NewSurroundings.{HasOldNumbers}
use Rattle.carried_laws.specs.Homes.{At}
use Rattle.carried_laws.proofs.Places.{below}
use Rattle.part_homes.specs.AtHome.{IsFormOfPart}
use Rattle.part_homes.proofs.PartsThere.{all_at_home}
use Rattle.agreeing_numbers.specs.Agreeing.{AgreeOnForm, AgreeOnUnit, AgreeOn}
use Rattle.agreeing_numbers.specs.Following.{forms_in, form_count, work_in, is_at, is_home_in, is_told}
use Rattle.agreeing_numbers.proofs.NumbersFollow.{itself}
use Rattle.agreeing_numbers.proofs.TablesAgree.{each_placed, each_get, at_get, numbered}

-- ---- numbers below one stay, all others move

abbrev shift : ℕ → ℕ → ℕ
shift k n = cond (nat_lt n k) n (suc n)

abbrev shifted_from : ℕ → ℕ → Option ℕ
shifted_from k n = cond (nat_lt n k) (Some n) (cond (n == k) None (Some (pred n)))

shift_here : (k n : ℕ) → shifted_from k (shift k n) ≡ Some n
shift_here k n = go (nat_lt n k) refl
  where
    go : (b : Bool) → nat_lt n k ≡ b → shifted_from k (cond b n (suc n)) ≡ Some n
    go true e = ap (λ t. cond t (Some n) (cond (n == k) None (Some (pred n)))) e
    go false e =
        let a : nat_lt (suc n) k ≡ false = grind (arith, nat_tests, e) in
        let c : (suc n == k) ≡ false = grind (arith, nat_tests, e) in
        λ j. cond (a j) (Some (suc n)) (cond (c j) None (Some n))

pub shift_stays : (k n : ℕ) → n < k → n ≡ shift k n
shift_stays k n l = let e : nat_lt n k ≡ true = grind (arith, nat_tests, l) in ap (λ b. cond b n (suc n)) (sym e)

pub stays_below : (k n : ℕ) → n ≡ shift k n → n < k
stays_below k n h = go (nat_lt n k) refl h
  where
    go : (b : Bool) → nat_lt n k ≡ b → n ≡ cond b n (suc n) → n < k
    go true e h = grind (arith, nat_tests, e)
    go false e h = let z : n ≡ suc n = h in absurd (omega (arith, z))

-- ---- some of the numbers below one stay, all others move

abbrev pub kept_or : Bool → ℕ → ℕ → ℕ
kept_or b k f = cond b f (suc k + f)

abbrev unless : Bool → ℕ → Option ℕ
unless true f = None
unless false f = Some f

abbrev where_so : Bool → ℕ → Option ℕ
where_so true f = Some f
where_so false f = None

module _ (told : ℕ → Bool) (k : ℕ) (within : (f : ℕ) → told f ≡ true → f < k) where
  abbrev moved_from : ℕ → Option ℕ
  moved_from m = cond (nat_lt m (suc k)) (where_so (told m) m) (unless (told (m - suc k)) (m - suc k))

  moved_here : (f : ℕ) → moved_from (kept_or (told f) k f) ≡ Some f
  moved_here f = go (told f) refl
    where
      go : (b : Bool) → told f ≡ b → moved_from (cond b f (suc k + f)) ≡ Some f
      go true e =
          let l = within f e in
          let a : nat_lt f (suc k) ≡ true = grind (arith, nat_tests, l) in
          (λ j. cond (a j) (where_so (e j) f) (unless (told (f - suc k)) (f - suc k)))
      go false e =
          let a : nat_lt (suc k + f) (suc k) ≡ false = grind (arith, nat_tests) in
          let m : suc k + f - suc k ≡ f = omega arith in
          (λ j. cond (a j) (where_so (told (suc k + f)) (suc k + f)) (unless (told (m j)) (m j))) ∙ ap (λ b. unless b f) e

pub stays_told : (b : Bool) (k f : ℕ) → f ≡ kept_or b k f → b ≡ true
stays_told true k f h = refl
stays_told false k f h = absurd (omega (arith, h))

both_true : (a b : Bool) → a ≡ true → b ≡ true → (a && b) ≡ true
both_true a b e d = ap (λ x. x && b) e ∙ d

first_true : (a b : Bool) → (a && b) ≡ true → a ≡ true
first_true true b e = refl
first_true false b e = e

or_right : (a b : Bool) → b ≡ true → (a || b) ≡ true
or_right true b e = refl
or_right false b e = e

any_at : {X : Type 0} (f : X → Bool) (xs : List X) (n : ℕ) (x : X) → At xs n x → f x ≡ true → list_any f xs ≡ true
any_at f [] n x h e = absurd h
any_at f (y ∷ ys) zero x h e = ap (λ b. b || list_any f ys) (ap f h ∙ e)
any_at f (y ∷ ys) (suc n) x h e = or_right (f y) (list_any f ys) (any_at f ys n x h e)

any_get : {X : Type 0} (f : X → Bool) (xs : List X) (n : ℕ) (x : X) → slice_get xs n ≡ Some x → f x ≡ true → list_any f xs ≡ true
any_get f [] n x h e = absurd cc
any_get f (y ∷ ys) zero x h e = let q : y ≡ x = cc in ap (λ b. b || list_any f ys) (ap f q ∙ e)
any_get f (y ∷ ys) (suc n) x h e = or_right (f y) (list_any f ys) (any_get f ys n x h e)

told_below : (ds : List Document) (u f : ℕ) → is_told ds u f ≡ true → f < form_count ds u
told_below ds u f e =
    let ps = (let all = units_of ds in prepare all 0 all) in
    let l = first_true (nat_lt f (form_count ds u)) (u == prelude_unit || (nat_lt f (work_in (slice_get ps u)) || is_home_in ps u f)) e in
    grind (arith, nat_tests, l)

kept_told : (ds : List Document) (u f : ℕ) → is_told ds u f ≡ true → f ≡ kept_or (is_told ds u f) (form_count ds u) f
kept_told ds u f e = ap (λ b. kept_or b (form_count ds u) f) (sym e)

module _ (ds : List Document) where
  abbrev pub keeper : Renumbering
  keeper = record { unit = shift (suc prelude_unit); form = λ u f. kept_or (is_told ds u f) (form_count ds u) f; definition = λ u n. n }

  pub keeper_tells : HasOldNumbers keeper
  keeper_tells = record {
    unit_back = shifted_from (suc prelude_unit);
    unit_here = shift_here (suc prelude_unit);
    form_back = λ u. moved_from (is_told ds u) (form_count ds u) (λ f e. told_below ds u f e);
    form_here = λ u f. moved_here (is_told ds u) (form_count ds u) (λ f e. told_below ds u f e) f;
    definitions = λ u n. refl;
  }

  abbrev ps : List Prepared
  ps = let all = units_of ds in prepare all 0 all

  abbrev Told : ℕ → ℕ → Bool
  Told u f = u == prelude_unit || (nat_lt f (work_in (slice_get ps u)) || is_home_in ps u f)

  below_told : (u : ℕ) (p : Prepared) → u < prelude_unit → slice_get ps u ≡ Some p → (f : ℕ) → f < length p.forms → Told u f ≡ true → is_told ds u f ≡ true
  below_told u p few there f l e =
      let d : (u == prelude_unit) ≡ false = grind (arith, nat_tests, few) in
      let count : form_count ds u ≡ length p.forms = (λ j. cond (d j) 1 (forms_in (slice_get ps u))) ∙ ap forms_in there in
      let m : f < form_count ds u = omega (arith, l, count) in
      both_true (nat_lt f (form_count ds u)) (Told u f) (grind (arith, nat_tests, m)) e

  form_below : (u : ℕ) (p : Prepared) → u < prelude_unit → slice_get ps u ≡ Some p → (f : ℕ) → f < length p.forms → Told u f ≡ true → f ≡ kept_or (is_told ds u f) (form_count ds u) f
  form_below u p few there f l e = kept_told ds u f (below_told u p few there f l e)

  unit_below : (u : ℕ) → u < prelude_unit → u ≡ shift (suc prelude_unit) u
  unit_below u few = shift_stays (suc prelude_unit) u (omega (arith, few))

  module _ (i : ℕ) (p : Prepared) (there : slice_get ps i ≡ Some p) (few : i < prelude_unit) where
    at_work : (n : ℕ) (f : UnitForm) → At (forms_at_work p) n f → slice_get p.forms n ≡ Some f
    at_work n f h = go (is_part_kind p.placed.source.kind) h
      where
        go : (c : Bool) → At (cond c [] p.forms) n f → slice_get p.forms n ≡ Some f
        go true k = absurd k
        go false k = at_get p.forms n f k

    own_told : (n : ℕ) (f : UnitForm) → At (forms_at_work p) n f → Told i n ≡ true
    own_told n f at =
        let l = below (forms_at_work p) n f at in
        let a : work_in (slice_get ps i) ≡ length (forms_at_work p) = ap work_in there in
        let m : n < work_in (slice_get ps i) = omega (arith, l, a) in
        or_right (i == prelude_unit) (nat_lt n (work_in (slice_get ps i)) || is_home_in ps i n) (ap (λ b. b || is_home_in ps i n) (let z : nat_lt n (work_in (slice_get ps i)) ≡ true = grind (arith, nat_tests, m) in z))

    home_told : (n : ℕ) (f : UnitForm) → At (forms_at_work p) n f → (h : Home) → f.home ≡ Some h → Told h.unit h.form ≡ true
    home_told n f at h e =
        let is : is_at h.unit h.form f.home ≡ true = ap (is_at h.unit h.form) e ∙ both_true (h.unit == h.unit) (h.form == h.form) (eq-eqb h.unit h.unit refl) (eq-eqb h.form h.form refl) in
        let one = any_at (λ (g : UnitForm). is_at h.unit h.form g.home) (forms_at_work p) n f at is in
        let all = any_get (λ (x : Prepared). list_any (λ (g : UnitForm). is_at h.unit h.form g.home) (forms_at_work x)) ps i p there one in
        or_right (h.unit == prelude_unit) (nat_lt h.form (work_in (slice_get ps h.unit)) || is_home_in ps h.unit h.form) (or_right (nat_lt h.form (work_in (slice_get ps h.unit))) (is_home_in ps h.unit h.form) all)

    form_kept : (n : ℕ) (f : UnitForm) → slice_get p.forms n ≡ Some f → At (forms_at_work p) n f → (o : Option Home) → f.home ≡ o → let h = home_or i n f.datum o in AgreeOnForm itself keeper i n h.unit h.form
    form_kept n f here at None e =
        let own = form_below i p few there n (slice_get_within p.forms n f here) (own_told n f at) in record { form_same = own; home_unit_same = unit_below i few; home_form_same = own }
    form_kept n f here at (Some h) e =
        let homes = each_get (λ (f : UnitForm). (h : Home) → f.home ≡ Some h → IsFormOfPart ps h) p.forms (each_get _ ps (all_at_home ds) i p there) n f here in
        let k = homes h e in
        record {
          form_same = form_below i p few there n (slice_get_within p.forms n f here) (own_told n f at);
          home_unit_same = unit_below h.unit k.few;
          home_form_same = form_below h.unit k.unit k.few k.there h.form (slice_get_within k.unit.forms h.form k.form k.form_there) (home_told n f at h e);
        }

    unit_kept : p.number ≡ i → AgreeOnUnit itself keeper p
    unit_kept e = record {
      unit = subst (λ m. m ≡ shift (suc prelude_unit) m) (sym e) (unit_below i few);
      forms = λ n f at. subst (λ m. let h = home_of m n f in AgreeOnForm itself keeper m n h.unit h.form) (sym e) (form_kept n f (at_work n f at) at f.home refl);
    }

  pub keeper_keeps : AgreeOn itself keeper ds
  keeper_keeps = record {
    prelude = shift_stays (suc prelude_unit) prelude_unit (omega arith);
    prelude_form = kept_told ds prelude_unit 0 refl;
    units = each_placed _ ps (λ i p there few. let e : p.number ≡ 0 + i = numbered (units_of ds) 0 (units_of ds) i p there in let m : p.number ≡ i = omega (arith, e) in unit_kept i p there (subst (λ n. n < max_units) m few) m);
  }
