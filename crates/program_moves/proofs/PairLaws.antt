-- What pairs tell of units and forms.
use Rattle.std.proofs.Common.{◌≡◌, ◌≢◌, ◌⊎◌, ℕ, Vec, zero, suc, ◌+◌, ◌-◌, ◌<◌, ◌≤◌, ◌==◌, Bool, true, false, cond, List, [], ◌∷◌, ◌++◌, map, take, length, get_or, slice_get, Option, Some, None, refl, sym, ap, ◌∙◌, subst, inl, inr, arith}
use Rattle.std.specs.Prelude.{◌||◌}
use Rattle.std.proofs.lemmas.Bool.{cases_eq, cases_lt}
use Rattle.std.proofs.lemmas.Bool.Decides.{nat_tests}
use Rattle.std.proofs.lemmas.List.{map-append, length-take-le, take_more}
use Rattle.std.proofs.lemmas.Option.{same_Some, slice_get_within, slice_get-get_or}
use Rattle.std.specs.declared.alloc.Global.{Global}
use Rattle.scheme_model.specs.Program.{prelude_unit}
use Rattle.carried_forms.specs.Paired.{in_step, number_after, unit_after, form_after, prelude_pair}
use Rattle.carried_forms.specs.Paired as paired
use Rattle.form_pairs.specs.Found.{pair_seen}
use Rattle.form_pairs.specs.declared.pairs.UnitPair.{UnitPair}
use Rattle.moves.specs.Numbers.{moved, forms_at, IsPermutation}
use Rattle.moves.proofs.Copies.{get_taken}
use Rattle.program_moves.specs.Sent.{number_in, renumbering_of, Outside, pair_at, is_home, IsForm, IsPaired, ArePaired, AreHomes}
use Rattle.program_moves.specs.declared.tables.Home.{Home}

none_some : {A : Type 0} {P : Type 0} (x : A) → None ≡ Some x → P
none_some x h = absurd cc

test_true : (a b : ℕ) → a ≡ b → (a == b) ≡ true
test_true a b h = grind (arith, nat_tests)

test_false : (a b : ℕ) → a ≢ b → (a == b) ≡ false
test_false a b h = grind (arith, nat_tests)

-- ---- forms

-- numbers side by side: one that isn't among them gets the other number
pub after_beside : (other b a n f : ℕ) → (f < b) ⊎ (b + n ≤ f) → (qs : List (ℕ × ℕ)) → number_after other (in_step b a n ++ qs) f ≡ number_after other qs f
after_beside other b a zero f out qs = refl
after_beside other b a (suc n) f out qs =
    let ne : b ≢ f = λ e. elim out [ inl lt ↦ omega (arith, lt, e) | inr le ↦ omega (arith, le, e) ] in
    let out' : (f < suc b) ⊎ (suc b + n ≤ f) = elim out [ inl lt ↦ inl (omega (arith, lt)) | inr le ↦ inr (omega (arith, le)) ] in
    ap (λ (t : Bool). cond t a (number_after other (in_step (suc b) (suc a) n ++ qs) f)) (test_false b f ne) ∙ after_beside other (suc b) (suc a) n f out' qs

-- and one that is among them the number beside it
pub after_within : (other b a n i : ℕ) → i < n → (qs : List (ℕ × ℕ)) → number_after other (in_step b a n ++ qs) (b + i) ≡ a + i
after_within other b a zero i lt qs = absurd (omega (arith, lt))
after_within other b a (suc n) zero lt qs = ap (λ (t : Bool). cond t a (number_after other (in_step (suc b) (suc a) n ++ qs) (b + 0))) (test_true b (b + 0) (omega arith)) ∙ omega arith
after_within other b a (suc n) (suc i) lt qs =
    let ne : b ≢ b + suc i = λ e. omega (arith, e) in
    ap (λ (t : Bool). cond t a (number_after other (in_step (suc b) (suc a) n ++ qs) (b + suc i))) (test_false b (b + suc i) ne)
    ∙ ap (number_after other (in_step (suc b) (suc a) n ++ qs)) (omega arith) ∙ after_within other (suc b) (suc a) n i (omega (arith, lt)) qs ∙ omega arith

last_step : (other b a n f : ℕ) → number_after other (in_step b a n) f ≡ number_after other (in_step b a n ++ []) f
last_step other b a zero f = refl
last_step other b a (suc n) f = ap (λ (m : ℕ). cond (b == f) a m) (last_step other (suc b) (suc a) n f)

-- a form of this number, where another one would go behind all
abbrev number_in_at : UnitPair → ℕ → ℕ → ℕ
number_in_at p f g = number_after (p.forms_after + f) (pair_seen p).forms g

-- a form at the front, one at the end, and one that goes
pub number_front : (p : UnitPair) (f : ℕ) → f < p.front → number_in p f ≡ f
number_front p f lt =
    ap (number_in_at p f) (omega arith) ∙ after_within (p.forms_after + f) 0 0 p.front f lt (in_step (p.forms_before - p.end) (p.forms_after - p.end) p.end) ∙ omega arith

pub number_end : (p : UnitPair) (i : ℕ) → IsPaired p → i < p.end → number_in p (p.forms_before - p.end + i) ≡ p.forms_after - p.end + i
number_end p i h lt =
    let f = p.forms_before - p.end + i in
    after_beside (p.forms_after + f) 0 0 p.front f (inr (omega (arith, h.before))) (in_step (p.forms_before - p.end) (p.forms_after - p.end) p.end)
    ∙ last_step (p.forms_after + f) (p.forms_before - p.end) (p.forms_after - p.end) p.end f
    ∙ after_within (p.forms_after + f) (p.forms_before - p.end) (p.forms_after - p.end) p.end i lt []

pub number_other : (p : UnitPair) (f : ℕ) → p.front ≤ f → f < p.forms_before - p.end → number_in p f ≡ p.forms_after + f
number_other p f le lt =
    after_beside (p.forms_after + f) 0 0 p.front f (inr (omega (arith, le))) (in_step (p.forms_before - p.end) (p.forms_after - p.end) p.end)
    ∙ last_step (p.forms_after + f) (p.forms_before - p.end) (p.forms_after - p.end) p.end f
    ∙ after_beside (p.forms_after + f) (p.forms_before - p.end) (p.forms_after - p.end) p.end f (inl lt) []

-- ---- units

pub unit_more : (ps : List UnitPair) (p : UnitPair) (u : ℕ) → u ≢ p.before → unit_after (map pair_seen (ps ++ p ∷ [])) u ≡ unit_after (map pair_seen ps) u
unit_more [] p u ne = ap (λ (t : Bool). cond t p.after (suc prelude_unit + u)) (test_false p.before u (λ e. ne (sym e)))
unit_more (q ∷ ps) p u ne = ap (λ (n : ℕ). cond (q.before == u) q.after n) (unit_more ps p u ne)

pub unit_here : (ps : List UnitPair) (p : UnitPair) → ((i : ℕ) (q : UnitPair) → slice_get ps i ≡ Some q → q.before ≢ p.before) → unit_after (map pair_seen (ps ++ p ∷ [])) p.before ≡ p.after
unit_here [] p none = ap (λ (t : Bool). cond t p.after (suc prelude_unit + p.before)) (test_true p.before p.before refl)
unit_here (q ∷ ps) p none =
    ap (λ (t : Bool). cond t q.after (unit_after (map pair_seen (ps ++ p ∷ [])) p.before)) (test_false q.before p.before (none 0 q refl))
    ∙ unit_here ps p (λ i r at. none (suc i) r at)

-- a unit goes on by some pair, or gets a number that no unit has
pub unit_cases : (ps : List UnitPair) (u : ℕ) → ((i : ℕ) × (q : UnitPair) × (slice_get ps i ≡ Some q) × (q.before ≡ u) × (unit_after (map pair_seen ps) u ≡ q.after)) ⊎ (unit_after (map pair_seen ps) u ≡ suc prelude_unit + u)
unit_cases [] u = inr refl
unit_cases (q ∷ ps) u =
    elim (cases_eq q.before u) [
      | inl e ↦ inl (0, q, refl, e, ap (λ (t : Bool). cond t q.after (unit_after (map pair_seen ps) u)) (test_true q.before u e))
      | inr ne ↦
          let rest : unit_after (map pair_seen (q ∷ ps)) u ≡ unit_after (map pair_seen ps) u = ap (λ (t : Bool). cond t q.after (unit_after (map pair_seen ps) u)) (test_false q.before u ne) in
          elim (unit_cases ps u) [
            | inl found ↦ inl (suc found.0, found.1, found.2, found.3, rest ∙ found.4)
            | inr none ↦ inr (rest ∙ none)
          ]
    ]

-- below the prelude the numbers are those of the pairs
pub below_prelude : (ps : List UnitPair) (u : ℕ) → u < prelude_unit → (renumbering_of ps).unit u ≡ unit_after (map pair_seen ps) u
below_prelude ps u lt = ap (λ (t : Bool). cond t prelude_unit (unit_after (map pair_seen ps) u)) (test_false prelude_unit u (λ e. omega (arith, lt, e)))

pub at_prelude : (ps : List UnitPair) → (renumbering_of ps).unit prelude_unit ≡ prelude_unit
at_prelude ps = ap (λ (t : Bool). cond t prelude_unit (unit_after (map pair_seen ps) prelude_unit)) (test_true prelude_unit prelude_unit refl)

-- ---- forms of units

forms_found : (ps : List UnitPair) (u f : ℕ) (p : UnitPair) → pair_at ps u ≡ Some p → form_after (map pair_seen ps) u f ≡ number_in p f
forms_found [] u f p h = none_some p h
forms_found (q ∷ ps) u f p h =
    elim (cases_eq q.before u) [
      | inl e ↦
          let same : q ≡ p = same_Some q p (ap (λ (t : Bool). cond t (Some q) (pair_at ps u)) (sym (test_true q.before u e)) ∙ h) in
          ap (λ (t : Bool). cond t (number_in q f) (form_after (map pair_seen ps) u f)) (test_true q.before u e) ∙ ap (λ (r : UnitPair). number_in r f) same
      | inr ne ↦
          ap (λ (t : Bool). cond t (number_in q f) (form_after (map pair_seen ps) u f)) (test_false q.before u ne)
          ∙ forms_found ps u f p (ap (λ (t : Bool). cond t (Some q) (pair_at ps u)) (sym (test_false q.before u ne)) ∙ h)
    ]

forms_none : (ps : List UnitPair) (u f : ℕ) → pair_at ps u ≡ None → form_after (map pair_seen ps) u f ≡ f
forms_none [] u f h = refl
forms_none (q ∷ ps) u f h =
    elim (cases_eq q.before u) [
      | inl e ↦ none_some q (sym (ap (λ (t : Bool). cond t (Some q) (pair_at ps u)) (sym (test_true q.before u e)) ∙ h))
      | inr ne ↦
          ap (λ (t : Bool). cond t (number_in q f) (form_after (map pair_seen ps) u f)) (test_false q.before u ne)
          ∙ forms_none ps u f (ap (λ (t : Bool). cond t (Some q) (pair_at ps u)) (sym (test_false q.before u ne)) ∙ h)
    ]

not_prelude : (ps : List UnitPair) (u f : ℕ) → u < prelude_unit → (renumbering_of ps).form u f ≡ form_after (map pair_seen ps) u f
not_prelude ps u f lt = ap (λ (t : Bool). cond t (number_after (1 + f) ((0, 0) ∷ []) f) (form_after (map pair_seen ps) u f)) (test_false prelude_unit u (λ e. omega (arith, lt, e)))

pub form_found : (ps : List UnitPair) (u f : ℕ) (p : UnitPair) → u < prelude_unit → pair_at ps u ≡ Some p → (renumbering_of ps).form u f ≡ number_in p f
form_found ps u f p lt h = not_prelude ps u f lt ∙ forms_found ps u f p h

pub form_none : (ps : List UnitPair) (u f : ℕ) → u < prelude_unit → pair_at ps u ≡ None → (renumbering_of ps).form u f ≡ f
form_none ps u f lt h = not_prelude ps u f lt ∙ forms_none ps u f h

-- a pair that is found stands in the list
pub pair_there : (ps : List UnitPair) (u : ℕ) (p : UnitPair) → pair_at ps u ≡ Some p → (i : ℕ) × (slice_get ps i ≡ Some p)
pair_there [] u p h = none_some p h
pair_there (q ∷ ps) u p h =
    elim (cases_eq q.before u) [
      | inl e ↦ (0, ap (λ (t : Bool). cond t (Some q) (pair_at ps u)) (sym (test_true q.before u e)) ∙ h)
      | inr ne ↦ let r = pair_there ps u p (ap (λ (t : Bool). cond t (Some q) (pair_at ps u)) (sym (test_false q.before u ne)) ∙ h) in (suc r.0, r.1)
    ]

-- ---- the table of a unit's forms

-- behind all, then those at the front, then those at the end
module _ (p : UnitPair) (h : IsPaired p) (ns ms ks : List ℕ)
    (behind : (n : ℕ) → n < p.forms_before → moved ns n ≡ p.forms_after + n)
    (front_sent : (i : ℕ) → i < p.front → moved ms (0 + i) ≡ 0 + i)
    (front_others : (n : ℕ) → Outside 0 p.front n → Outside 0 p.front (moved ns n) → moved ms n ≡ moved ns n)
    (end_sent : (i : ℕ) → i < p.end → moved ks (p.forms_before - p.end + i) ≡ p.forms_after - p.end + i)
    (end_others : (n : ℕ) → Outside (p.forms_before - p.end) p.end n → Outside (p.forms_after - p.end) p.end (moved ms n) → moved ks n ≡ moved ms n) where
  at_front : (f : ℕ) → f < p.front → moved ks f ≡ number_in p f
  at_front f lt =
      let there : moved ms f ≡ f = ap (moved ms) (omega arith) ∙ front_sent f lt ∙ omega arith in
      end_others f (inl (omega (arith, lt, h.before))) (inl (omega (arith, lt, h.after, there))) ∙ there ∙ sym (number_front p f lt)

  goes : (f : ℕ) → p.front ≤ f → f < p.forms_before - p.end → moved ks f ≡ number_in p f
  goes f le lt =
      let first = behind f (omega (arith, lt)) in
      let then_ = front_others f (inr (omega (arith, le))) (inr (omega (arith, first, h.after))) ∙ first in
      end_others f (inl lt) (inr (omega (arith, then_, h.after))) ∙ then_ ∙ sym (number_other p f le lt)

  at_end : (f : ℕ) → p.forms_before - p.end ≤ f → f < p.forms_before → moved ks f ≡ number_in p f
  at_end f le lt =
      let i = f - (p.forms_before - p.end) in
      let below : i < p.end = omega (arith, le, lt, h.before) in
      let same : p.forms_before - p.end + i ≡ f = omega (arith, le) in
      ap (moved ks) (sym same) ∙ end_sent i below ∙ sym (number_end p i h below) ∙ ap (number_in p) same

  pub sent_forms : (f : ℕ) → f < p.forms_before → moved ks f ≡ number_in p f
  sent_forms f lt =
      elim (cases_lt f p.front) [
        | inl below ↦ at_front f below
        | inr le ↦ elim (cases_lt f (p.forms_before - p.end)) [
          | inl below ↦ goes f le below
          | inr past ↦ at_end f past lt
        ]
      ]

-- ---- the table of units

-- one pair more
module _ (ps : List UnitPair) (k : ℕ) (d : UnitPair) (paired : ArePaired ps) (within : k < length ps) where
  abbrev here : UnitPair
  here = get_or ps k d

  here_at : slice_get ps k ≡ Some here
  here_at = slice_get-get_or ps k d within

  in_front : (i : ℕ) (q : UnitPair) → slice_get (take k ps) i ≡ Some q → (i < k) × (slice_get ps i ≡ Some q)
  in_front i q at =
      let lt : i < k = omega (arith, slice_get_within (take k ps) i q at, length-take-le k ps (omega (arith, within))) in
      (lt, sym (get_taken ps k i (omega (arith, within)) lt) ∙ at)

  new_here : (renumbering_of (take (k + 1) ps)).unit here.before ≡ here.after
  new_here =
      below_prelude (take (k + 1) ps) here.before (paired.before k here here_at)
      ∙ ap (λ (qs : List UnitPair). unit_after (map pair_seen qs) here.before) (take_more ps k d within)
      ∙ unit_here (take k ps) here (λ i q at same. let f = in_front i q at in omega (arith, f.0, paired.apart_before i k q here f.1 here_at same))

  new_other : (u : ℕ) → u ≤ prelude_unit → u ≢ here.before → (renumbering_of (take (k + 1) ps)).unit u ≡ (renumbering_of (take k ps)).unit u
  new_other u le ne =
      elim (cases_eq u prelude_unit) [
        | inl e ↦ ap (renumbering_of (take (k + 1) ps)).unit e ∙ at_prelude (take (k + 1) ps) ∙ sym (ap (renumbering_of (take k ps)).unit e ∙ at_prelude (take k ps))
        | inr off ↦
            let lt : u < prelude_unit = omega (arith, le, off) in
            below_prelude (take (k + 1) ps) u lt ∙ ap (λ (qs : List UnitPair). unit_after (map pair_seen qs) u) (take_more ps k d within)
            ∙ unit_more (take k ps) here u ne ∙ sym (below_prelude (take k ps) u lt)
      ]

  elsewhere : (u : ℕ) → u ≤ prelude_unit → (renumbering_of (take k ps)).unit u ≢ here.after
  elsewhere u le same =
      elim (cases_eq u prelude_unit) [
        | inl e ↦ omega (arith, paired.after k here here_at, same, ap (renumbering_of (take k ps)).unit e ∙ at_prelude (take k ps))
        | inr off ↦
            let lt : u < prelude_unit = omega (arith, le, off) in
            elim (unit_cases (take k ps) u) [
              | inl found ↦
                  let f = in_front found.0 found.1 found.2 in
                  let after : found.1.after ≡ here.after = sym found.4 ∙ sym (below_prelude (take k ps) u lt) ∙ same in
                  omega (arith, f.0, paired.apart_after found.0 k found.1 here f.1 here_at after)
              | inr none ↦ omega (arith, paired.after k here here_at, same, below_prelude (take k ps) u lt, none)
            ]
      ]

  pub pairs_step : (ns ms : List ℕ) → ((u : ℕ) → u ≤ prelude_unit → moved ns u ≡ (renumbering_of (take k ps)).unit u) → moved ms here.before ≡ here.after →
      ((n : ℕ) → n ≢ here.before → moved ns n ≢ here.after → moved ms n ≡ moved ns n) → (u : ℕ) → u ≤ prelude_unit → moved ms u ≡ (renumbering_of (take (k + 1) ps)).unit u
  pairs_step ns ms so_far sent others u le =
      elim (cases_eq u here.before) [
        | inl e ↦ ap (moved ms) e ∙ sent ∙ sym (ap (renumbering_of (take (k + 1) ps)).unit e ∙ new_here)
        | inr ne ↦ others u ne (λ same. elsewhere u le (sym (so_far u le) ∙ same)) ∙ so_far u le ∙ sym (new_other u le ne)
      ]

-- a unit that isn't a home is none of them
pub not_home : (hs : List Home) (u k : ℕ) (h : Home) → is_home hs u ≡ false → slice_get hs k ≡ Some h → u ≢ h.before
not_home [] u k h none at = none_some h at
not_home (g ∷ hs) u zero h none at =
    let same : g ≡ h = same_Some g h at in
    λ e. first_of (g.before == u) (is_home hs u) (test_true g.before u (ap (λ (x : Home). x.before) same ∙ sym e)) none
  where
    first_of : (a b : Bool) → a ≡ true → (a || b) ≡ false → ⊥
    first_of true b e f = absurd cc
    first_of false b e f = absurd cc
not_home (g ∷ hs) u (suc k) h none at = not_home hs u k h (rest_false (g.before == u) (is_home hs u) none) at
  where
    rest_false : (a b : Bool) → (a || b) ≡ false → b ≡ false
    rest_false true b f = absurd cc
    rest_false false b f = f

-- one home more
module _ (ps : List UnitPair) (hs : List Home) (k : ℕ) (d : Home) (homes : AreHomes ps hs) (within : k < length hs) where
  abbrev home : Home
  home = get_or hs k d

  home_at : slice_get hs k ≡ Some home
  home_at = slice_get-get_or hs k d within

  module _ (ns ms : List ℕ) (sent : moved ms home.before ≡ home.after) (others : (n : ℕ) → n ≢ home.before → moved ns n ≢ home.after → moved ms n ≡ moved ns n) where
    pub homes_step : ((i : ℕ) (g : Home) → i < k → slice_get hs i ≡ Some g → moved ns g.before ≡ g.after) → (i : ℕ) (g : Home) → i < k + 1 → slice_get hs i ≡ Some g → moved ms g.before ≡ g.after
    homes_step so_far i g lt at =
        elim (cases_eq i k) [
          | inl e ↦
              let same : g ≡ home = same_Some g home (sym at ∙ ap (slice_get hs) e ∙ home_at) in
              ap (λ (x : Home). moved ms x.before) same ∙ sent ∙ sym (ap (λ (x : Home). x.after) same)
          | inr ne ↦
              let before = so_far i g (omega (arith, lt, ne)) at in
              others g.before (λ e. ne (homes.apart_before i k g home at home_at e)) (λ e. ne (homes.apart_after i k g home at home_at (sym before ∙ e))) ∙ before
        ]

    pub others_step : ((u : ℕ) → u ≤ prelude_unit → is_home hs u ≡ false → moved ns u ≡ (renumbering_of ps).unit u) → (u : ℕ) → u ≤ prelude_unit → is_home hs u ≡ false → moved ms u ≡ (renumbering_of ps).unit u
    others_step so_far u le none =
        let apart = not_home hs u k home none home_at in
        others u apart (λ e. apart (homes.alone k home home_at u le (sym (so_far u le none) ∙ e))) ∙ so_far u le none

-- ---- the tables of all units' forms

pub forms_more : (fs : List (Vec ℕ Global)) (v : Vec ℕ Global) (u : ℕ) → u < length fs → forms_at (fs ++ v ∷ []) u ≡ forms_at fs u
forms_more [] v u lt = absurd (omega (arith, lt))
forms_more (w ∷ fs) v zero lt = refl
forms_more (w ∷ fs) v (suc u) lt = forms_more fs v u (omega (arith, lt))

pub forms_last : (fs : List (Vec ℕ Global)) (v : Vec ℕ Global) → forms_at (fs ++ v ∷ []) (length fs) ≡ v.items
forms_last [] v = refl
forms_last (w ∷ fs) v = forms_last fs v

-- what holds of each table so far, and of one more, holds of all
pub forms_step : (P : ℕ → List ℕ → Type 0) (fs : List (Vec ℕ Global)) (v : Vec ℕ Global) (n : ℕ) → length fs ≡ n → ((u : ℕ) → u < n → P u (forms_at fs u)) → P n v.items →
    (u : ℕ) → u < n + 1 → P u (forms_at (fs ++ v ∷ []) u)
forms_step P fs v n len so_far last u lt =
    elim (cases_eq u n) [
      | inl e ↦ subst (λ (m : ℕ). P m (forms_at (fs ++ v ∷ []) m)) (len ∙ sym e) (subst (P (length fs)) (sym (forms_last fs v)) (subst (λ (m : ℕ). P m v.items) (sym len) last))
      | inr ne ↦ subst (P u) (sym (forms_more fs v u (omega (arith, lt, ne, len)))) (so_far u (omega (arith, lt, ne)))
    ]
