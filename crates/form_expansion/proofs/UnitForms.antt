-- The forms of a unit by their numbers: what they count together, and what the unit comes to.
use Rattle.std.proofs.Common.{◌≡◌, ℕ, suc, ◌+◌, ◌≤◌, ◌<◌, List, [], ◌∷◌, ◌++◌, Bool, true, false, cond, refl, sym, ap, ◌∙◌, inl, inr, arith}
use Rattle.scheme_model.specs.DataTrees.{tree_of}
use Rattle.scheme_model.specs.Trees.{placed_by}
use Rattle.scheme_model.specs.Order.{Ops}
use Rattle.scheme_model.specs.Requirements.{Known}
use Rattle.scheme_model.specs.CountedExpansion.{counted}
use Rattle.scheme_model.specs.ScopedExpansion.{ScopedState}
use Rattle.scheme_model.specs.Declarations.{UnitForm, home_of}
use Rattle.scheme_model.specs.ScopedProgram.{forms_over}
use Rattle.scheme_model.specs.UnitExpansion.{nodes_in}
use Rattle.macro_uses.specs.MacroUses.{total_of}
use Rattle.unit_scopes.specs.Searched.{searched}
use Rattle.form_expansion.specs.Ends.{numbers_of, Rise, IsAmong}

-- ---- numbers

pub rise_from : (n m : ℕ) (fs : List ℕ) → n ≤ m → Rise m fs → Rise n fs
rise_from n m [] le h = tt
rise_from n m (f ∷ fs) le h = (let low : m ≤ f = h.0 in omega (arith, le, low), h.1)

pub forms_rise : {A : Type 0} (written : List ℕ → A) (u n : ℕ) (fs : List UnitForm) → Rise n (numbers_of (forms_over written u n fs))
forms_rise {A} written u n [] = tt
forms_rise {A} written u n (f ∷ fs) = go f.declared (forms_rise written u (suc n) fs)
  where
    go : (b : Bool) → Rise (suc n) (numbers_of (forms_over written u (suc n) fs)) →
        Rise n (numbers_of (cond b (forms_over written u (suc n) fs) ((n, tree_of written (placed_by (home_of u n f)) f.datum) ∷ forms_over written u (suc n) fs)))
    go true later = rise_from n (suc n) (numbers_of (forms_over written u (suc n) fs)) (omega arith) later
    go false later = (omega arith, later)

-- one of those that rise is no less than where they begin
behind : (n : ℕ) (fs : List ℕ) {form : ℕ} → Rise n fs → IsAmong form fs → n ≤ form
behind n [] h in_ = absurd in_
behind n (f ∷ fs) h in_ = elim in_ [
  | inl same ↦ let le : n ≤ f = h.0 in omega (arith, le, same)
  | inr later ↦ let le : n ≤ f = h.0 in let low = behind (suc f) fs h.1 later in omega (arith, le, low)
]

-- a number between others
pub among : {X : Type 0} (front rest : List (ℕ × X)) (r : ℕ × X) → IsAmong r.0 (numbers_of (front ++ r ∷ rest))
among [] rest r = inl refl
among (q ∷ front) rest r = inr (among front rest r)

-- ---- what forms count together

pub none_total : (u : ℕ → ℕ) → ((m : ℕ) → u m ≡ 0) → (fs : List ℕ) → total_of u fs ≡ 0
none_total u none [] = refl
none_total u none (f ∷ fs) = let a = none f in let b = none_total u none fs in omega (arith, a, b)

same_total : (u v : ℕ → ℕ) → ((m : ℕ) → v m ≡ u m) → (fs : List ℕ) → total_of v fs ≡ total_of u fs
same_total u v same [] = refl
same_total u v same (f ∷ fs) = let a = same f in let b = same_total u v same fs in omega (arith, a, b)

module _ (form : ℕ) (u v : ℕ → ℕ) (others : (m : ℕ) → (m ≡ form → ⊥) → v m ≡ u m) where
  -- those behind a form
  apart_total : (n : ℕ) (fs : List ℕ) → form < n → Rise n fs → total_of v fs ≡ total_of u fs
  apart_total n [] low h = refl
  apart_total n (f ∷ fs) low h =
      let le : n ≤ f = h.0 in
      let a = others f (λ same. omega (arith, low, le, same)) in let b = apart_total (suc f) fs (omega (arith, low, le)) h.1 in omega (arith, a, b)

  -- a step of one form counts what that form counts more
  pub step_total : (n : ℕ) (fs : List ℕ) → Rise n fs → IsAmong form fs → total_of v fs + u form ≡ total_of u fs + v form
  step_total n [] h in_ = absurd in_
  step_total n (f ∷ fs) h in_ = elim in_ [
    | inl same ↦
        let b : total_of v fs ≡ total_of u fs = apart_total (suc f) fs (omega (arith, same)) h.1 in
        let here : v f ≡ v form = ap v same in
        let was : u f ≡ u form = ap u same in
        omega (arith, b, here, was)
    | inr later ↦
        let low = behind (suc f) fs h.1 later in
        let a = others f (λ same. omega (arith, low, same)) in let b = step_total (suc f) fs h.1 later in omega (arith, a, b)
  ]

-- ---- nodes

module _ {E A L S : Type 0} (ops : Ops E A L S) where
  abbrev pub nodes_at : ℕ → S → ℕ
  nodes_at m s = (ops.counted (ops.turn m s)).nodes

  nodes_are : (s : S) (fs : List ℕ) → nodes_in ops fs s ≡ total_of (λ m. nodes_at m s) fs
  nodes_are s [] = refl
  nodes_are s (f ∷ fs) = ap (λ n. nodes_at f s + n) (nodes_are s fs)

  pub none_counted : (s : S) → ((m : ℕ) → nodes_at m s ≡ 0) → (fs : List ℕ) → nodes_in ops fs s ≡ 0
  none_counted s none fs = nodes_are s fs ∙ none_total (λ m. nodes_at m s) none fs

  pub same_counted : (s t : S) → ((m : ℕ) → nodes_at m t ≡ nodes_at m s) → (fs : List ℕ) → nodes_in ops fs t ≡ nodes_in ops fs s
  same_counted s t same fs = nodes_are t fs ∙ same_total (λ m. nodes_at m s) (λ m. nodes_at m t) same fs ∙ sym (nodes_are s fs)

  -- a step of one form counts what that form counts more
  pub step_counted : (form : ℕ) (s t : S) → ((m : ℕ) → (m ≡ form → ⊥) → nodes_at m t ≡ nodes_at m s) → (n : ℕ) (fs : List ℕ) → Rise n fs → IsAmong form fs → nodes_in ops fs t + nodes_at form s ≡ nodes_in ops fs s + nodes_at form t
  step_counted form s t others n fs h in_ =
      let a = nodes_are s fs in let b = nodes_are t fs in
      let c = step_total form (λ m. nodes_at m s) (λ m. nodes_at m t) others n fs h in_ in omega (arith, a, b, c)

-- both count alike
pub counted_alike : (known : Known) (s : ScopedState) (fs : List ℕ) → nodes_in (searched known) fs s ≡ nodes_in (counted known) fs s
counted_alike known s [] = refl
counted_alike known s (f ∷ fs) = ap (λ n. nodes_at (counted known) f s + n) (counted_alike known s fs)
