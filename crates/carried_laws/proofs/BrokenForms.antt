-- A form that is broken when it is gone through uses no macro later: what is kept of it says how many it has used.
use Rattle.std.proofs.Common.{◌≡◌, ◌⊎◌, inl, inr, ℕ, ◌≤◌, List, [], ◌∷◌, Bool, true, false, cond, Option, Some, None, Result, Err, refl, sym, ap, ◌∙◌, subst, arith}
use Rattle.std.specs.Prelude.{nat_lt}
use Rattle.scheme_model.specs.Ident.{Ident}
use Rattle.scheme_model.specs.Requirements.{Known}
use Rattle.scheme_model.specs.Cores.{Parts}
use Rattle.scheme_model.specs.Steps.{Broken}
use Rattle.scheme_model.specs.Order.{Note, Left, Pass}
use Rattle.scheme_model.specs.UnitExpansion.{Formed, ◌then◌, going, max_total, nodes_in, unless_over}
use Rattle.scheme_model.specs.ScopedExpansion.{FramedIdent, ScopedState}
use Rattle.scheme_model.specs.CountedExpansion.{counted}
use Rattle.scheme_model.specs.Questions.{Around}
use Rattle.scheme_model.specs.FormsAlike.{left_with, or_fault}
use Rattle.model_laws.proofs.UnitEnds.{OnWork}
use Rattle.form_laws.specs.Begins.{Each}
use Rattle.form_laws.proofs.Leaving.{at_here}
use Rattle.kept_forms.specs.KeptForms.{KeptParts, KeptForm, FormOrKept, around_form, goes_through, LeftOrKept, rest_kept, passes_keeping, comes_to, finished_keeping, numbers_of, unit_keeping, counts_at, moved_to}
use Rattle.kept_forms.specs.Carried.{FormFits, Onwards}
use Rattle.kept_forms.proofs.OneSide.{then_keeps}
use Rattle.kept_forms.proofs.UsesCounted.{pass_others, rest_others, Not, Distinct, of_form, of_left, passes_others, rests_others}
use Rattle.kept_forms.proofs.Ready.{Ready, passes_ready}

-- ---- where it stands

-- of the form with number g this is kept
abbrev pub KeptAt : ℕ → KeptForm → List FormOrKept → Type 0
KeptAt g k [] = ⊥
KeptAt g k (x ∷ xs) = ((x.form ≡ g) × (x.kept ≡ Some k)) ⊎ KeptAt g k xs

-- nothing is left of it
abbrev BrokenAt : ℕ → List LeftOrKept → Type 0
BrokenAt g [] = ⊥
BrokenAt g (r ∷ rs) = ((r.form ≡ g) × (e : Broken) × (r.left ≡ Err e)) ⊎ BrokenAt g rs

not_broken : (h g : ℕ) (rs : List LeftOrKept) → Not of_left h rs → BrokenAt g rs → h ≡ g → ⊥
not_broken h g [] n b e = b
not_broken h g (r ∷ rs) n (inl b) e = n.0 (e ∙ sym b.0)
not_broken h g (r ∷ rs) n (inr b) e = not_broken h g rs n.1 b e

not_kept_at : (h g : ℕ) (k : KeptForm) (xs : List FormOrKept) → Not of_form h xs → KeptAt g k xs → h ≡ g → ⊥
not_kept_at h g k [] n b e = b
not_kept_at h g k (x ∷ xs) n (inl b) e = n.0 (e ∙ sym b.0)
not_kept_at h g k (x ∷ xs) n (inr b) e = not_kept_at h g k xs n.1 b e

module _ (known : Known) (turns : ℕ) (fs : List ℕ) (g : ℕ) where
  -- ---- what others set aside is expanded

  came_to_none : (v : Around) (r : Result (Left Ident) Broken) (e : Broken) (o : Option KeptParts) → r ≡ Err e → (comes_to v turns fs r o).1.uses g ≡ v.state.uses g
  came_to_none v r e None h = ap (λ z. (comes_to v turns fs z None).1.uses g) h
  came_to_none v r e (Some k) h = ap (λ z. (comes_to v turns fs z (Some k)).1.uses g) h

  finish_one : (rs : List LeftOrKept) (s : ScopedState) → Distinct of_left rs → BrokenAt g rs → (finished_keeping known turns fs rs s).1.uses g ≡ s.uses g
  finish_one [] s d b = absurd b
  finish_one (r ∷ rs) s d b =
      let v = around_form known r.form [] s in
      let I : ScopedState → Type 0 = λ (t : ScopedState). t.uses g ≡ s.uses g in
      let go : Result Parts Broken → ScopedState → Option (List Formed) × ScopedState = λ p t. finished_keeping known turns fs rs t then λ rest. going (record { form = r.form; result = p; counted = (counted known).counted t } ∷ rest) in
      then_keeps known I (comes_to v turns fs r.left r.kept) go (first b)
      (λ p t e. then_keeps known I (finished_keeping known turns fs rs t) (λ rest. going (record { form = r.form; result = p; counted = (counted known).counted t } ∷ rest)) (more t (λ c. finish_one rs t d.1 c) b ∙ e) (λ rest u k. k))
    where
      first : BrokenAt g (r ∷ rs) → (comes_to (around_form known r.form [] s) turns fs r.left r.kept).1.uses g ≡ s.uses g
      first (inl b) = came_to_none (around_form known r.form [] s) r.left b.1 r.kept b.2
      first (inr b) = rest_others (around_form known r.form [] s) turns fs r.left r.kept g (λ e. not_broken r.form g rs d.0 b (sym e))

      more : (t : ScopedState) → (BrokenAt g rs → (finished_keeping known turns fs rs t).1.uses g ≡ t.uses g) → BrokenAt g (r ∷ rs) → (finished_keeping known turns fs rs t).1.uses g ≡ t.uses g
      more t law (inl b) = rests_others known turns fs g rs t (subst (λ h. Not of_left h rs) b.0 d.0)
      more t law (inr b) = law b

  -- ---- the forms are gone through

  module _ (k : KeptForm) (e : Broken) (broken : k.aside.pass.left ≡ Err e) where
    abbrev Within : ScopedState → Type 0
    Within t = t.uses g ≤ k.aside.moment.uses

    still_broken : (v : Around) (x : FormOrKept) → x.kept ≡ Some k → (d : Broken) × ((goes_through v turns x.tree x.kept).0.left ≡ Err d)
    still_broken v x h = (e, ap (λ o. (goes_through v turns x.tree o).0.left) h ∙ ap (or_fault (left_with (moved_to v k.aside.before))) broken)

    -- it has used what is kept
    here : (v : Around) (x : FormOrKept) → v.state.form ≡ g → x.kept ≡ Some k → (goes_through v turns x.tree x.kept).1.uses g ≡ k.aside.moment.uses
    here v x f h =
        ap (λ o. (goes_through v turns x.tree o).1.uses g) h ∙ ap (λ n. (goes_through v turns x.tree (Some k)).1.uses n) (sym f) ∙ at_here v.state.form v.state.uses k.aside.moment.uses

    record Passed (q : Option (List LeftOrKept) × ScopedState) : Type 0 where
      within : Within q.1
      left : Onwards (λ rs u. BrokenAt g rs) q

    behind : (r : LeftOrKept) (u : Option (List LeftOrKept) × ScopedState) → Within u.1 → ((rs : List LeftOrKept) (t : ScopedState) → u ≡ (Some rs, t) → BrokenAt g (r ∷ rs)) → Passed (u then λ rest. going (r ∷ rest))
    behind r (None, t) w h = record { within = w; left = tt }
    behind r (Some rs, t) w h = record { within = w; left = h rs t refl }

    onwards_at : (P : List LeftOrKept → Type 0) (u : Option (List LeftOrKept) × ScopedState) → Onwards (λ rs t. P rs) u → (rs : List LeftOrKept) (t : ScopedState) → u ≡ (Some rs, t) → P rs
    onwards_at P u h rs t d = subst (Onwards (λ rs t. P rs)) d h

    over : (q : Pass Ident FramedIdent × ScopedState) (f : Pass Ident FramedIdent → ScopedState → Option (List LeftOrKept) × ScopedState) → Within q.1 → Passed (f q.0 q.1) → Passed (unless_over (counted known) fs q then f)
    over q f w h = go (nat_lt max_total (nodes_in (counted known) fs q.1))
      where
        go : (b : Bool) → Passed (cond {A = Option (Pass Ident FramedIdent) × ScopedState} b (None, q.1) (Some q.0, q.1) then f)
        go true = record { within = w; left = tt }
        go false = h

    pass_one : (xs : List FormOrKept) (ns : List (Note FramedIdent)) (s : ScopedState) → Distinct of_form xs → KeptAt g k xs → s.uses g ≡ 0 → Passed (passes_keeping known turns fs xs ns s)
    pass_one [] ns s d h z = absurd h
    pass_one (x ∷ xs) ns s d (inl c) z =
        let v = around_form known x.form ns s in
        let q = goes_through v turns x.tree x.kept in
        let used = here v x c.0 c.1 in
        let u = passes_keeping known turns fs xs q.0.notes q.1 in
        let later : u.1.uses g ≡ q.1.uses g = passes_others known turns fs g xs q.0.notes q.1 (subst (λ m. Not of_form m xs) c.0 d.0) in
        over q (λ p t. passes_keeping known turns fs xs p.notes t then λ rest. going (record { form = x.form; counts = counts_at x.form t; left = p.left; kept = rest_kept v x.kept } ∷ rest)) (omega (arith, used))
        (behind (record { form = x.form; counts = counts_at x.form q.1; left = q.0.left; kept = rest_kept v x.kept }) u (omega (arith, used, later)) (λ rs t y. (let b = still_broken v x c.1 in inl (c.0, b.0, b.1))))
    pass_one (x ∷ xs) ns s d (inr c) z =
        let v = around_form known x.form ns s in
        let q = goes_through v turns x.tree x.kept in
        let still : q.1.uses g ≡ s.uses g = pass_others v turns x.tree x.kept g (λ y. not_kept_at x.form g k xs d.0 c (sym y)) in
        let u = passes_keeping known turns fs xs q.0.notes q.1 in
        let law = pass_one xs q.0.notes q.1 d.1 c (still ∙ z) in
        over q (λ p t. passes_keeping known turns fs xs p.notes t then λ rest. going (record { form = x.form; counts = counts_at x.form t; left = p.left; kept = rest_kept v x.kept } ∷ rest)) (omega (arith, still, z))
        (behind (record { form = x.form; counts = counts_at x.form q.1; left = q.0.left; kept = rest_kept v x.kept }) u law.within (λ rs t y. inr (onwards_at (λ ts. BrokenAt g ts) u law.left rs t y)))

-- ---- the unit

pub broken_uses : (known : Known) (turns : ℕ) (xs : List FormOrKept) (s : ScopedState) (g : ℕ) (k : KeptForm) (e : Broken) → k.aside.pass.left ≡ Err e → Distinct of_form xs → Each (λ (x : FormOrKept). FormFits x.kept) xs → KeptAt g k xs → s.uses g ≡ 0
    → (unit_keeping known turns xs s).1.uses g ≤ k.aside.moment.uses
broken_uses known turns xs s g k e broken d f h z =
    let fs = numbers_of xs in
    let p = pass_one known turns fs g k e broken xs [] s d h z in
    go (passes_keeping known turns fs xs [] s) p.within p.left (passes_ready known turns fs xs [] s d f)
  where
    go : (q : Option (List LeftOrKept) × ScopedState) → q.1.uses g ≤ k.aside.moment.uses → Onwards (λ rs u. BrokenAt g rs) q → OnWork (λ t. Unit {0}) (λ t rs. Distinct of_left rs × Ready t rs) q → (q then finished_keeping known turns (numbers_of xs)).1.uses g ≤ k.aside.moment.uses
    go (None, t) w b r = w
    go (Some rs, t) w b r = let same = finish_one known turns (numbers_of xs) g rs t r.0 b in omega (arith, same, w)
