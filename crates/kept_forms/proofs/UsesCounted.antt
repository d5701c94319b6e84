-- Each form of a unit counts its own macro uses alone, and never fewer.
use Rattle.std.proofs.Common.{◌≡◌, ℕ, suc, ◌≤◌, List, [], ◌∷◌, Option, Some, None, Result, Ok, Err, refl, sym, ap, ◌∙◌, subst}
use Rattle.scheme_model.specs.Ident.{Ident}
use Rattle.scheme_model.specs.Trees.{Tree}
use Rattle.scheme_model.specs.Requirements.{Known}
use Rattle.scheme_model.specs.Cores.{Target, MacroUse}
use Rattle.scheme_model.specs.Steps.{Broken}
use Rattle.scheme_model.specs.Order.{Left, Note}
use Rattle.scheme_model.specs.UnitExpansion.{◌then◌, going, unless_over, before_parts}
use Rattle.scheme_model.specs.Substitution.{at_form}
use Rattle.scheme_model.specs.ScopedExpansion.{Frames, FramedIdent, ScopedState}
use Rattle.scheme_model.specs.CountedExpansion.{counted}
use Rattle.scheme_model.specs.Questions.{Moment, Around}
use Rattle.scheme_model.specs.FormsAlike.{again}
use Rattle.scheme_model.proofs.OpenBodies.{Leq}
use Rattle.scheme_model.proofs.Clocks.{leq_itself, leq_then, leq_counted}
use Rattle.model_laws.proofs.FrameAsks.{AllOf}
use Rattle.form_laws.proofs.Leaving.{at_here}
use Rattle.kept_forms.specs.KeptForms.{KeptItem, KeptParts, KeptForm, FormOrKept, around_form, goes_through, LeftOrKept, rest_kept, passes_keeping, put_items, comes_to, finished_keeping, counts_at}
use Rattle.kept_forms.specs.Carried.{only_counted}
use Rattle.form_laws.specs.Begins.{BindsInUnit}
use Rattle.kept_forms.proofs.OneSide.{over_keeps, then_keeps, before_keeps, run_keeps, parts_keep, at_other, OthersStay, DefinesMore}

-- a form at work has counted no fewer uses since it began, and the other forms have counted what they had
abbrev CountsOn : ScopedState → ScopedState → Type 0
CountsOn old s = (s.form ≡ old.form) × Leq old.uses s.uses × ((g : ℕ) → (g ≡ old.form → ⊥) → counts_at g s ≡ counts_at g old)

begun_counts : (known : Known) (old : ScopedState) (fs : Frames) (s : ScopedState) → CountsOn old s → CountsOn old ((counted known).begin_use fs s)
begun_counts known old fs s h = (
  h.0,
  leq_then old.uses s.uses (at_form s.form suc s.uses) h.1 (leq_counted s.form s.uses),
  λ g ne. ap (λ m. record (counts_at g s) { uses = m }) (at_other s.form g suc s.uses (λ e. ne (e ∙ h.0))) ∙ h.2 g ne,
)

still_counts : (old s t : ScopedState) → t.unit ≡ s.unit → t.form ≡ s.form → t.uses ≡ s.uses → t.places ≡ s.places → OthersStay s t → DefinesMore s t → CountsOn old s → CountsOn old t
still_counts old s t unit same uses places others more h = (same ∙ h.0, subst (Leq old.uses) (sym uses) h.1, λ g ne. others g (λ e. ne (e ∙ h.0)) ∙ h.2 g ne)

counts_itself : (s : ScopedState) → CountsOn s s
counts_itself s = (refl, leq_itself s.uses, λ g ne. refl)

-- ---- one form

abbrev counts_of : ℕ → ℕ → ℕ → ℕ → List Target → List MacroUse → Moment
counts_of locals uses nodes bodies keywords met = record { locals = locals; uses = uses; nodes = nodes; bodies = bodies; keywords = keywords; met = met; table = []; macros = []; places = []; definitions = [] }

module _ (v : Around) where
  pub counts_here : (m : Moment) → counts_at v.state.form (again v m) ≡ only_counted m
  counts_here m =
      let f = v.state.form in
      let a = at_here f v.state.locals m.locals in let b = at_here f v.state.uses m.uses in let c = at_here f v.state.nodes m.nodes in
      let d = at_here f v.state.bodies m.bodies in let x = at_here f v.state.keywords m.keywords in let y = at_here f v.state.met m.met in
      λ j. counts_of (a j) (b j) (c j) (d j) (x j) (y j)

  counts_there : (m : Moment) (g : ℕ) → (g ≡ v.state.form → ⊥) → counts_at g (again v m) ≡ counts_at g v.state
  counts_there m g ne =
      let f = v.state.form in
      let a = at_other f g (λ x. m.locals) v.state.locals ne in let b = at_other f g (λ x. m.uses) v.state.uses ne in let c = at_other f g (λ x. m.nodes) v.state.nodes ne in
      let d = at_other f g (λ x. m.bodies) v.state.bodies ne in let x = at_other f g (λ z. m.keywords) v.state.keywords ne in let y = at_other f g (λ z. m.met) v.state.met ne in
      λ j. counts_of (a j) (b j) (c j) (d j) (x j) (y j)

module _ (v : Around) (turns : ℕ) where
  abbrev Others : ScopedState → Type 0
  Others t = (g : ℕ) → (g ≡ v.state.form → ⊥) → counts_at g t ≡ counts_at g v.state

  pub pass_counts : (t : Tree Ident) (o : Option KeptForm) → Others (goes_through v turns t o).1
  pass_counts t None = (run_keeps v.known (CountsOn v.state) (begun_counts v.known v.state) (still_counts v.state) BindsInUnit (λ s h. tt) turns t v.notes v.state (counts_itself v.state)).0.2
  pass_counts t (Some k) = counts_there v k.aside.moment

  pub pass_others : (t : Tree Ident) (o : Option KeptForm) (g : ℕ) → (g ≡ v.state.form → ⊥) → (goes_through v turns t o).1.uses g ≡ v.state.uses g
  pass_others t o g ne = ap (λ (m : Moment). m.uses) (pass_counts t o g ne)

  module _ (fs : List ℕ) where
    anew_counts : (r : Result (Left Ident) Broken) → CountsOn v.state (comes_to v turns fs r None).1
    anew_counts r = parts_keep v.known (CountsOn v.state) (begun_counts v.known v.state) (still_counts v.state) BindsInUnit (λ s h. tt) turns fs r v.state (counts_itself v.state)

    put_others : (ks : List KeptItem) (s : ScopedState) → Others s → Others (put_items v fs ks s).1
    put_others [] s h = h
    put_others (k ∷ ks) s h =
        then_keeps v.known Others (unless_over (counted v.known) fs (k.part, again v k.moment)) (before_parts (put_items v fs ks)) (over_keeps v.known Others fs (k.part, again v k.moment) (counts_there v k.moment))
        (λ p t e. before_keeps v.known Others (put_items v fs ks) (λ u b. put_others ks u b) p t e)

    pub rest_counts : (r : Result (Left Ident) Broken) (o : Option KeptParts) → Others (comes_to v turns fs r o).1
    rest_counts r None = (anew_counts r).2
    rest_counts (Err e) (Some k) = λ g ne. refl
    rest_counts (Ok l) (Some k) = put_others k.items (again v k.met) (counts_there v k.met)

    pub rest_others : (r : Result (Left Ident) Broken) (o : Option KeptParts) (g : ℕ) → (g ≡ v.state.form → ⊥) → (comes_to v turns fs r o).1.uses g ≡ v.state.uses g
    rest_others r o g ne = ap (λ (m : Moment). m.uses) (rest_counts r o g ne)

    pub rest_more : (r : Result (Left Ident) Broken) → v.state.uses v.state.form ≤ (comes_to v turns fs r None).1.uses v.state.form
    rest_more r = (anew_counts r).1 v.state.form

  put_form : (fs : List ℕ) (ks : List KeptItem) (s : ScopedState) → s.form ≡ v.state.form → (put_items v fs ks s).1.form ≡ v.state.form
  put_form fs [] s h = h
  put_form fs (k ∷ ks) s h =
      let I : ScopedState → Type 0 = λ (t : ScopedState). t.form ≡ v.state.form in
      then_keeps v.known I (unless_over (counted v.known) fs (k.part, again v k.moment)) (before_parts (put_items v fs ks)) (over_keeps v.known I fs (k.part, again v k.moment) refl)
      (λ p t e. before_keeps v.known I (put_items v fs ks) (λ u b. put_form fs ks u b) p t e)

  -- it is still at work
  pub rest_form : (fs : List ℕ) (r : Result (Left Ident) Broken) (o : Option KeptParts) → (comes_to v turns fs r o).1.form ≡ v.state.form
  rest_form fs r None = (anew_counts fs r).0
  rest_form fs (Err e) (Some k) = refl
  rest_form fs (Ok l) (Some k) = put_form fs k.items (again v k.met) refl

-- ---- forms that aren't among these

abbrev pub Not : {X : Type 0} → (X → ℕ) → ℕ → List X → Type 0
Not number g xs = AllOf (λ x. g ≡ number x → ⊥) xs

abbrev pub Distinct : {X : Type 0} → (X → ℕ) → List X → Type 0
Distinct number [] = Unit {0}
Distinct number (x ∷ xs) = Not number (number x) xs × Distinct number xs

abbrev pub of_form : FormOrKept → ℕ
of_form x = x.form

abbrev pub of_left : LeftOrKept → ℕ
of_left r = r.form

module _ (known : Known) (turns : ℕ) (fs : List ℕ) (g : ℕ) where
  pub passes_counts : (xs : List FormOrKept) (ns : List (Note FramedIdent)) (s : ScopedState) → Not of_form g xs → counts_at g (passes_keeping known turns fs xs ns s).1 ≡ counts_at g s
  passes_counts [] ns s h = refl
  passes_counts (x ∷ xs) ns s h =
      let v = around_form known x.form ns s in let q = goes_through v turns x.tree x.kept in
      let I : ScopedState → Type 0 = λ (t : ScopedState). counts_at g t ≡ counts_at g s in
      then_keeps known I (unless_over (counted known) fs q)
      (λ p t. passes_keeping known turns fs xs p.notes t then λ rest. going (record { form = x.form; counts = counts_at x.form t; left = p.left; kept = rest_kept v x.kept } ∷ rest))
      (over_keeps known I fs q (pass_counts v turns x.tree x.kept g h.0))
      (λ p t e. then_keeps known I (passes_keeping known turns fs xs p.notes t) (λ rest. going (record { form = x.form; counts = counts_at x.form t; left = p.left; kept = rest_kept v x.kept } ∷ rest)) (passes_counts xs p.notes t h.1 ∙ e) (λ rest u k. k))

  pub rests_counts : (rs : List LeftOrKept) (s : ScopedState) → Not of_left g rs → counts_at g (finished_keeping known turns fs rs s).1 ≡ counts_at g s
  rests_counts [] s h = refl
  rests_counts (r ∷ rs) s h =
      let v = around_form known r.form [] s in let q = comes_to v turns fs r.left r.kept in
      let I : ScopedState → Type 0 = λ (t : ScopedState). counts_at g t ≡ counts_at g s in
      then_keeps known I q (λ parts t. finished_keeping known turns fs rs t then λ rest. going (record { form = r.form; result = parts; counted = (counted known).counted t } ∷ rest)) (rest_counts v turns fs r.left r.kept g h.0)
      (λ p t e. then_keeps known I (finished_keeping known turns fs rs t) (λ rest. going (record { form = r.form; result = p; counted = (counted known).counted t } ∷ rest)) (rests_counts rs t h.1 ∙ e) (λ rest u k. k))

  pub passes_others : (xs : List FormOrKept) (ns : List (Note FramedIdent)) (s : ScopedState) → Not of_form g xs → (passes_keeping known turns fs xs ns s).1.uses g ≡ s.uses g
  passes_others xs ns s h = ap (λ (m : Moment). m.uses) (passes_counts xs ns s h)

  pub rests_others : (rs : List LeftOrKept) (s : ScopedState) → Not of_left g rs → (finished_keeping known turns fs rs s).1.uses g ≡ s.uses g
  rests_others rs s h = ap (λ (m : Moment). m.uses) (rests_counts rs s h)
