-- What the forms of a unit have counted where their turns come: nothing at first, and later what each had counted when it was gone through.
use Rattle.std.proofs.Common.{◌≡◌, ℕ, List, [], ◌∷◌, Option, Some, None, refl, sym, ◌∙◌, subst}
use Rattle.scheme_model.specs.Ident.{Ident}
use Rattle.scheme_model.specs.Requirements.{Known}
use Rattle.scheme_model.specs.Order.{Note, Pass}
use Rattle.scheme_model.specs.UnitExpansion.{◌then◌, going, unless_over}
use Rattle.scheme_model.specs.ScopedExpansion.{FramedIdent, ScopedState}
use Rattle.scheme_model.specs.CountedExpansion.{counted}
use Rattle.scheme_model.specs.Questions.{Around}
use Rattle.model_laws.proofs.FrameAsks.{AllOf}
use Rattle.model_laws.proofs.UnitEnds.{OnWork}
use Rattle.form_laws.specs.Begins.{Each}
use Rattle.kept_forms.specs.KeptForms.{KeptParts, KeptForm, FormOrKept, around_form, goes_through, counts_at, LeftOrKept, rest_kept, passes_keeping}
use Rattle.kept_forms.specs.Carried.{no_counts, RestFits, FormFits}
use Rattle.kept_forms.proofs.OneForm.{BegunAt}
use Rattle.kept_forms.proofs.WorkedLaw.{over_state}
use Rattle.kept_forms.proofs.UsesCounted.{counts_here, Not, Distinct, of_form, of_left, passes_counts}

-- ---- what was counted

abbrev pub AllNew : ScopedState → List FormOrKept → Type 0
AllNew s xs = AllOf (λ (x : FormOrKept). counts_at x.form s ≡ no_counts) xs

abbrev pub Ready : ScopedState → List LeftOrKept → Type 0
Ready s rs = AllOf (λ (r : LeftOrKept). (counts_at r.form s ≡ r.counts) × BegunAt r.counts r.kept) rs

pub new_later : (g : ℕ) (s t : ScopedState) → ((f : ℕ) → (f ≡ g → ⊥) → counts_at f t ≡ counts_at f s) → (xs : List FormOrKept) → Not of_form g xs → AllNew s xs → AllNew t xs
new_later g s t e [] d h = tt
new_later g s t e (x ∷ xs) d h = (e x.form (λ q. d.0 (sym q)) ∙ h.0, new_later g s t e xs d.1 h.1)

pub ready_later : (g : ℕ) (s t : ScopedState) → ((f : ℕ) → (f ≡ g → ⊥) → counts_at f t ≡ counts_at f s) → (rs : List LeftOrKept) → Not of_left g rs → Ready s rs → Ready t rs
ready_later g s t e [] d h = tt
ready_later g s t e (r ∷ rs) d h = ((e r.form (λ q. d.0 (sym q)) ∙ h.0.0, h.0.1), ready_later g s t e rs d.1 h.1)

-- ---- the forms gone through

abbrev Numbered : List LeftOrKept → List FormOrKept → Type 0
Numbered [] [] = Unit {0}
Numbered [] (x ∷ xs) = ⊥
Numbered (r ∷ rs) [] = ⊥
Numbered (r ∷ rs) (x ∷ xs) = (r.form ≡ x.form) × Numbered rs xs

not_left : (g : ℕ) (rs : List LeftOrKept) (xs : List FormOrKept) → Numbered rs xs → Not of_form g xs → Not of_left g rs
not_left g [] xs m d = tt
not_left g (r ∷ rs) [] m d = absurd m
not_left g (r ∷ rs) (x ∷ xs) m d = ((λ e. d.0 (e ∙ m.0)), not_left g rs xs m.1 d.1)

distinct_left : (rs : List LeftOrKept) (xs : List FormOrKept) → Numbered rs xs → Distinct of_form xs → Distinct of_left rs
distinct_left [] xs m d = tt
distinct_left (r ∷ rs) [] m d = absurd m
distinct_left (r ∷ rs) (x ∷ xs) m d = (not_left r.form rs xs m.1 (subst (λ f. Not of_form f xs) (sym m.0) d.0), distinct_left rs xs m.1 d.1)

begun_at : (v : Around) (turns : ℕ) (x : FormOrKept) → FormFits x.kept → BegunAt (counts_at v.state.form (goes_through v turns x.tree x.kept).1) (rest_kept v x.kept)
begun_at v turns x h = go x.kept h
  where
    rest : (k : KeptForm) (o : Option KeptParts) → RestFits k.aside o → BegunAt (counts_at v.state.form (goes_through v turns x.tree (Some k)).1) (rest_kept v (Some (record { aside = k.aside; parts = o })))
    rest k None h = tt
    rest k (Some p) h = counts_here v k.aside.moment ∙ sym h.0

    go : (o : Option KeptForm) → FormFits o → BegunAt (counts_at v.state.form (goes_through v turns x.tree o).1) (rest_kept v o)
    go None h = tt
    go (Some k) h = rest k k.parts h

module _ (known : Known) (turns : ℕ) (fs : List ℕ) where
  abbrev GoesReady : List FormOrKept → ScopedState → List LeftOrKept → Type 0
  GoesReady xs t rs = Numbered rs xs × Ready t rs

  ready : (xs : List FormOrKept) (ns : List (Note FramedIdent)) (s : ScopedState) → Distinct of_form xs → Each (λ (x : FormOrKept). FormFits x.kept) xs → OnWork (λ t. Unit {0}) (GoesReady xs) (passes_keeping known turns fs xs ns s)
  ready [] ns s d h = (tt, tt)
  ready (x ∷ xs) ns s d h =
      let v = around_form known x.form ns s in let m = goes_through v turns x.tree x.kept in
      go (unless_over (counted known) fs m) (over_state known fs m) (begun_at v turns x h.0) (λ ms t. ready xs ms t d.1 h.1)
    where
      on : (p : Pass Ident FramedIdent) (t : ScopedState) (o : Option KeptParts) → BegunAt (counts_at x.form t) o → (u : Option (List LeftOrKept) × ScopedState) → counts_at x.form u.1 ≡ counts_at x.form t → OnWork (λ t. Unit {0}) (GoesReady xs) u
          → OnWork (λ t. Unit {0}) (GoesReady (x ∷ xs)) (u then λ rest. going (record { form = x.form; counts = counts_at x.form t; left = p.left; kept = o } ∷ rest))
      on p t o b (None, u) e h = tt
      on p t o b (Some rs, u) e h = ((refl, h.0), ((e, b), h.1))

      go : (o : Option (Pass Ident FramedIdent) × ScopedState) → o.1 ≡ (goes_through (around_form known x.form ns s) turns x.tree x.kept).1
          → BegunAt (counts_at x.form (goes_through (around_form known x.form ns s) turns x.tree x.kept).1) (rest_kept (around_form known x.form ns s) x.kept)
          → ((ms : List (Note FramedIdent)) (t : ScopedState) → OnWork (λ t. Unit {0}) (GoesReady xs) (passes_keeping known turns fs xs ms t))
          → OnWork (λ t. Unit {0}) (GoesReady (x ∷ xs))
          (o then λ q t. passes_keeping known turns fs xs q.notes t then λ rest. going (record { form = x.form; counts = counts_at x.form t; left = q.left; kept = rest_kept (around_form known x.form ns s) x.kept } ∷ rest))
      go (None, t) e b law = tt
      go (Some p, t) e b law =
          on p t (rest_kept (around_form known x.form ns s) x.kept) (subst (λ (z : ScopedState). BegunAt (counts_at x.form z) (rest_kept (around_form known x.form ns s) x.kept)) (sym e) b)
          (passes_keeping known turns fs xs p.notes t) (passes_counts known turns fs x.form xs p.notes t d.0) (law p.notes t)

  pub passes_ready : (xs : List FormOrKept) (ns : List (Note FramedIdent)) (s : ScopedState) → Distinct of_form xs → Each (λ (x : FormOrKept). FormFits x.kept) xs
      → OnWork (λ t. Unit {0}) (λ t rs. Distinct of_left rs × Ready t rs) (passes_keeping known turns fs xs ns s)
  passes_ready xs ns s d h = go (passes_keeping known turns fs xs ns s) (ready xs ns s d h)
    where
      go : (q : Option (List LeftOrKept) × ScopedState) → OnWork (λ t. Unit {0}) (GoesReady xs) q → OnWork (λ t. Unit {0}) (λ t rs. Distinct of_left rs × Ready t rs) q
      go (None, t) k = tt
      go (Some rs, t) k = (distinct_left rs xs k.0 d, k.1)
