-- What is imported, and what a macro is kept for, still stands where what a form has made and found is put.
use Rattle.std.proofs.Common.{◌≡◌, ◌⊎◌, inl, inr, ℕ, List, ◌++◌, Bool, true, false, refl, sym, ap, ◌∙◌}
use Rattle.std.proofs.lemmas.Bool.{or_cases}
use Rattle.scheme_model.specs.Ident.{Ident}
use Rattle.scheme_model.specs.Meaning.{Global}
use Rattle.scheme_model.specs.Order.{is_some}
use Rattle.scheme_model.specs.Substitution.{Table}
use Rattle.scheme_model.specs.ScopedExpansion.{macro_at}
use Rattle.scheme_model.specs.Questions.{Moment, Question, Around}
use Rattle.scheme_model.specs.FormsAlike.{again}
use Rattle.question_laws.specs.Noted.{is_defined_in, IsClosed}
use Rattle.question_laws.proofs.Roots.{defined_front, defined_behind, macro_either}
use Rattle.question_laws.proofs.OwnRuns.{AllMade, macro_own}

pub still_defined : (own ys : Table) (u : ℕ) (i : Ident) → is_defined_in ys u i ≡ true → is_defined_in (own ++ ys) u i ≡ true
still_defined own ys u i e = go (is_defined_in own u i) refl
  where
    go : (b : Bool) → is_defined_in own u i ≡ b → is_defined_in (own ++ ys) u i ≡ true
    go true f = ap is_some (defined_front own ys u i f) ∙ f
    go false f = ap is_some (defined_behind own ys u i f) ∙ e

-- ---- at a moment

module _ (w v : Around) (closed : IsClosed v.state) (qs : List (Moment × Question)) (n : Moment) (made : AllMade w qs n) where
  kept_still : (u : ℕ) (i : Ident) → is_some (macro_at (n.macros ++ v.state.macros) (Global u i)) ≡ true → is_defined_in (n.table ++ v.state.table) u i ≡ true
  kept_still u i e = go (or_cases (is_some (macro_at n.macros (Global u i))) (is_some (macro_at v.state.macros (Global u i))) (sym (macro_either n.macros v.state.macros (Global u i)) ∙ e))
    where
      go : ((is_some (macro_at n.macros (Global u i)) ≡ true) ⊎ (is_some (macro_at v.state.macros (Global u i)) ≡ true)) → is_defined_in (n.table ++ v.state.table) u i ≡ true
      go (inl f) = let d = macro_own w n.table n.macros made.1 (Global u i) f in ap is_some (defined_front n.table v.state.table u i d) ∙ d
      go (inr f) = still_defined n.table v.state.table u i (closed.kept u i f)

  pub again_closed : IsClosed (again v n)
  again_closed = record { imports = λ u x z i e. still_defined n.table v.state.table z i (closed.imports u x z i e); kept = λ u i e. kept_still u i e }
