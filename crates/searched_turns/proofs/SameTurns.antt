-- Two ways that do the same at each turn of one of them do the same: what holds at each turn of one holds at each turn of the other.
use Rattle.std.proofs.Common.{◌≡◌, ◌↔◌, ℕ, List, [], ◌∷◌, Option, Some, None, Result, refl, sym, ap, ◌∙◌, subst}
use Rattle.scheme_model.specs.Ident.{Ident}
use Rattle.scheme_model.specs.Requirements.{Known}
use Rattle.scheme_model.specs.Cores.{Parts}
use Rattle.scheme_model.specs.Steps.{Broken}
use Rattle.scheme_model.specs.Order.{Note, Pass}
use Rattle.scheme_model.specs.UnitExpansion.{Formed, ◌then◌, going, unless_over}
use Rattle.scheme_model.specs.ScopedExpansion.{FramedIdent, ScopedState}
use Rattle.scheme_model.specs.CountedExpansion.{counted}
use Rattle.scheme_model.specs.Questions.{Around}
use Rattle.kept_forms.specs.KeptForms.{FormOrKept, LeftOrKept, around_form, numbers_of}
use Rattle.kept_forms.specs.Carried.{Onwards}
use Rattle.forgotten_locals.specs.Ways.{Way, left_of, firsts_by, seconds_by, unit_by, AtFirsts, AtSeconds, AtTurns}
use Rattle.kept_turns.proofs.Onward.{onwards_with}

module _ (a b : Way) (known : Known) where
  abbrev pub SameFirst : Around → FormOrKept → Type 0
  SameFirst v x = b.first v x.tree x.kept ≡ a.first v x.tree x.kept

  abbrev pub SameSecond : List ℕ → Around → LeftOrKept → Type 0
  SameSecond fs v r = b.second fs v r.left r.kept ≡ a.second fs v r.left r.kept

  module _ (fs : List ℕ) where
    abbrev Lefts : Type 0
    Lefts = Option (List LeftOrKept) × ScopedState

    firsts_same : (xs : List FormOrKept) (ns : List (Note FramedIdent)) (s : ScopedState) → AtFirsts SameFirst a known fs xs ns s → firsts_by b known fs xs ns s ≡ firsts_by a known fs xs ns s
    firsts_same [] ns s h = refl
    firsts_same (x ∷ xs) ns s h =
        let v = around_form known x.form ns s in
        ap (λ z. unless_over (counted known) fs z then λ q t. firsts_by b known fs xs q.notes t then λ rest. going (left_of x v q t ∷ rest)) h.0
        ∙ go (λ q t e. firsts_same xs q.notes t e) v (unless_over (counted known) fs (a.first v x.tree x.kept)) h.1
      where
        go : ((q : Pass Ident FramedIdent) (t : ScopedState) → AtFirsts SameFirst a known fs xs q.notes t → firsts_by b known fs xs q.notes t ≡ firsts_by a known fs xs q.notes t) → (v : Around) (m : Option (Pass Ident FramedIdent) × ScopedState)
            → Onwards (λ q t. AtFirsts SameFirst a known fs xs q.notes t) m
            → (m then λ q t. firsts_by b known fs xs q.notes t then λ rest. going (left_of x v q t ∷ rest)) ≡ (m then λ q t. firsts_by a known fs xs q.notes t then λ rest. going (left_of x v q t ∷ rest))
        go more v (None, t) h = refl
        go more v (Some q, t) h = ap (λ (z : Lefts). z then λ rest. going (left_of x v q t ∷ rest)) (more q t h)

    seconds_same : (rs : List LeftOrKept) (s : ScopedState) → AtSeconds (SameSecond fs) a known fs rs s → seconds_by b known fs rs s ≡ seconds_by a known fs rs s
    seconds_same [] s h = refl
    seconds_same (r ∷ rs) s h =
        let v = around_form known r.form [] s in
        ap (λ (z : Option (Result Parts Broken) × ScopedState). z then λ p t. seconds_by b known fs rs t then λ rest. going (formed p t ∷ rest)) h.0
        ∙ go (λ t e. seconds_same rs t e) (a.second fs v r.left r.kept) h.1
      where
        formed : Result Parts Broken → ScopedState → Formed
        formed p t = record { form = r.form; result = p; counted = (counted known).counted t }

        go : ((t : ScopedState) → AtSeconds (SameSecond fs) a known fs rs t → seconds_by b known fs rs t ≡ seconds_by a known fs rs t) → (m : Option (Result Parts Broken) × ScopedState) → Onwards (λ p t. AtSeconds (SameSecond fs) a known fs rs t) m
            → (m then λ p t. seconds_by b known fs rs t then λ rest. going (formed p t ∷ rest)) ≡ (m then λ p t. seconds_by a known fs rs t then λ rest. going (formed p t ∷ rest))
        go more (None, t) h = refl
        go more (Some p, t) h = ap (λ (z : Option (List Formed) × ScopedState). z then λ rest. going (formed p t ∷ rest)) (more t h)

    -- ---- what holds at each turn

    module _ (P : Around → FormOrKept → Type 0) where
      firsts_over : (xs : List FormOrKept) (ns : List (Note FramedIdent)) (s : ScopedState) → AtFirsts SameFirst a known fs xs ns s → AtFirsts P a known fs xs ns s → AtFirsts P b known fs xs ns s
      firsts_over [] ns s e h = tt
      firsts_over (x ∷ xs) ns s e h =
          let v = around_form known x.form ns s in
          let q = unless_over (counted known) fs (a.first v x.tree x.kept) in (
            h.0,
            subst (λ z. Onwards (λ q t. AtFirsts P b known fs xs q.notes t) (unless_over (counted known) fs z)) (sym e.0)
                (onwards_with (λ q t. AtFirsts SameFirst a known fs xs q.notes t) (λ q t. AtFirsts P a known fs xs q.notes t) (λ q t. AtFirsts P b known fs xs q.notes t) (λ q t c d. firsts_over xs q.notes t c d) q e.1 h.1),
          )

      firsts_back : (xs : List FormOrKept) (ns : List (Note FramedIdent)) (s : ScopedState) → AtFirsts SameFirst a known fs xs ns s → AtFirsts P b known fs xs ns s → AtFirsts P a known fs xs ns s
      firsts_back [] ns s e h = tt
      firsts_back (x ∷ xs) ns s e h =
          let v = around_form known x.form ns s in
          let q = unless_over (counted known) fs (a.first v x.tree x.kept) in (
            h.0,
            onwards_with (λ q t. AtFirsts SameFirst a known fs xs q.notes t) (λ q t. AtFirsts P b known fs xs q.notes t) (λ q t. AtFirsts P a known fs xs q.notes t) (λ q t c d. firsts_back xs q.notes t c d) q e.1
                (subst (λ z. Onwards (λ q t. AtFirsts P b known fs xs q.notes t) (unless_over (counted known) fs z)) e.0 h.1),
          )

    module _ (P : Around → LeftOrKept → Type 0) where
      seconds_over : (rs : List LeftOrKept) (s : ScopedState) → AtSeconds (SameSecond fs) a known fs rs s → AtSeconds P a known fs rs s → AtSeconds P b known fs rs s
      seconds_over [] s e h = tt
      seconds_over (r ∷ rs) s e h =
          let v = around_form known r.form [] s in (
            h.0,
            subst (λ (z : Option (Result Parts Broken) × ScopedState). Onwards (λ p t. AtSeconds P b known fs rs t) z) (sym e.0)
                (onwards_with (λ p t. AtSeconds (SameSecond fs) a known fs rs t) (λ p t. AtSeconds P a known fs rs t) (λ p t. AtSeconds P b known fs rs t) (λ p t c d. seconds_over rs t c d) (a.second fs v r.left r.kept) e.1 h.1),
          )

      seconds_back : (rs : List LeftOrKept) (s : ScopedState) → AtSeconds (SameSecond fs) a known fs rs s → AtSeconds P b known fs rs s → AtSeconds P a known fs rs s
      seconds_back [] s e h = tt
      seconds_back (r ∷ rs) s e h =
          let v = around_form known r.form [] s in (
            h.0,
            onwards_with (λ p t. AtSeconds (SameSecond fs) a known fs rs t) (λ p t. AtSeconds P b known fs rs t) (λ p t. AtSeconds P a known fs rs t) (λ p t c d. seconds_back rs t c d) (a.second fs v r.left r.kept) e.1
                (subst (λ (z : Option (Result Parts Broken) × ScopedState). Onwards (λ p t. AtSeconds P b known fs rs t) z) e.0 h.1),
          )

  -- ---- the unit

  module _ (xs : List FormOrKept) (s : ScopedState) (same : AtTurns SameFirst (SameSecond (numbers_of xs)) a known xs s) where
    abbrev fs : List ℕ
    fs = numbers_of xs

    pub unit_same : unit_by b known xs s ≡ unit_by a known xs s
    unit_same = ap (λ (z : Option (List LeftOrKept) × ScopedState). z then seconds_by b known fs) (firsts_same fs xs [] s same.0) ∙ go (firsts_by a known fs xs [] s) same.1
      where
        go : (q : Option (List LeftOrKept) × ScopedState) → Onwards (λ rs t. AtSeconds (SameSecond fs) a known fs rs t) q → (q then seconds_by b known fs) ≡ (q then seconds_by a known fs)
        go (None, t) h = refl
        go (Some rs, t) h = seconds_same fs rs t h

    module _ (P : Around → FormOrKept → Type 0) (Q : Around → LeftOrKept → Type 0) where
      over_all : AtTurns P Q a known xs s → AtTurns P Q b known xs s
      over_all h = (
        firsts_over fs P xs [] s same.0 h.0,
        subst (λ (z : Option (List LeftOrKept) × ScopedState). Onwards (λ rs t. AtSeconds Q b known fs rs t) z) (sym (firsts_same fs xs [] s same.0))
            (onwards_with (λ rs t. AtSeconds (SameSecond fs) a known fs rs t) (λ rs t. AtSeconds Q a known fs rs t) (λ rs t. AtSeconds Q b known fs rs t) (λ rs t c d. seconds_over fs Q rs t c d) (firsts_by a known fs xs [] s) same.1 h.1),
      )

      back_all : AtTurns P Q b known xs s → AtTurns P Q a known xs s
      back_all h = (
        firsts_back fs P xs [] s same.0 h.0,
        onwards_with (λ rs t. AtSeconds (SameSecond fs) a known fs rs t) (λ rs t. AtSeconds Q b known fs rs t) (λ rs t. AtSeconds Q a known fs rs t) (λ rs t c d. seconds_back fs Q rs t c d) (firsts_by a known fs xs [] s) same.1
            (subst (λ (z : Option (List LeftOrKept) × ScopedState). Onwards (λ rs t. AtSeconds Q b known fs rs t) z) (firsts_same fs xs [] s same.0) h.1),
      )

      pub turns_same : AtTurns P Q b known xs s ↔ AtTurns P Q a known xs s
      turns_same = (back_all, over_all)
