-- What holds at each turn of a unit: two things that do are one, and what holds at the turns of some forms and of those behind them holds at
-- all turns.
use Rattle.std.proofs.Common.{ℕ, List, [], ◌∷◌, ◌++◌, Option, Some, None, Result}
use Rattle.scheme_model.specs.Requirements.{Known}
use Rattle.scheme_model.specs.Cores.{Parts}
use Rattle.scheme_model.specs.Steps.{Broken}
use Rattle.scheme_model.specs.Order.{Note}
use Rattle.scheme_model.specs.UnitExpansion.{Formed, ◌then◌, going, unless_over}
use Rattle.scheme_model.specs.ScopedExpansion.{FramedIdent, ScopedState}
use Rattle.scheme_model.specs.CountedExpansion.{counted}
use Rattle.scheme_model.specs.Questions.{Around}
use Rattle.kept_forms.specs.KeptForms.{FormOrKept, LeftOrKept, around_form, numbers_of}
use Rattle.kept_forms.specs.Carried.{Onwards}
use Rattle.forgotten_locals.specs.Ways.{Way, firsts_by, seconds_by, AtFirsts, AtSeconds, AtTurns}
use Rattle.kept_turns.specs.Turns.{passed}
use Rattle.kept_turns.proofs.Onward.{onwards_map, onwards_with, onwards_then, then_onwards}

module _ (way : Way) (known : Known) (fs : List ℕ) where
  -- ---- two things

  pub firsts_with : (P Q R : Around → FormOrKept → Type 0) → ((v : Around) (x : FormOrKept) → P v x → Q v x → R v x) → (xs : List FormOrKept) (ns : List (Note FramedIdent)) (s : ScopedState)
      → AtFirsts P way known fs xs ns s → AtFirsts Q way known fs xs ns s → AtFirsts R way known fs xs ns s
  firsts_with P Q R f [] ns s h k = tt
  firsts_with P Q R f (x ∷ xs) ns s h k =
      let v = around_form known x.form ns s in (
        f v x h.0 k.0,
        onwards_with (λ q t. AtFirsts P way known fs xs q.notes t) (λ q t. AtFirsts Q way known fs xs q.notes t) (λ q t. AtFirsts R way known fs xs q.notes t) (λ q t a b. firsts_with P Q R f xs q.notes t a b)
            (unless_over (counted known) fs (way.first v x.tree x.kept)) h.1 k.1,
      )

  pub seconds_with : (P Q R : Around → LeftOrKept → Type 0) → ((v : Around) (r : LeftOrKept) → P v r → Q v r → R v r) → (rs : List LeftOrKept) (s : ScopedState)
      → AtSeconds P way known fs rs s → AtSeconds Q way known fs rs s → AtSeconds R way known fs rs s
  seconds_with P Q R f [] s h k = tt
  seconds_with P Q R f (r ∷ rs) s h k =
      let v = around_form known r.form [] s in (
        f v r h.0 k.0,
        onwards_with (λ p t. AtSeconds P way known fs rs t) (λ p t. AtSeconds Q way known fs rs t) (λ p t. AtSeconds R way known fs rs t) (λ p t a b. seconds_with P Q R f rs t a b) (way.second fs v r.left r.kept) h.1 k.1,
      )

  -- ---- some forms, and those behind them

  pub firsts_split : (P : Around → FormOrKept → Type 0) (ys zs : List FormOrKept) (ns : List (Note FramedIdent)) (s : ScopedState) → AtFirsts P way known fs (ys ++ zs) ns s
      → AtFirsts P way known fs ys ns s × Onwards (λ ms t. AtFirsts P way known fs zs ms t) (passed way known fs ys ns s)
  firsts_split P [] zs ns s h = (tt, h)
  firsts_split P (y ∷ ys) zs ns s h =
      let q = unless_over (counted known) fs (way.first (around_form known y.form ns s) y.tree y.kept) in (
        (h.0, onwards_map (λ p t. AtFirsts P way known fs (ys ++ zs) p.notes t) (λ p t. AtFirsts P way known fs ys p.notes t) (λ p t a. (firsts_split P ys zs p.notes t a).0) q h.1),
        onwards_then (λ ms t. AtFirsts P way known fs zs ms t) (λ p t. passed way known fs ys p.notes t) q
            (onwards_map (λ p t. AtFirsts P way known fs (ys ++ zs) p.notes t) (λ p t. Onwards (λ ms u. AtFirsts P way known fs zs ms u) (passed way known fs ys p.notes t)) (λ p t a. (firsts_split P ys zs p.notes t a).1) q h.1),
      )

  pub firsts_join : (P : Around → FormOrKept → Type 0) (ys zs : List FormOrKept) (ns : List (Note FramedIdent)) (s : ScopedState) → AtFirsts P way known fs ys ns s
      → Onwards (λ ms t. AtFirsts P way known fs zs ms t) (passed way known fs ys ns s) → AtFirsts P way known fs (ys ++ zs) ns s
  firsts_join P [] zs ns s h k = k
  firsts_join P (y ∷ ys) zs ns s h k =
      let q = unless_over (counted known) fs (way.first (around_form known y.form ns s) y.tree y.kept) in (
        h.0,
        onwards_with (λ p t. AtFirsts P way known fs ys p.notes t) (λ p t. Onwards (λ ms u. AtFirsts P way known fs zs ms u) (passed way known fs ys p.notes t)) (λ p t. AtFirsts P way known fs (ys ++ zs) p.notes t)
            (λ p t a b. firsts_join P ys zs p.notes t a b) q h.1 (then_onwards (λ ms t. AtFirsts P way known fs zs ms t) (λ p t. passed way known fs ys p.notes t) q k),
      )

  abbrev formed_at : LeftOrKept → Result Parts Broken → ScopedState → Formed
  formed_at r p t = record { form = r.form; result = p; counted = (counted known).counted t }

  -- what was formed of the first of them is given with that of the others
  behind_first : (R : ScopedState → Type 0) (y : Formed) (m : Option (List Formed) × ScopedState) → Onwards (λ ps t. R t) (m then λ rest. going (y ∷ rest)) → Onwards (λ ps t. R t) m
  behind_first R y (None, t) h = tt
  behind_first R y (Some ps, t) h = h

  before_first : (R : ScopedState → Type 0) (y : Formed) (m : Option (List Formed) × ScopedState) → Onwards (λ ps t. R t) m → Onwards (λ ps t. R t) (m then λ rest. going (y ∷ rest))
  before_first R y (None, t) h = tt
  before_first R y (Some ps, t) h = h

  pub seconds_split : (P : Around → LeftOrKept → Type 0) (rs qs : List LeftOrKept) (s : ScopedState) → AtSeconds P way known fs (rs ++ qs) s
      → AtSeconds P way known fs rs s × Onwards (λ ps t. AtSeconds P way known fs qs t) (seconds_by way known fs rs s)
  seconds_split P [] qs s h = (tt, h)
  seconds_split P (r ∷ rs) qs s h =
      let q = way.second fs (around_form known r.form [] s) r.left r.kept in (
        (h.0, onwards_map (λ p t. AtSeconds P way known fs (rs ++ qs) t) (λ p t. AtSeconds P way known fs rs t) (λ p t a. (seconds_split P rs qs t a).0) q h.1),
        onwards_then (λ ps t. AtSeconds P way known fs qs t) (λ p t. seconds_by way known fs rs t then λ rest. going (formed_at r p t ∷ rest)) q
            (onwards_map (λ p t. AtSeconds P way known fs (rs ++ qs) t) (λ p t. Onwards (λ ps u. AtSeconds P way known fs qs u) (seconds_by way known fs rs t then λ rest. going (formed_at r p t ∷ rest)))
            (λ p t a. before_first (λ u. AtSeconds P way known fs qs u) (formed_at r p t) (seconds_by way known fs rs t) (seconds_split P rs qs t a).1) q h.1),
      )

  pub seconds_join : (P : Around → LeftOrKept → Type 0) (rs qs : List LeftOrKept) (s : ScopedState) → AtSeconds P way known fs rs s
      → Onwards (λ ps t. AtSeconds P way known fs qs t) (seconds_by way known fs rs s) → AtSeconds P way known fs (rs ++ qs) s
  seconds_join P [] qs s h k = k
  seconds_join P (r ∷ rs) qs s h k =
      let q = way.second fs (around_form known r.form [] s) r.left r.kept in (
        h.0,
        onwards_with (λ p t. AtSeconds P way known fs rs t) (λ p t. Onwards (λ ps u. AtSeconds P way known fs qs u) (seconds_by way known fs rs t then λ rest. going (formed_at r p t ∷ rest))) (λ p t. AtSeconds P way known fs (rs ++ qs) t)
            (λ p t a b. seconds_join P rs qs t a (behind_first (λ u. AtSeconds P way known fs qs u) (formed_at r p t) (seconds_by way known fs rs t) b)) q h.1
            (then_onwards (λ ps t. AtSeconds P way known fs qs t) (λ p t. seconds_by way known fs rs t then λ rest. going (formed_at r p t ∷ rest)) q k),
      )

-- ---- both turns

pub turns_with : (way : Way) (known : Known) (P Q R : Around → FormOrKept → Type 0) (S T U : Around → LeftOrKept → Type 0) → ((v : Around) (x : FormOrKept) → P v x → Q v x → R v x)
    → ((v : Around) (r : LeftOrKept) → S v r → T v r → U v r) → (xs : List FormOrKept) (s : ScopedState) → AtTurns P S way known xs s → AtTurns Q T way known xs s → AtTurns R U way known xs s
turns_with way known P Q R S T U f g xs s h k =
    let fs = numbers_of xs in (
      firsts_with way known fs P Q R f xs [] s h.0 k.0,
      onwards_with (λ rs t. AtSeconds S way known fs rs t) (λ rs t. AtSeconds T way known fs rs t) (λ rs t. AtSeconds U way known fs rs t) (λ rs t a b. seconds_with way known fs S T U g rs t a b)
          (firsts_by way known fs xs [] s) h.1 k.1,
    )
