-- What holds at each turn of a unit holds at the turn of a form that is next.
use Rattle.std.proofs.Common.{◌≡◌, ℕ, List, [], ◌∷◌, ◌++◌, subst}
use Rattle.scheme_model.specs.Requirements.{Known}
use Rattle.scheme_model.specs.ScopedExpansion.{ScopedState}
use Rattle.scheme_model.specs.Questions.{Around}
use Rattle.question_laws.specs.Noted.{IsClosed}
use Rattle.kept_forms.specs.KeptForms.{FormOrKept, LeftOrKept, around_form, numbers_of}
use Rattle.kept_forms.specs.Carried.{Onwards}
use Rattle.forgotten_locals.specs.Outside.{IsOutside}
use Rattle.forgotten_locals.specs.Ways.{Way, firsts_by, seconds_by, AtFirsts, AtSeconds, AtTurns, CanBegin, RestCanBegin}
use Rattle.kept_turns.specs.Turns.{passed, AtFirst}
use Rattle.kept_turns.specs.Ready.{IsReady, RestIsReady, AllReady}
use Rattle.kept_turns.proofs.Onward.{onwards_map}
use Rattle.kept_turns.proofs.EachTurn.{turns_with, firsts_split, seconds_split}

pub first_turn : (way : Way) (known : Known) (ys zs : List FormOrKept) (x : FormOrKept) (s : ScopedState) (P : Around → FormOrKept → Type 0) (Q : Around → LeftOrKept → Type 0) → AtTurns P Q way known (ys ++ x ∷ zs) s
    → AtFirst (λ v. P v x) way known ys x zs s
first_turn way known ys zs x s P Q h =
    let fs = numbers_of (ys ++ x ∷ zs) in
    onwards_map (λ ms t. AtFirsts P way known fs (x ∷ zs) ms t) (λ ms t. P (around_form known x.form ms t) x) (λ ms t a. a.0) (passed way known fs ys [] s) (firsts_split way known fs P ys (x ∷ zs) [] s h.0).1

-- where the first turns went through
abbrev pub AtNext : (Around → LeftOrKept → Type 0) → Way → Known → List ℕ → List LeftOrKept → ScopedState → Type 0
AtNext Q way known fs ls t = (rs : List LeftOrKept) (r : LeftOrKept) (qs : List LeftOrKept) → ls ≡ rs ++ r ∷ qs → Onwards (λ ps u. Q (around_form known r.form [] u) r) (seconds_by way known fs rs t)

pub second_turn : (way : Way) (known : Known) (xs : List FormOrKept) (s : ScopedState) (P : Around → FormOrKept → Type 0) (Q : Around → LeftOrKept → Type 0) → AtTurns P Q way known xs s
    → Onwards (λ ls t. AtNext Q way known (numbers_of xs) ls t) (firsts_by way known (numbers_of xs) xs [] s)
second_turn way known xs s P Q h = onwards_map (λ ls t. AtSeconds Q way known (numbers_of xs) ls t) (λ ls t. AtNext Q way known (numbers_of xs) ls t) (λ ls t a. next ls t a) (firsts_by way known (numbers_of xs) xs [] s) h.1
  where
    fs : List ℕ
    fs = numbers_of xs

    next : (ls : List LeftOrKept) (t : ScopedState) → AtSeconds Q way known fs ls t → AtNext Q way known fs ls t
    next ls t a rs r qs e =
        onwards_map (λ ps u. AtSeconds Q way known fs (r ∷ qs) u) (λ ps u. Q (around_form known r.form [] u) r) (λ ps u b. b.0) (seconds_by way known fs rs t)
        (seconds_split way known fs Q rs (r ∷ qs) t (subst (λ (zs : List LeftOrKept). AtSeconds Q way known fs zs t) e a)).1

-- ---- forms that are ready

module _ (way : Way) (known : Known) (xs : List FormOrKept) (s : ScopedState) where
  abbrev Out : Around → FormOrKept → Type 0
  Out v x = IsOutside v.state

  abbrev Out2 : Around → LeftOrKept → Type 0
  Out2 v r = IsOutside v.state

  abbrev Closed : Around → FormOrKept → Type 0
  Closed v x = IsClosed v.state

  abbrev Closed2 : Around → LeftOrKept → Type 0
  Closed2 v r = IsClosed v.state

  abbrev Both : Around → FormOrKept → Type 0
  Both v x = IsOutside v.state × IsClosed v.state

  abbrev Both2 : Around → LeftOrKept → Type 0
  Both2 v r = IsOutside v.state × IsClosed v.state

  all_ready : AllReady way known xs s → AtTurns IsReady RestIsReady way known xs s
  all_ready h =
      let both = turns_with way known Out Closed Both Out2 Closed2 Both2 (λ v x a b. (a, b)) (λ v r a b. (a, b)) xs s h.outside h.closed in
      turns_with way known CanBegin Both IsReady RestCanBegin Both2 RestIsReady (λ v x a b. record { begins = a; outside = b.0; closed = b.1 }) (λ v r a b. record { begins = a; outside = b.0; closed = b.1 }) xs s h.begins both

  pub second_ready : AllReady way known xs s → Onwards (λ ls t. AtNext RestIsReady way known (numbers_of xs) ls t) (firsts_by way known (numbers_of xs) xs [] s)
  second_ready h = second_turn way known xs s IsReady RestIsReady (all_ready h)

pub first_ready : (way : Way) (known : Known) (ys zs : List FormOrKept) (x : FormOrKept) (s : ScopedState) → AllReady way known (ys ++ x ∷ zs) s → AtFirst (λ v. IsReady v x) way known ys x zs s
first_ready way known ys zs x s h = first_turn way known ys zs x s IsReady RestIsReady (all_ready way known (ys ++ x ∷ zs) s h)
