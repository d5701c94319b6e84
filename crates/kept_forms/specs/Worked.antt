-- How many macro uses are worked in a unit of which some forms are kept: none for what is put into its place.
use Rattle.std.specs.Prelude.{◌≡◌, ℕ, ◌+◌, ◌-◌, List, [], ◌∷◌, Option, Some, None}
use Rattle.scheme_model.specs.Requirements.{Known}
use Rattle.scheme_model.specs.Order.{Note}
use Rattle.scheme_model.specs.UnitExpansion.{Formed, unless_over}
use Rattle.scheme_model.specs.ScopedExpansion.{FramedIdent, ScopedState}
use Rattle.scheme_model.specs.CountedExpansion.{counted}
use Rattle.form_laws.specs.Begins.{Each}
use Rattle.kept_forms.specs.KeptForms.{KeptParts, KeptForm, FormOrKept, around_form, goes_through, LeftOrKept, passes_keeping, comes_to, numbers_of}

-- the uses that a form began from one state to another
abbrev pub begun_by : ℕ → ScopedState → ScopedState → ℕ
begun_by form s t = t.uses form - s.uses form

-- nothing is worked where something is kept
abbrev pub unless_kept : {X : Type 0} → Option X → ℕ → ℕ
unless_kept None n = n
unless_kept (Some k) n = 0

-- what is worked from where work went to, unless it ended
abbrev pub worked_then : {S X : Type 0} → (X → S → ℕ) → Option X × S → ℕ
worked_then f (None, s) = 0
worked_then f (Some x, s) = f x s

abbrev pub passes_worked : Known → ℕ → List ℕ → List FormOrKept → List (Note FramedIdent) → ScopedState → ℕ
passes_worked known turns fs [] notes s = 0
passes_worked known turns fs (x ∷ xs) notes s =
    let v = around_form known x.form notes s in let q = goes_through v turns x.tree x.kept in
    unless_kept x.kept (begun_by x.form s q.1) + worked_then (λ p t. passes_worked known turns fs xs p.notes t) (unless_over (counted known) fs q)

abbrev pub rests_worked : Known → ℕ → List ℕ → List LeftOrKept → ScopedState → ℕ
rests_worked known turns fs [] s = 0
rests_worked known turns fs (r ∷ rs) s =
    let q = comes_to (around_form known r.form [] s) turns fs r.left r.kept in
    unless_kept r.kept (begun_by r.form s q.1) + worked_then (λ p t. rests_worked known turns fs rs t) q

abbrev pub unit_worked : Known → ℕ → List FormOrKept → ScopedState → ℕ
unit_worked known turns xs s =
    passes_worked known turns (numbers_of xs) xs [] s + worked_then (λ rs t. rests_worked known turns (numbers_of xs) rs t) (passes_keeping known turns (numbers_of xs) xs [] s)

-- ---- by what the forms have counted

-- of so many uses of a form, those that aren't kept
abbrev pub rest_of : Option KeptParts → (kept : ℕ) → ℕ → ℕ
rest_of None kept n = n - kept
rest_of (Some k) kept n = 0

abbrev pub not_kept : Option KeptForm → ℕ → ℕ
not_kept None n = n
not_kept (Some k) n = rest_of k.parts k.aside.moment.uses n

-- where each has counted so many by then
abbrev pub uses_not_kept : List FormOrKept → ScopedState → ℕ
uses_not_kept [] t = 0
uses_not_kept (x ∷ xs) t = not_kept x.kept (t.uses x.form) + uses_not_kept xs t

-- each form tells of so many
abbrev pub UsesTold : List Formed → ScopedState → Type 0
UsesTold rs t = Each (λ (r : Formed). r.counted.uses ≡ t.uses r.form) rs
