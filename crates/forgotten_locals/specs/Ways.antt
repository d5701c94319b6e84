-- Ways to work on a unit of which some forms are kept (R7RS 5.1, 5.3): each form has a first turn, in which it is gone through, and a second
-- turn, in which what it set aside is expanded. What holds at each turn is told along the unit.
use Rattle.std.specs.Prelude.{◌≡◌, ℕ, List, [], ◌∷◌, Option, None, Result}
use Rattle.scheme_model.specs.Ident.{Ident}
use Rattle.scheme_model.specs.Trees.{Tree}
use Rattle.scheme_model.specs.Requirements.{Known}
use Rattle.scheme_model.specs.Cores.{Parts}
use Rattle.scheme_model.specs.Steps.{Broken}
use Rattle.scheme_model.specs.Order.{Left, Note, Pass}
use Rattle.scheme_model.specs.UnitExpansion.{Formed, Work, ◌then◌, going, unless_over}
use Rattle.scheme_model.specs.ScopedExpansion.{FramedIdent, ScopedState}
use Rattle.scheme_model.specs.CountedExpansion.{counted}
use Rattle.scheme_model.specs.Questions.{Around}
use Rattle.scheme_model.specs.FormsAlike.{set_aside, start}
use Rattle.form_laws.specs.Begins.{Each, FormBegins, RestBegins}
use Rattle.kept_forms.specs.KeptForms.{KeptForm, KeptParts, FormOrKept, LeftOrKept, around_form, goes_through, comes_to, counts_at, rest_kept, numbers_of}
use Rattle.kept_forms.specs.Carried.{Onwards, PassKept, RestKept, FormFits, no_counts}
use Rattle.forgotten_locals.specs.Outside.{forgotten}

pub record Way : Type 0 where
  pub first : Around → Tree Ident → Option KeptForm → Pass Ident FramedIdent × ScopedState
  pub second : List ℕ → Around → Result (Left Ident) Broken → Option KeptParts → Option (Result Parts Broken) × ScopedState

-- each form is expanded, whatever is kept of it
abbrev pub anew : ℕ → Way
anew turns = record { first = λ v t k. set_aside v turns t; second = λ fs v r k. comes_to v turns fs r None }

-- what is kept is put into its place
abbrev pub keeping : ℕ → Way
keeping turns = record { first = λ v t k. goes_through v turns t k; second = λ fs v r k. comes_to v turns fs r k }

-- so it is, and behind each turn what is local is forgotten
abbrev pub forgetting : ℕ → Way
forgetting turns = record { first = λ v t k. forgotten (goes_through v turns t k); second = λ fs v r k. forgotten (comes_to v turns fs r k) }

-- ---- a unit

abbrev pub left_of : FormOrKept → Around → Pass Ident FramedIdent → ScopedState → LeftOrKept
left_of x v q t = record { form = x.form; counts = counts_at x.form t; left = q.left; kept = rest_kept v x.kept }

abbrev pub firsts_by : Way → Known → List ℕ → List FormOrKept → List (Note FramedIdent) → Work ScopedState (List LeftOrKept)
firsts_by way known fs [] notes s = going [] s
firsts_by way known fs (x ∷ xs) notes s =
    let v = around_form known x.form notes s in
    unless_over (counted known) fs (way.first v x.tree x.kept) then λ q t. firsts_by way known fs xs q.notes t then λ rest. going (left_of x v q t ∷ rest)

abbrev pub seconds_by : Way → Known → List ℕ → List LeftOrKept → Work ScopedState (List Formed)
seconds_by way known fs [] s = going [] s
seconds_by way known fs (r ∷ rs) s =
    way.second fs (around_form known r.form [] s) r.left r.kept then λ parts t.
    seconds_by way known fs rs t then λ rest. going (record { form = r.form; result = parts; counted = (counted known).counted t } ∷ rest)

abbrev pub unit_by : Way → Known → List FormOrKept → Work ScopedState (List Formed)
unit_by way known xs s = firsts_by way known (numbers_of xs) xs [] s then seconds_by way known (numbers_of xs)

-- ---- at each turn

-- P holds of what is around each form, and of the form, where its first turn comes
abbrev pub AtFirsts : (Around → FormOrKept → Type 0) → Way → Known → List ℕ → List FormOrKept → List (Note FramedIdent) → ScopedState → Type 0
AtFirsts P way known fs [] notes s = Unit {0}
AtFirsts P way known fs (x ∷ xs) notes s =
    let v = around_form known x.form notes s in P v x × Onwards (λ q t. AtFirsts P way known fs xs q.notes t) (unless_over (counted known) fs (way.first v x.tree x.kept))

abbrev pub AtSeconds : (Around → LeftOrKept → Type 0) → Way → Known → List ℕ → List LeftOrKept → ScopedState → Type 0
AtSeconds P way known fs [] s = Unit {0}
AtSeconds P way known fs (r ∷ rs) s = let v = around_form known r.form [] s in P v r × Onwards (λ p t. AtSeconds P way known fs rs t) (way.second fs v r.left r.kept)

abbrev pub AtTurns : (Around → FormOrKept → Type 0) → (Around → LeftOrKept → Type 0) → Way → Known → List FormOrKept → ScopedState → Type 0
AtTurns P Q way known xs s = AtFirsts P way known (numbers_of xs) xs [] s × Onwards (λ rs t. AtSeconds Q way known (numbers_of xs) rs t) (firsts_by way known (numbers_of xs) xs [] s)

-- what is kept of each form may be kept where its turns come
abbrev pub IsKept : ℕ → Around → FormOrKept → Type 0
IsKept turns v x = PassKept v turns x.tree x.kept

abbrev pub IsRestKept : ℕ → Around → LeftOrKept → Type 0
IsRestKept turns v r = RestKept v turns r.kept

abbrev pub AllKept : Way → ℕ → Known → List FormOrKept → ScopedState → Type 0
AllKept way turns known xs s = Each (λ (x : FormOrKept). FormFits x.kept) xs × AtTurns (IsKept turns) (IsRestKept turns) way known xs s

-- each form can begin where its turns come, with what it has counted by then
abbrev pub CanBegin : Around → FormOrKept → Type 0
CanBegin v x = FormBegins v x.tree × (start v.state ≡ no_counts)

abbrev pub RestCanBegin : Around → LeftOrKept → Type 0
RestCanBegin v r = RestBegins v r.left × (start v.state ≡ r.counts)

abbrev pub AllBegin : Way → Known → List FormOrKept → ScopedState → Type 0
AllBegin way known xs s = AtTurns CanBegin RestCanBegin way known xs s
