-- Which forms of a unit may be kept: each was expanded in other surroundings, in which it could begin, and what it asks has the same
-- answers now that its turn comes.
use Rattle.std.specs.Prelude.{◌≡◌, ℕ, List, [], ◌∷◌, Option, Some, None, Result, Ok, Err}
use Rattle.scheme_model.specs.Ident.{Ident}
use Rattle.scheme_model.specs.Trees.{Tree}
use Rattle.scheme_model.specs.Requirements.{Known}
use Rattle.scheme_model.specs.Cores.{Part}
use Rattle.scheme_model.specs.Steps.{Broken, Step}
use Rattle.scheme_model.specs.Order.{Item, Left, Note, meet_all}
use Rattle.scheme_model.specs.Expression.{expand, item_part}
use Rattle.scheme_model.specs.UnitExpansion.{max_depth, unless_over}
use Rattle.scheme_model.specs.Substitution.{definition_count}
use Rattle.scheme_model.specs.ScopedExpansion.{FramedIdent, ScopedState}
use Rattle.scheme_model.specs.CountedExpansion.{counted}
use Rattle.scheme_model.specs.Questions.{Moment, Around, SameAnswer, Asking, asking}
use Rattle.scheme_model.specs.FormsAlike.{bound_moved, left_with, start, no_questions, set_aside_asking, questions_of_pass, questions_of_left, bare_state, or_fault}
use Rattle.form_laws.specs.Begins.{Each, FormBegins, LeftBegins, RestBegins}
use Rattle.kept_forms.specs.KeptForms.{KeptAside, KeptItem, KeptParts, KeptForm, FormOrKept, around_form, goes_through, LeftOrKept, kept_moved, passes_keeping, comes_to, numbers_of}

-- ---- what is to be kept

-- of a form that is gone through in these surroundings
abbrev pub kept_aside : Around → ℕ → Tree Ident → KeptAside
kept_aside w turns t = let q = set_aside_asking w turns t in record { pass = q.0; moment = q.1.moment; before = definition_count w.state.table w.state.unit }

abbrev pub unless_broken : Result Part Broken → List KeptItem → List KeptItem
unless_broken (Ok p) ks = ks
unless_broken (Err e) ks = []

abbrev pub kept_items : (Item Ident → Step Asking Part) → List (Item Ident) → Asking → List KeptItem
kept_items f [] s = []
kept_items f (i ∷ is) s = let q = f i s in record { part = q.0; moment = q.1.moment } ∷ unless_broken q.0 (kept_items f is q.1)

-- of what it set aside, where that is expanded in these surroundings, and the unit had so many definitions before the form
abbrev pub kept_parts : Around → ℕ → (before : ℕ) → Left Ident → KeptParts
kept_parts w turns n l =
    let s = meet_all (asking w) [] l.uses (no_questions w) in
    record { left = l; before = n; begun = start w.state; met = s.moment; items = kept_items (item_part (expand (asking w) turns) (asking w) max_depth []) l.items s }

-- of the whole form
abbrev pub kept_form : KeptAside → Option KeptParts → KeptForm
kept_form k parts = record { aside = k; parts = parts }

-- ---- forms that may be kept

-- nothing
abbrev pub no_counts : Moment
no_counts = record { locals = 0; uses = 0; nodes = 0; bodies = 0; keywords = []; met = []; table = []; macros = []; places = []; definitions = [] }

-- a form that was gone through in w, where its turn comes in v: it had the same number, and had counted nothing yet
pub record PassStays (w v : Around) (turns : ℕ) (t : Tree Ident) : Type 0 where
  pub unit : v.state.unit ≡ w.state.unit
  pub form : v.state.form ≡ w.state.form
  pub new : start w.state ≡ no_counts
  pub begun : FormBegins w t
  pub answers : Each (SameAnswer w v) (questions_of_pass w turns t)

-- and what it set aside, which was expanded in w
pub record RestStays (w v : Around) (turns : ℕ) (l : Left Ident) : Type 0 where
  pub unit : v.state.unit ≡ w.state.unit
  pub form : v.state.form ≡ w.state.form
  pub begun : LeftBegins w l
  pub answers : Each (SameAnswer w v) (questions_of_left w turns (Ok l))

abbrev pub PassKept : Around → ℕ → Tree Ident → Option KeptForm → Type 0
PassKept v turns t None = Unit {0}
PassKept v turns t (Some k) = (w : Around) × PassStays w v turns t × (k.aside ≡ kept_aside w turns t)

-- it had set aside the same there, but for the numbers of definitions
abbrev pub RestKept : Around → ℕ → Option KeptParts → Type 0
RestKept v turns None = Unit {0}
RestKept v turns (Some k) = (w : Around) × (l : Left Ident) × (from : ℕ) × (to : ℕ) × RestStays w v turns l × (k ≡ kept_moved (bound_moved from to) (kept_parts w turns from l))

-- where its turn came again it had counted what it had when it was gone through, and it had set aside what was expanded
abbrev pub only_counted : Moment → Moment
only_counted m = record m { table = []; macros = []; places = []; definitions = [] }

abbrev pub RestFits : KeptAside → Option KeptParts → Type 0
RestFits a None = Unit {0}
RestFits a (Some k) = (k.begun ≡ only_counted a.moment) × (or_fault (left_with (bound_moved a.before k.before)) a.pass.left ≡ Ok k.left)

abbrev pub FormFits : Option KeptForm → Type 0
FormFits None = Unit {0}
FormFits (Some k) = RestFits k.aside k.parts

-- ---- along the unit

-- P holds of where work went to, unless it ended
abbrev pub Onwards : {S X : Type 0} → (X → S → Type 0) → Option X × S → Type 0
Onwards P (None, s) = Unit {0}
Onwards P (Some x, s) = P x s

abbrev pub PassesKept : Known → ℕ → List ℕ → List FormOrKept → List (Note FramedIdent) → ScopedState → Type 0
PassesKept known turns fs [] notes s = Unit {0}
PassesKept known turns fs (x ∷ xs) notes s =
    let v = around_form known x.form notes s in
    PassKept v turns x.tree x.kept × Onwards (λ q t. PassesKept known turns fs xs q.notes t) (unless_over (counted known) fs (goes_through v turns x.tree x.kept))

abbrev pub RestsKept : Known → ℕ → List ℕ → List LeftOrKept → ScopedState → Type 0
RestsKept known turns fs [] s = Unit {0}
RestsKept known turns fs (r ∷ rs) s =
    let v = around_form known r.form [] s in RestKept v turns r.kept × Onwards (λ p t. RestsKept known turns fs rs t) (comes_to v turns fs r.left r.kept)

abbrev pub UnitKept : Known → ℕ → List FormOrKept → ScopedState → Type 0
UnitKept known turns xs s =
    Each (λ (x : FormOrKept). FormFits x.kept) xs × PassesKept known turns (numbers_of xs) xs [] s × Onwards (λ rs t. RestsKept known turns (numbers_of xs) rs t) (passes_keeping known turns (numbers_of xs) xs [] s)

-- ---- forms that begin

-- each form can begin where its turn comes, and has counted nothing yet; so what it comes to there may be kept
abbrev pub PassesBegin : Known → ℕ → List ℕ → List FormOrKept → List (Note FramedIdent) → ScopedState → Type 0
PassesBegin known turns fs [] notes s = Unit {0}
PassesBegin known turns fs (x ∷ xs) notes s =
    let v = around_form known x.form notes s in
    FormBegins v x.tree × (start v.state ≡ no_counts) × Onwards (λ q t. PassesBegin known turns fs xs q.notes t) (unless_over (counted known) fs (goes_through v turns x.tree x.kept))

abbrev pub RestsBegin : Known → ℕ → List ℕ → List LeftOrKept → ScopedState → Type 0
RestsBegin known turns fs [] s = Unit {0}
RestsBegin known turns fs (r ∷ rs) s =
    let v = around_form known r.form [] s in RestBegins v r.left × (start v.state ≡ r.counts) × Onwards (λ p t. RestsBegin known turns fs rs t) (comes_to v turns fs r.left r.kept)

abbrev pub UnitBegins : Known → ℕ → List FormOrKept → ScopedState → Type 0
UnitBegins known turns xs s =
    PassesBegin known turns (numbers_of xs) xs [] s × Onwards (λ rs t. RestsBegin known turns (numbers_of xs) rs t) (passes_keeping known turns (numbers_of xs) xs [] s)

-- ---- the same work

-- it comes to the same and goes to the same state, but for the times at which bodies were entered; or it ends there in both
pub record SameWork {X : Type 0} (q m : Option X × ScopedState) : Type 0 where
  pub result : m.0 ≡ q.0
  pub state : bare_state m.1 ≡ bare_state q.1
