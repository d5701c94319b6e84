-- A unit of which some forms are kept (R7RS 5.1, 5.3): such a form isn't gone through, nor what it set aside expanded, but what it came
-- to elsewhere is put into its place. All else goes, and ends, as where every form of the unit is expanded.
use Rattle.std.specs.Prelude.{ℕ, List, [], ◌∷◌, ◌++◌, map, Option, Some, None, Result, Ok, Err}
use Rattle.scheme_model.specs.Ident.{Ident}
use Rattle.scheme_model.specs.Trees.{Tree}
use Rattle.scheme_model.specs.Requirements.{Known}
use Rattle.scheme_model.specs.RulesShape.{option_map}
use Rattle.scheme_model.specs.Cores.{Bound, Parts, no_parts, Part}
use Rattle.scheme_model.specs.Steps.{Broken}
use Rattle.scheme_model.specs.Order.{Left, Note, Pass}
use Rattle.scheme_model.specs.Expression.{expand}
use Rattle.scheme_model.specs.UnitExpansion.{Formed, Work, ◌then◌, going, unless_over, before_parts, form_parts}
use Rattle.scheme_model.specs.Substitution.{definition_count}
use Rattle.scheme_model.specs.ScopedExpansion.{FramedIdent, ScopedState}
use Rattle.scheme_model.specs.CountedExpansion.{counted}
use Rattle.scheme_model.specs.Questions.{Moment, Around}
use Rattle.scheme_model.specs.FormsAlike.{bound_moved, left_with, part_with, or_fault, set_aside, start, again}

-- ---- what is kept

-- of a form that was gone through: what it set aside and its own notes, the moment that it went to, and how many definitions its unit
-- had before it
pub record KeptAside : Type 0 where
  pub pass : Pass Ident FramedIdent
  pub moment : Moment
  pub before : ℕ

-- an item's part, or its fault, and the moment after it
pub record KeptItem : Type 0 where
  pub part : Result Part Broken
  pub moment : Moment

-- of what it set aside, where that was expanded: what it was, how many definitions its unit had before the form by then, what the form had
-- counted when its turn came again, the moment after its macro uses were met, and each item up to the first fault
pub record KeptParts : Type 0 where
  pub left : Left Ident
  pub before : ℕ
  pub begun : Moment
  pub met : Moment
  pub items : List KeptItem

-- of a form; what it set aside may have to be expanded anew
pub record KeptForm : Type 0 where
  pub aside : KeptAside
  pub parts : Option KeptParts

-- a form of a unit with its number, and what is kept of it; or it is to be expanded
pub record FormOrKept : Type 0 where
  pub form : ℕ
  pub tree : Tree Ident
  pub kept : Option KeptForm

abbrev pub form_of : FormOrKept → ℕ × Tree Ident
form_of x = (x.form, x.tree)

-- ---- the forms are gone through

-- a form's turn comes
abbrev pub around_form : Known → ℕ → List (Note FramedIdent) → ScopedState → Around
around_form known form notes s = record { state = (counted known).turn form s; known = known; notes = notes }

-- the unit may have more or fewer definitions before the form by now
abbrev pub moved_to : Around → (before : ℕ) → Bound → Bound
moved_to v n = bound_moved n (definition_count v.state.table v.state.unit)

abbrev pub put_aside : Around → KeptAside → Pass Ident FramedIdent × ScopedState
put_aside v k = (record { notes = k.pass.notes ++ v.notes; left = or_fault (left_with (moved_to v k.before)) k.pass.left }, again v k.moment)

abbrev pub goes_through : Around → ℕ → Tree Ident → Option KeptForm → Pass Ident FramedIdent × ScopedState
goes_through v turns t None = set_aside v turns t
goes_through v turns t (Some k) = put_aside v k.aside

-- what a form has counted and met, and nothing that it has made or found
abbrev pub counts_at : ℕ → ScopedState → Moment
counts_at form s = start (record s { form = form })

-- what is left of a form, with what it has counted by then, and what is kept of the rest
pub record LeftOrKept : Type 0 where
  pub form : ℕ
  pub counts : Moment
  pub left : Result (Left Ident) Broken
  pub kept : Option KeptParts

abbrev pub item_moved : (Bound → Bound) → KeptItem → KeptItem
item_moved f i = record { part = or_fault (part_with f) i.part; moment = i.moment }

abbrev pub kept_moved : (Bound → Bound) → KeptParts → KeptParts
kept_moved f k = record { left = left_with f k.left; before = k.before; begun = k.begun; met = k.met; items = map (item_moved f) k.items }

abbrev pub rest_kept : Around → Option KeptForm → Option KeptParts
rest_kept v None = None
rest_kept v (Some k) = option_map (λ c. kept_moved (moved_to v c.before) c) k.parts

abbrev pub passes_keeping : Known → ℕ → List ℕ → List FormOrKept → List (Note FramedIdent) → Work ScopedState (List LeftOrKept)
passes_keeping known turns fs [] notes s = going [] s
passes_keeping known turns fs (x ∷ xs) notes s =
    let v = around_form known x.form notes s in
    unless_over (counted known) fs (goes_through v turns x.tree x.kept) then λ q t.
    passes_keeping known turns fs xs q.notes t then λ rest. going (record { form = x.form; counts = counts_at x.form t; left = q.left; kept = rest_kept v x.kept } ∷ rest)

-- ---- what they set aside is expanded

-- work may end behind each item
abbrev pub put_items : Around → List ℕ → List KeptItem → Work ScopedState (Result Parts Broken)
put_items v fs [] s = going (Ok no_parts) s
put_items v fs (k ∷ ks) s = unless_over (counted v.known) fs (k.part, again v k.moment) then before_parts (put_items v fs ks)

-- nothing is expanded of a broken form
abbrev pub put_parts : Around → List ℕ → Result (Left Ident) Broken → KeptParts → Option (Result Parts Broken) × ScopedState
put_parts v fs (Err e) k = going (Err e) v.state
put_parts v fs (Ok l) k = put_items v fs k.items (again v k.met)

abbrev pub comes_to : Around → ℕ → List ℕ → Result (Left Ident) Broken → Option KeptParts → Option (Result Parts Broken) × ScopedState
comes_to v turns fs r None = form_parts (counted v.known) (expand (counted v.known) turns) [] fs r v.state
comes_to v turns fs r (Some k) = put_parts v fs r k

abbrev pub finished_keeping : Known → ℕ → List ℕ → List LeftOrKept → Work ScopedState (List Formed)
finished_keeping known turns fs [] s = going [] s
finished_keeping known turns fs (r ∷ rs) s =
    comes_to (around_form known r.form [] s) turns fs r.left r.kept then λ parts t.
    finished_keeping known turns fs rs t then λ rest. going (record { form = r.form; result = parts; counted = (counted known).counted t } ∷ rest)

-- ---- the unit

abbrev pub numbers_of : List FormOrKept → List ℕ
numbers_of xs = map (λ t. t.0) (map form_of xs)

abbrev pub unit_keeping : Known → ℕ → List FormOrKept → Work ScopedState (List Formed)
unit_keeping known turns xs s = passes_keeping known turns (numbers_of xs) xs [] s then finished_keeping known turns (numbers_of xs)
