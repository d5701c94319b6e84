-- A unit of which some forms are kept, and what is local is forgotten behind each turn, where a definition goes through the notes that speak
-- of its identifier alone (R7RS 5.1, 5.3).
use Rattle.std.specs.Prelude.{ℕ, List, [], Option, Some, None, Result}
use Rattle.scheme_model.specs.Ident.{Ident}
use Rattle.scheme_model.specs.Trees.{Tree}
use Rattle.scheme_model.specs.Cores.{Parts}
use Rattle.scheme_model.specs.Steps.{Broken}
use Rattle.scheme_model.specs.Order.{Left, Pass, run}
use Rattle.scheme_model.specs.Expression.{expand}
use Rattle.scheme_model.specs.UnitExpansion.{one_form, form_parts}
use Rattle.scheme_model.specs.ScopedExpansion.{FramedIdent, ScopedState}
use Rattle.scheme_model.specs.Questions.{Around}
use Rattle.unit_scopes.specs.Searched.{searched}
use Rattle.kept_forms.specs.KeptForms.{KeptForm, KeptParts, put_aside, put_parts}
use Rattle.forgotten_locals.specs.Outside.{forgotten}
use Rattle.forgotten_locals.specs.Ways.{Way}

-- a turn comes: what is kept is put into its place
abbrev pub first_searched : Around → ℕ → Tree Ident → Option KeptForm → Pass Ident FramedIdent × ScopedState
first_searched v turns t None = run (searched v.known) turns [] (one_form t v.notes) v.state
first_searched v turns t (Some k) = put_aside v k.aside

abbrev pub second_searched : Around → ℕ → List ℕ → Result (Left Ident) Broken → Option KeptParts → Option (Result Parts Broken) × ScopedState
second_searched v turns fs r None = form_parts (searched v.known) (expand (searched v.known) turns) [] fs r v.state
second_searched v turns fs r (Some c) = put_parts v fs r c

abbrev pub going_on : ℕ → Way
going_on turns = record { first = λ v t k. forgotten (first_searched v turns t k); second = λ fs v r k. forgotten (second_searched v turns fs r k) }
