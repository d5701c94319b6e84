-- Numbers that follow others wherever these lead to what a program has (R7RS 5.1).
use Rattle.std.specs.Prelude.{◌≡◌, ◌≤◌, ℕ, ◌==◌, nat_lt, List, length, slice_get, Bool, true, false, ◌&&◌, ◌||◌, Option, Some, None, if◌then◌else◌}
use Rattle.std.specs.List.{list_any}
use Rattle.scheme_model.specs.declared.Home.{Home}
use Rattle.scheme_model.specs.Declarations.{UnitForm}
use Rattle.scheme_model.specs.Includes.{Document}
use Rattle.scheme_model.specs.Program.{Prepared, prepare, prelude_unit, units_of, forms_at_work}
use Rattle.renumbering_laws.specs.Renumbering.{Renumbering}

abbrev pub forms_in : Option Prepared → ℕ
forms_in None = 0
forms_in (Some p) = length p.forms

-- how many forms a unit has; the prelude has one
abbrev pub form_count : List Document → (unit : ℕ) → ℕ
form_count ds u = let all = units_of ds in if u == prelude_unit then 1 else forms_in (slice_get (prepare all 0 all) u)

-- ---- numbers of forms that work on a program tells

abbrev pub work_in : Option Prepared → ℕ
work_in None = 0
work_in (Some p) = length (forms_at_work p)

abbrev pub is_at : (unit form : ℕ) → Option Home → Bool
is_at u f None = false
is_at u f (Some h) = h.unit == u && (h.form == f)

-- a form that is worked on is at home there
abbrev pub is_home_in : List Prepared → (unit form : ℕ) → Bool
is_home_in ps u f = list_any (λ (p : Prepared). list_any (λ (g : UnitForm). is_at u f g.home) (forms_at_work p)) ps

-- it is one that is worked on, or where one is at home; none of a part else
abbrev pub is_told : List Document → (unit form : ℕ) → Bool
is_told ds u f =
    let all = units_of ds in let ps = prepare all 0 all in
    nat_lt f (form_count ds u) && (u == prelude_unit || (nat_lt f (work_in (slice_get ps u)) || is_home_in ps u f))

-- what leads to units that there are, and to forms that work tells, is sent alike
pub record Follows (r q : Renumbering) (ds : List Document) : Type 0 where
  pub units : (u : ℕ) → r.unit u ≤ prelude_unit → r.unit u ≡ q.unit u
  pub forms : (u f : ℕ) → r.unit u ≤ prelude_unit → is_told ds (r.unit u) (r.form u f) ≡ true → r.form u f ≡ q.form u f
