-- Renumberings that agree on the numbers of a program (R7RS 5.1): of its units, of the forms of each, and of where included forms are at home.
use Rattle.std.specs.Prelude.{◌≡◌, ◌<◌, ℕ, List}
use Rattle.scheme_model.specs.Declarations.{UnitForm, home_of}
use Rattle.scheme_model.specs.Includes.{Document, max_units}
use Rattle.scheme_model.specs.Program.{Prepared, prepare, prelude_unit, units_of, forms_at_work}
use Rattle.form_laws.specs.Begins.{Each}
use Rattle.renumbering_laws.specs.Renumbering.{Renumbering}
use Rattle.carried_laws.specs.Homes.{At}

-- on a form of a unit
pub record AgreeOnForm (r q : Renumbering) (unit form home_unit home_form : ℕ) : Type 0 where
  pub form_same : r.form unit form ≡ q.form unit form
  pub home_unit_same : r.unit home_unit ≡ q.unit home_unit
  pub home_form_same : r.form home_unit home_form ≡ q.form home_unit home_form

-- of a part no form is at work
pub record AgreeOnUnit (r q : Renumbering) (p : Prepared) : Type 0 where
  pub unit : r.unit p.number ≡ q.unit p.number
  pub forms : (n : ℕ) (f : UnitForm) → At (forms_at_work p) n f → let h = home_of p.number n f in AgreeOnForm r q p.number n h.unit h.form

-- units behind the most aren't worked on
pub record AgreeOn (r q : Renumbering) (ds : List Document) : Type 0 where
  pub prelude : r.unit prelude_unit ≡ q.unit prelude_unit
  pub prelude_form : r.form prelude_unit 0 ≡ q.form prelude_unit 0
  pub units : let all = units_of ds in Each (λ (p : Prepared). p.number < max_units → AgreeOnUnit r q p) (prepare all 0 all)
