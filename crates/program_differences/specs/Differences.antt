-- What plans and differences of the code stand for.
use Rattle.std.specs.Prelude.{◌≡◌, ℕ, Option, Some, None}
use Rattle.rename_model.specs.SameProgram as same
use Rattle.rename_model.specs.Difference as model
use Rattle.program_differences.specs.declared.plan.Plan.{Plan}
use Rattle.program_differences.specs.declared.plan.Side.{Side}
use Rattle.program_differences.specs.declared.plan.Side.TheVariants as side
use Rattle.program_differences.specs.declared.plan.Difference.{Difference}
use Rattle.program_differences.specs.Exported.{changes_as}

abbrev pub plan_as : Plan → same.Plan
plan_as p = record { members = p.class; exports = changes_as p.exports }

abbrev pub kind_number : model.Kind → ℕ
kind_number model.IsCaptured = 1
kind_number model.IsShadowed = 2
kind_number model.IsQuoted = 3
kind_number model.IsTemplate = 4
kind_number model.IsExport = 5
kind_number model.IsStructure = 6
kind_number model.IsBroken = 7

abbrev pub side_as : Side → model.Side
side_as (side.Binder o) = model.AtBinder o
side_as (side.Standard s) = model.OfStandard s
side_as (side.Unbound s) = model.OfUnbound s
side_as (side.Symbol s) = model.OfSymbol s
side_as side.Nothing = model.OfNothing

pub record IsDifference (c : Difference) (d : model.Difference) : Type 0 where
  pub kind : c.kind ≡ kind_number d.kind
  pub unit : c.unit ≡ d.unit
  pub form : c.form ≡ d.form
  pub place : c.occ ≡ d.occ
  pub before : side_as c.before ≡ d.before
  pub after : side_as c.after ≡ d.after

abbrev pub AreOne : Option Difference → Option model.Difference → Type 0
AreOne None None = Unit {0}
AreOne None (Some d) = ⊥
AreOne (Some c) None = ⊥
AreOne (Some c) (Some d) = IsDifference c d
