-- What two points of the code that don't agree stand for, with the form of a unit that they stand in.
use Rattle.std.specs.Prelude.{◌≡◌, ℕ, List, Bool, Option, Some, None}
use Rattle.scheme_model.specs.declared.Occ.{Occ}
use Rattle.rename_model.specs.SameProgram.{Stretch}
use Rattle.rename_model.specs.Difference as model
use Rattle.syntax_tree.specs.Names.{Names}
use Rattle.program_differences.specs.declared.listed.Apart.{Apart}
use Rattle.alpha_equal.specs.declared.points.Pair.{Pair}
use Rattle.alpha_equal.specs.Points.{IsTold}

-- in a form of a unit, where there are two
abbrev pub at_form : (unit form : ℕ) → Option Pair → Option Apart
at_form unit form None = None
at_form unit form (Some pair) = Some (record { unit = unit; form = form; pair = pair })

pub record IsApart (names : Names) (c : Apart) (a : model.Apart) : Type 0 where
  pub unit : c.unit ≡ a.unit
  pub form : c.form ≡ a.form
  pub old : IsTold names c.unit c.form c.pair.old a.old
  pub new : IsTold names c.unit c.form c.pair.new a.new

abbrev pub AreFound : Names → Option Apart → Option model.Apart → Type 0
AreFound names None None = Unit {0}
AreFound names None (Some a) = ⊥
AreFound names (Some c) None = ⊥
AreFound names (Some c) (Some a) = IsApart names c a

-- the first two among these points
abbrev pub FindsFirst : Names → (Option Occ → Bool) → List Stretch → Option Apart → Type 0
FindsFirst names live ss found = AreFound names found (model.first_among live ss)
