use Rattle.std.proofs.Common.{◌≡◌, ◌-◌, ℕ, List, length}
use Rattle.std.specs.Prelude.{Bool, Option, Some}
use Rattle.scheme_model.specs.declared.Occ.{Occ}
use Rattle.scheme_model.specs.ProgramArrows.{program_table}
use Rattle.scheme_model.specs.IncludedUnits.{Placed}
use Rattle.scheme_model.specs.Program.{UnitResult, Program}
use Rattle.scheme_model.specs.Requirements.{LibraryName}
use Rattle.rename_model.specs.SameProgram.{form_stretches}
use Rattle.rename_model.specs.Difference.{first_among}
use Rattle.alpha_equal.specs.Compared.{TellsLive}
use Rattle.program_differences.specs.Both.{BothStand, AreNumbered}
use Rattle.program_differences.proofs.units.forms_apart.Given as goal

-- what is first from a form on is first of all
abbrev pub invariant-loop-form : goal.invariant-loop-form
invariant-loop-form l =
    (text : LibraryName → List ℕ) (uris : List (List ℕ)) (before after : List Placed) (p q : Program) (r s : UnitResult) (is_live : Option Occ → Bool) →
    BothStand text uris before after l.programs p q l.both r s → AreNumbered l.programs p q → TellsLive l.live is_live →
    first_among is_live (form_stretches (program_table p) (program_table q) l.both.place (Some r) (Some s) l.form (length r.unit.forms - l.form))
    ≡ first_among is_live (form_stretches (program_table p) (program_table q) l.both.place (Some r) (Some s) 0 (length r.unit.forms))
