use Rattle.std.proofs.Common.{◌≡◌, ℕ, List, drop}
use Rattle.std.specs.Prelude.{Bool, Option}
use Rattle.std.specs.List.{flat_map}
use Rattle.scheme_model.specs.declared.Occ.{Occ}
use Rattle.scheme_model.specs.IncludedUnits.{Placed}
use Rattle.scheme_model.specs.Program.{Program, result_at}
use Rattle.scheme_model.specs.Requirements.{LibraryName}
use Rattle.rename_model.specs.SameProgram.{unit_stretches}
use Rattle.rename_model.specs.Difference.{first_among}
use Rattle.alpha_equal.specs.Compared.{TellsLive}
use Rattle.program_differences.specs.Both.{ProgramsStand, AreNumbered}
use Rattle.program_differences.specs.Exported.{changes_as, ExportsAreGiven}
use Rattle.program_differences.proofs.units.units_apart.Given as goal

-- what is first from a place on is first of all
abbrev pub invariant-loop-place : goal.invariant-loop-place
invariant-loop-place l =
    (text : LibraryName → List ℕ) (uris : List (List ℕ)) (before after : List Placed) (p q : Program) (is_live : Option Occ → Bool) →
    ProgramsStand text uris before after l.programs p q → AreNumbered l.programs p q → ExportsAreGiven p → ExportsAreGiven q → TellsLive l.live is_live →
    first_among is_live (flat_map (λ unit. unit_stretches p q (changes_as l.changes) unit (result_at p.units unit) (result_at q.units unit)) (drop l.place-index l.reach))
    ≡ first_among is_live (flat_map (λ unit. unit_stretches p q (changes_as l.changes) unit (result_at p.units unit) (result_at q.units unit)) l.reach)
