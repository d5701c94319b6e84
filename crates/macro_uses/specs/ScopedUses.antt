-- The macro uses that expanding a program by scopes counts (R7RS 4.3).
use Rattle.std.specs.Prelude.{ℕ, zero, suc, ◌+◌, List, [], ◌∷◌, map, length, Option, Some, None}
use Rattle.scheme_model.specs.Ident.{Written}
use Rattle.scheme_model.specs.Requirements.{Known}
use Rattle.scheme_model.specs.ScopedExpansion.{ScopedState}
use Rattle.scheme_model.specs.Includes.{Document}
use Rattle.scheme_model.specs.IncludedUnits.{Placed}
use Rattle.scheme_model.specs.Program.{Prepared, WholeFault, units_of, prepare, known_in, fault_before, is_ready, first_ready, forms_at_work}
use Rattle.scheme_model.specs.ScopedProgram.{ScopedProgress, forms_over, scoped_unit_over, scoped_start_after, scoped_worked, scoped_before}
use Rattle.macro_uses.specs.MacroUses.{total_of}

-- the numbers of the forms of a unit that are expanded
abbrev pub form_numbers : Prepared → List ℕ
form_numbers p = map (λ t. t.0) (forms_over (Written p.number) p.number 0 (forms_at_work p))

abbrev pub scoped_unit_uses : Known → Prepared → ScopedState → ℕ
scoped_unit_uses known p s = total_of (scoped_unit_over known p s).1.uses (form_numbers p)

abbrev pub scoped_uses_by_fault : List Placed → Known → Prepared → Option WholeFault → ScopedProgress → ℕ
scoped_uses_by_fault all known p (Some fault) g = 0
scoped_uses_by_fault all known p None g = scoped_unit_uses known p (scoped_start_after all p g)

abbrev pub scoped_worked_uses : List Placed → List Prepared → Known → Option Prepared → ScopedProgress → ℕ
scoped_worked_uses all ps known None g = 0
scoped_worked_uses all ps known (Some p) g = scoped_uses_by_fault all known p (fault_before all ps p) g

abbrev pub scoped_work_uses : List Placed → List Prepared → Known → ℕ → ScopedProgress → ℕ
scoped_work_uses all ps known zero g = 0
scoped_work_uses all ps known (suc n) g =
    let o = first_ready (is_ready all ps g.results) ps in
    scoped_worked_uses all ps known o g + scoped_work_uses all ps known n (scoped_worked all ps known o g)

abbrev pub scoped_program_uses : List Document → ℕ
scoped_program_uses ds =
    let all = units_of ds in let ps = prepare all 0 all in scoped_work_uses all ps (known_in ds) (length ps) scoped_before
