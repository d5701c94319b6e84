-- The macro uses that expanding a program counts (R7RS 4.3): those that the forms of each unit began, up to where the work on the unit
-- ended. A unit that is broken before its forms are expanded has none.
use Rattle.std.specs.Prelude.{ℕ, zero, suc, ◌+◌, List, [], ◌∷◌, map, length, Option, Some, None}
use Rattle.scheme_model.specs.Requirements.{Known}
use Rattle.scheme_model.specs.Substitution.{State, Clock}
use Rattle.scheme_model.specs.Includes.{Document}
use Rattle.scheme_model.specs.IncludedUnits.{Placed}
use Rattle.scheme_model.specs.Program.{Prepared, Progress, WholeFault, units_of, prepare, known_in, fault_before, is_ready, first_ready, worked, unit_over, unit_entries, with_entries, form_trees, start_of, progress_before, forms_at_work}

-- what the forms with these numbers have counted
abbrev pub total_of : Clock → List ℕ → ℕ
total_of uses [] = 0
total_of uses (f ∷ fs) = uses f + total_of uses fs

-- a unit that is expanded from a state
abbrev pub unit_uses : Known → Prepared → State → ℕ
unit_uses known p s =
    let ts = form_trees p.number 0 (forms_at_work p) in
    total_of (unit_over known ts s).1.uses (map (λ t. t.0) ts)

abbrev pub uses_by_fault : List Placed → Known → Prepared → Option WholeFault → Progress → ℕ
uses_by_fault all known p (Some fault) g = 0
uses_by_fault all known p None g = unit_uses known p (start_of p g.table g.macros (with_entries p.number (unit_entries all g.results p).0 g.entry))

abbrev pub worked_uses : List Placed → List Prepared → Known → Option Prepared → Progress → ℕ
worked_uses all ps known None g = 0
worked_uses all ps known (Some p) g = uses_by_fault all known p (fault_before all ps p) g

-- one unit after another, in the order of the work on the program
abbrev pub work_uses : List Placed → List Prepared → Known → ℕ → Progress → ℕ
work_uses all ps known zero g = 0
work_uses all ps known (suc n) g =
    let o = first_ready (is_ready all ps g.results) ps in
    worked_uses all ps known o g + work_uses all ps known n (worked all ps known o g)

abbrev pub program_uses : List Document → ℕ
program_uses ds =
    let all = units_of ds in let ps = prepare all 0 all in work_uses all ps (known_in ds) (length ps) progress_before
