-- A program of which some forms are kept (R7RS 5): each unit goes on from what the units before it left, and of each some forms are kept.
use Rattle.std.specs.Prelude.{◌≡◌, ℕ, zero, suc, ◌+◌, List, ◌∷◌, map, length, Option, Some, None}
use Rattle.scheme_model.specs.Ident.{Written}
use Rattle.scheme_model.specs.Requirements.{Known}
use Rattle.scheme_model.specs.Entries.{Entry}
use Rattle.scheme_model.specs.Includes.{Document}
use Rattle.scheme_model.specs.IncludedUnits.{Placed}
use Rattle.scheme_model.specs.Program.{known_in, units_of, Prepared, prepare, WholeFault, fault_before, SetResult, broken_result, unit_entries, with_entries, enough_turns, is_ready, first_ready, Program, in_order, forms_at_work}
use Rattle.scheme_model.specs.ScopedProgram.{ScopedProgress, forms_over, scoped_start_of, scoped_start_after, after_unit, scoped_before, scoped_unit_over, scoped_worked}
use Rattle.scheme_model.specs.FormsAlike.{bare_place, bare_kept}
use Rattle.kept_forms.specs.KeptForms.{FormOrKept, form_of, unit_keeping}
use Rattle.kept_forms.specs.Carried.{UnitKept}
use Rattle.kept_forms.specs.Worked.{unit_worked, uses_not_kept}

-- what is kept of the forms of each unit, by its number
abbrev pub Keeping : Type 0
Keeping = ℕ → List FormOrKept

abbrev pub kept_expanded : Keeping → Known → Prepared → List Entry × List SetResult → ScopedProgress → ScopedProgress
kept_expanded keep known p imports g =
    let entry = with_entries p.number imports.0 g.entry in after_unit p imports entry g.results (unit_keeping known enough_turns (keep p.number) (scoped_start_of p g entry))

abbrev pub kept_by_fault : List Placed → Known → Keeping → Prepared → Option WholeFault → ScopedProgress → ScopedProgress
kept_by_fault all known keep p (Some fault) g = record g { results = broken_result p fault ∷ g.results }
kept_by_fault all known keep p None g = kept_expanded keep known p (unit_entries all g.results p) g

abbrev pub kept_worked : List Placed → List Prepared → Known → Keeping → Option Prepared → ScopedProgress → ScopedProgress
kept_worked all ps known keep None g = g
kept_worked all ps known keep (Some p) g = kept_by_fault all known keep p (fault_before all ps p) g

-- one unit after another
abbrev pub kept_work : List Placed → List Prepared → Known → Keeping → ℕ → ScopedProgress → ScopedProgress
kept_work all ps known keep zero g = g
kept_work all ps known keep (suc n) g = kept_work all ps known keep n (kept_worked all ps known keep (first_ready (is_ready all ps g.results) ps) g)

abbrev pub kept_program_with : List Placed → List Prepared → Known → Keeping → Program
kept_program_with all ps known keep =
    let g = kept_work all ps known keep (length ps) scoped_before in record { units = in_order g.results 0 (length ps); table = g.table; entry = g.entry }

abbrev pub kept_program_of : Keeping → List Document → Program
kept_program_of keep ds = kept_program_with (units_of ds) (prepare (units_of ds) 0 (units_of ds)) (known_in ds) keep

-- ---- which may be kept

-- those of a unit that is expanded: its forms may be kept from its start on
abbrev pub UnitKeeps : List Placed → Known → Keeping → Prepared → Option WholeFault → ScopedProgress → Type 0
UnitKeeps all known keep p (Some fault) g = Unit {0}
UnitKeeps all known keep p None g = (map form_of (keep p.number) ≡ forms_over (Written p.number) p.number 0 (forms_at_work p)) × UnitKept known enough_turns (keep p.number) (scoped_start_after all p g)

abbrev pub WorkKeeps : List Placed → List Prepared → Known → Keeping → Option Prepared → ScopedProgress → Type 0
WorkKeeps all ps known keep None g = Unit {0}
WorkKeeps all ps known keep (Some p) g = UnitKeeps all known keep p (fault_before all ps p) g

abbrev pub ProgramKeeps : List Placed → List Prepared → Known → Keeping → ℕ → ScopedProgress → Type 0
ProgramKeeps all ps known keep zero g = Unit {0}
ProgramKeeps all ps known keep (suc n) g =
    let o = first_ready (is_ready all ps g.results) ps in WorkKeeps all ps known keep o g × ProgramKeeps all ps known keep n (kept_worked all ps known keep o g)

-- ---- the uses that are worked

abbrev pub unit_uses : List Placed → Known → Keeping → Prepared → Option WholeFault → ScopedProgress → ℕ
unit_uses all known keep p (Some fault) g = 0
unit_uses all known keep p None g = unit_worked known enough_turns (keep p.number) (scoped_start_after all p g)

abbrev pub work_uses : List Placed → List Prepared → Known → Keeping → Option Prepared → ScopedProgress → ℕ
work_uses all ps known keep None g = 0
work_uses all ps known keep (Some p) g = unit_uses all known keep p (fault_before all ps p) g

-- those of all units
abbrev pub program_worked : List Placed → List Prepared → Known → Keeping → ℕ → ScopedProgress → ℕ
program_worked all ps known keep zero g = 0
program_worked all ps known keep (suc n) g =
    let o = first_ready (is_ready all ps g.results) ps in work_uses all ps known keep o g + program_worked all ps known keep n (kept_worked all ps known keep o g)

-- those that the forms that aren't kept count, where every form is expanded
abbrev pub unit_not_kept : List Placed → Known → Keeping → Prepared → Option WholeFault → ScopedProgress → ℕ
unit_not_kept all known keep p (Some fault) g = 0
unit_not_kept all known keep p None g = uses_not_kept (keep p.number) (scoped_unit_over known p (scoped_start_after all p g)).1

abbrev pub work_not_kept : List Placed → List Prepared → Known → Keeping → Option Prepared → ScopedProgress → ℕ
work_not_kept all ps known keep None g = 0
work_not_kept all ps known keep (Some p) g = unit_not_kept all known keep p (fault_before all ps p) g

abbrev pub program_not_kept : List Placed → List Prepared → Known → Keeping → ℕ → ScopedProgress → ℕ
program_not_kept all ps known keep zero g = 0
program_not_kept all ps known keep (suc n) g =
    let o = first_ready (is_ready all ps g.results) ps in work_not_kept all ps known keep o g + program_not_kept all ps known keep n (scoped_worked all ps known o g)

-- ---- the same

-- but for the times at which bodies were entered
pub record SameProgress (g h : ScopedProgress) : Type 0 where
  pub table : h.table ≡ g.table
  pub macros : map bare_kept h.macros ≡ map bare_kept g.macros
  pub places : map bare_place h.places ≡ map bare_place g.places
  pub definitions : h.definitions ≡ g.definitions
  pub entry : h.entry ≡ g.entry
  pub results : h.results ≡ g.results
