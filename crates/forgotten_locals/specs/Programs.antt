-- A program of which some forms are kept, where what is local is forgotten behind each form's turn (R7RS 5): a unit goes on from what is
-- outside of the forms of the units before it.
use Rattle.std.specs.Prelude.{◌≡◌, ℕ, zero, suc, ◌+◌, List, [], ◌∷◌, map, length, Option, Some, None}
use Rattle.scheme_model.specs.Ident.{Written}
use Rattle.scheme_model.specs.Requirements.{Known}
use Rattle.scheme_model.specs.Entries.{Entry}
use Rattle.scheme_model.specs.Includes.{Document}
use Rattle.scheme_model.specs.IncludedUnits.{Placed}
use Rattle.scheme_model.specs.ScopedExpansion.{ScopedState}
use Rattle.scheme_model.specs.Program.{known_in, units_of, Prepared, prepare, WholeFault, fault_before, SetResult, broken_result, unit_entries, with_entries, enough_turns, is_ready, first_ready, Program, in_order, forms_at_work}
use Rattle.scheme_model.specs.ScopedProgram.{ScopedProgress, forms_over, scoped_start_of, scoped_start_after, after_unit, scoped_before}
use Rattle.scheme_model.specs.FormsAlike.{bare_kept}
use Rattle.kept_forms.specs.KeptForms.{form_of}
use Rattle.kept_forms.specs.KeptPrograms.{Keeping}
use Rattle.kept_forms.specs.Worked.{uses_not_kept}
use Rattle.forgotten_locals.specs.Outside.{macros_outside}
use Rattle.forgotten_locals.specs.Ways.{Way, forgetting, unit_by, AllKept}

abbrev pub forgetting_expanded : Keeping → Known → Prepared → List Entry × List SetResult → ScopedProgress → ScopedProgress
forgetting_expanded keep known p imports g =
    let entry = with_entries p.number imports.0 g.entry in after_unit p imports entry g.results (unit_by (forgetting enough_turns) known (keep p.number) (scoped_start_of p g entry))

abbrev pub forgetting_by_fault : List Placed → Known → Keeping → Prepared → Option WholeFault → ScopedProgress → ScopedProgress
forgetting_by_fault all known keep p (Some fault) g = record g { results = broken_result p fault ∷ g.results }
forgetting_by_fault all known keep p None g = forgetting_expanded keep known p (unit_entries all g.results p) g

abbrev pub forgetting_worked : List Placed → List Prepared → Known → Keeping → Option Prepared → ScopedProgress → ScopedProgress
forgetting_worked all ps known keep None g = g
forgetting_worked all ps known keep (Some p) g = forgetting_by_fault all known keep p (fault_before all ps p) g

-- one unit after another
abbrev pub forgetting_work : List Placed → List Prepared → Known → Keeping → ℕ → ScopedProgress → ScopedProgress
forgetting_work all ps known keep zero g = g
forgetting_work all ps known keep (suc n) g = forgetting_work all ps known keep n (forgetting_worked all ps known keep (first_ready (is_ready all ps g.results) ps) g)

abbrev pub forgetting_program_with : List Placed → List Prepared → Known → Keeping → Program
forgetting_program_with all ps known keep =
    let g = forgetting_work all ps known keep (length ps) scoped_before in record { units = in_order g.results 0 (length ps); table = g.table; entry = g.entry }

abbrev pub forgetting_program_of : Keeping → List Document → Program
forgetting_program_of keep ds = forgetting_program_with (units_of ds) (prepare (units_of ds) 0 (units_of ds)) (known_in ds) keep

-- ---- at each unit

-- one unit is worked on after another by these steps
abbrev pub Steps : Type 0
Steps = Option Prepared → ScopedProgress → ScopedProgress

abbrev pub AtStart : List Placed → (Prepared → ScopedState → Type 0) → Prepared → Option WholeFault → ScopedProgress → Type 0
AtStart all P p (Some fault) g = Unit {0}
AtStart all P p None g = P p (scoped_start_after all p g)

abbrev pub AtUnit : List Placed → List Prepared → (Prepared → ScopedState → Type 0) → Option Prepared → ScopedProgress → Type 0
AtUnit all ps P None g = Unit {0}
AtUnit all ps P (Some p) g = AtStart all P p (fault_before all ps p) g

-- P holds of each unit that is expanded, and of the state in which it begins
abbrev pub AtUnits : List Placed → List Prepared → (Prepared → ScopedState → Type 0) → Steps → ℕ → ScopedProgress → Type 0
AtUnits all ps P step zero g = Unit {0}
AtUnits all ps P step (suc n) g = let o = first_ready (is_ready all ps g.results) ps in AtUnit all ps P o g × AtUnits all ps P step n (step o g)

-- its forms are those that are at work, and what is kept of them may be kept where their turns come
abbrev pub UnitIsKept : Way → Known → Keeping → Prepared → ScopedState → Type 0
UnitIsKept way known keep p s = (map form_of (keep p.number) ≡ forms_over (Written p.number) p.number 0 (forms_at_work p)) × AllKept way enough_turns known (keep p.number) s

-- ---- the uses of the forms that aren't kept

abbrev pub start_sum : List Placed → (Prepared → ScopedState → ℕ) → Prepared → Option WholeFault → ScopedProgress → ℕ
start_sum all f p (Some fault) g = 0
start_sum all f p None g = f p (scoped_start_after all p g)

abbrev pub unit_sum : List Placed → List Prepared → (Prepared → ScopedState → ℕ) → Option Prepared → ScopedProgress → ℕ
unit_sum all ps f None g = 0
unit_sum all ps f (Some p) g = start_sum all f p (fault_before all ps p) g

abbrev pub units_sum : List Placed → List Prepared → (Prepared → ScopedState → ℕ) → Steps → ℕ → ScopedProgress → ℕ
units_sum all ps f step zero g = 0
units_sum all ps f step (suc n) g = let o = first_ready (is_ready all ps g.results) ps in unit_sum all ps f o g + units_sum all ps f step n (step o g)

abbrev pub uses_forgetting : Known → Keeping → Prepared → ScopedState → ℕ
uses_forgetting known keep p s = uses_not_kept (keep p.number) (unit_by (forgetting enough_turns) known (keep p.number) s).1

-- ---- the same outside

-- h is g outside of all forms, but for the times at which bodies were entered
pub record IsProgressOutside (g h : ScopedProgress) : Type 0 where
  pub table : h.table ≡ g.table
  pub macros : map bare_kept h.macros ≡ map bare_kept (macros_outside g.macros)
  pub places : h.places ≡ []
  pub definitions : h.definitions ≡ []
  pub entry : h.entry ≡ g.entry
  pub results : h.results ≡ g.results
