-- The units in their turns where some are broken, and what is expanded by then (R7RS 5.6).
use Rattle.std.specs.Prelude.{ℕ, List, [], map, take, drop, length, slice_get, Option, Some, None}
use Rattle.std.specs.List.{fold}
use Rattle.scheme_model.specs.Requirements.{Known}
use Rattle.scheme_model.specs.Includes.{max_units}
use Rattle.scheme_model.specs.IncludedUnits.{Placed}
use Rattle.scheme_model.specs.Program.{Prepared, prepare, WholeFault, TooMany, fault_before, UnitResult, broken_result, Progress, worked, progress_before}
use Rattle.scheme_model.specs.ScopedProgram.{ScopedProgress, scoped_worked, scoped_before}
use Rattle.import_sets.specs.InTurn.{in_turn}

-- ---- turns

-- a unit that is broken before its forms are expanded waits for no other
abbrev pub waits_if : Option WholeFault → Prepared → Prepared
waits_if None p = p
waits_if (Some f) p = record p { imports = [] }

abbrev pub waits : List Placed → Prepared → Prepared
waits all p = waits_if (fault_before all (prepare all 0 all) p) p

-- the units that aren't too many, each with the places of those that it waits for
abbrev pub waiting : List Placed → List Prepared
waiting all = map (waits all) (take max_units (prepare all 0 all))

abbrev pub turns : List Placed → List ℕ
turns all = in_turn (waiting all) (length (waiting all)) []

-- ---- what is expanded

-- the unit at a place is worked on
abbrev pub by_number : List Placed → Known → Progress → ℕ → Progress
by_number all known g n = worked all (prepare all 0 all) known (slice_get (prepare all 0 all) n) g

abbrev pub scoped_by_number : List Placed → Known → ScopedProgress → ℕ → ScopedProgress
scoped_by_number all known g n = scoped_worked all (prepare all 0 all) known (slice_get (prepare all 0 all) n) g

-- after the units at these places
abbrev pub expanded_at : List Placed → Known → List ℕ → Progress
expanded_at all known places = fold (by_number all known) progress_before places

abbrev pub scoped_at : List Placed → Known → List ℕ → ScopedProgress
scoped_at all known places = fold (scoped_by_number all known) scoped_before places

-- what the units come to that are too many
abbrev pub left_out : List Prepared → List UnitResult
left_out ps = map (λ (p : Prepared). broken_result p TooMany) (drop max_units ps)
