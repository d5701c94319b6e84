use Rattle.std.proofs.Common.{◌≡◌, ℕ, ◌-◌, List, length}
use Rattle.scheme_model.specs.Includes.{Naming, names_on}
use Rattle.nesting_laws.specs.Onward.{onward}
use Rattle.text_parts.specs.Marks.{Marks, Rows}
use Rattle.text_parts.proofs.reaches.onward.Given as goal

abbrev pub invariant-loop-step : goal.invariant-loop-step
invariant-loop-step l = (all : Naming) → Rows l.rows all → (ns : List ℕ) × Marks l.marks.items (length all) ns × (names_on all (length l.rows - l._step) ns ≡ onward all l.document)
