use Rattle.std.proofs.Common.{◌≡◌, ◌++◌, ℕ, drop}
use Rattle.core_tree.specs.Units.{set_forms}
use Rattle.unit_sources.specs.UnitsRead.{forms_of}
use Rattle.unit_imports.proofs.entries.set_forms.Given as goal

-- the sets so far, and those of the forms that are left
abbrev pub invariant-loop-place : goal.invariant-loop-place
invariant-loop-place l = (unit : ℕ) → l.all.items ++ set_forms unit l.place (drop l.place (forms_of l.forms)) ≡ set_forms unit 0 (forms_of l.forms)
