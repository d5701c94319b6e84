use Rattle.scheme_model.specs.Program.{specs_in}
use Rattle.unit_sources.specs.SetsRead.{IsImportSpec}
use Rattle.unit_sources.specs.UnitsRead.{form_of}
use Rattle.unit_sources.proofs.Gathering.{GatheredUpTo}
use Rattle.unit_sources.proofs.parts.imports_of.Given as goal

abbrev pub invariant-loop-place : goal.invariant-loop-place
invariant-loop-place l = GatheredUpTo IsImportSpec (λ k f. specs_in l.unit k (form_of f)) l.forms l.place l.initial.specs l.specs
