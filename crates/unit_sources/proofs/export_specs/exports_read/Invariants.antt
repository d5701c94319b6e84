use Rattle.scheme_model.specs.Program.{exports_in}
use Rattle.unit_sources.specs.UnitsRead.{IsExportRead}
use Rattle.unit_sources.specs.UnitsRead.{form_of}
use Rattle.unit_sources.proofs.Gathering.{GatheredUpTo}
use Rattle.unit_sources.proofs.export_specs.exports_read.Given as goal

abbrev pub invariant-loop-place : goal.invariant-loop-place
invariant-loop-place l = GatheredUpTo IsExportRead (λ k f. exports_in l.unit k (form_of f)) l.forms l.place l.initial.specs l.specs
