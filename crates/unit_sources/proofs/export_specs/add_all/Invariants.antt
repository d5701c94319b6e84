use Rattle.scheme_model.specs.Program.{export_of}
use Rattle.datum_reader.specs.Views.{datum_of}
use Rattle.datum_reader.specs.Forms.{place}
use Rattle.datum_reader.specs.Looks.{plain}
use Rattle.unit_sources.specs.UnitsRead.{IsExportRead}
use Rattle.unit_sources.proofs.Gathering.{GatheredUpTo}
use Rattle.unit_sources.proofs.export_specs.add_all.Given as goal

abbrev pub invariant-loop-datum : goal.invariant-loop-datum
invariant-loop-datum l = GatheredUpTo IsExportRead (λ k d. export_of l.number (plain (place l.home) (datum_of d))) l.parts l.datum-index l.initial.specs l.specs
