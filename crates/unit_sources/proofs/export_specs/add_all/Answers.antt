use Rattle.std.proofs.Common.{ℕ, List, refl, arith}
use Rattle.scheme_model.specs.Program as model
use Rattle.scheme_model.specs.Program.{export_of}
use Rattle.datum_reader.specs.declared.datum.Datum.{Datum}
use Rattle.datum_reader.specs.Views.{datum_of}
use Rattle.datum_reader.specs.Forms.{place}
use Rattle.datum_reader.specs.Looks.{plain}
use Rattle.unit_sources.specs.UnitsRead.{IsExportRead}
use Rattle.unit_sources.proofs.Gathering.{gathered_none, gathered_more, gathered_all, adds_as, numbered, exports_each, export_added}
use Rattle.unit_sources.proofs.export_specs.add_all.Goals as goal

pub loop-datum-init : goal.loop-datum-init
loop-datum-init c = gathered_none IsExportRead (λ k d. export_of c.args.number (plain (place c.args.home) (datum_of d))) c.args.parts.now c.args.specs.now c.args.specs.now refl

pub loop-datum-preserved : goal.loop-datum-preserved
loop-datum-preserved c =
    let at = place c.args.home in
    let d = c.datum-item.result in
    gathered_more IsExportRead (λ k d. export_of c.args.number (plain at (datum_of d))) c.args.parts.now c.loop-datum.datum-index d c.args.specs.now c.loop-datum.specs c.add_export.new.specs (omega arith) c.datum-item.is c.loop-datum.invariant
    (export_added c.loop-datum.specs c.add_export.new.specs c.in_ok-spec.spec (export_of c.args.number (plain at (datum_of d))) c.in_ok-add_export.ensures c.in_ok-spec.ensures)

pub returns : goal.returns
returns c =
    let s = c.args.home in
    let ds = c.args.parts.now in
    let f : ℕ → Datum → List model.ExportSpec = λ k d. export_of c.args.number (plain (place s) (datum_of d)) in
    adds_as IsExportRead c.args.specs.now c.loop-datum.specs (numbered f 0 ds) _ (exports_each c.args.number s 0 ds)
    (gathered_all IsExportRead f ds c.loop-datum.datum-index c.args.specs.now c.loop-datum.specs (omega arith) c.loop-datum.invariant)
