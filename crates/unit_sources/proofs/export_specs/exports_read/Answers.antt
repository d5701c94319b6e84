use Rattle.std.proofs.Common.{ℕ, List, refl, subst, arith}
use Rattle.scheme_model.specs.Program as model
use Rattle.scheme_model.specs.Program.{exports_in}
use Rattle.unit_sources.specs.declared.units.UnitForm.{UnitForm}
use Rattle.unit_sources.specs.UnitsRead.{IsExportRead}
use Rattle.unit_sources.specs.UnitsRead.{form_of, AddsExports}
use Rattle.unit_sources.proofs.Gathering.{gathered_none, gathered_more, gathered_all, from_none, pairs_as, numbered, exports_numbered}
use Rattle.unit_sources.proofs.export_specs.exports_read.Goals as goal

pub loop-place-init : goal.loop-place-init
loop-place-init c = gathered_none IsExportRead (λ k f. exports_in c.args.unit k (form_of f)) c.args.forms.now c.new-specs.result c.new-specs.result refl

pub loop-place-preserved : goal.loop-place-preserved
loop-place-preserved c =
    let u = c.args.unit in
    let f = c.index-forms-place.result in
    gathered_more IsExportRead (λ k f. exports_in u k (form_of f)) c.args.forms.now c.loop-place.place f c.new-specs.result c.loop-place.specs c.add_exports.new.specs (omega arith) c.index-forms-place.is c.loop-place.invariant
    (subst (λ (n : ℕ). AddsExports c.loop-place.specs c.add_exports.new.specs (exports_in u n (form_of f))) c.in_ok-number.ensures c.in_ok-add_exports.ensures)

pub returns : goal.returns
returns c =
    let u = c.args.unit in
    let fs = c.args.forms.now in
    let f : ℕ → UnitForm → List model.ExportSpec = λ k x. exports_in u k (form_of x) in
    pairs_as IsExportRead c.loop-place.specs (numbered f 0 fs) _ (exports_numbered u 0 fs)
    (from_none IsExportRead c.new-specs.result c.loop-place.specs (numbered f 0 fs) c.new-specs.ensures (gathered_all IsExportRead f fs c.loop-place.place c.new-specs.result c.loop-place.specs (omega arith) c.loop-place.invariant))
