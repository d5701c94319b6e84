use Rattle.std.proofs.Common.{ℕ, List, refl, subst, arith}
use Rattle.scheme_model.specs.Program as model
use Rattle.scheme_model.specs.Program.{specs_in}
use Rattle.unit_sources.specs.declared.units.UnitForm.{UnitForm}
use Rattle.unit_sources.specs.SetsRead.{IsImportSpec}
use Rattle.unit_sources.specs.UnitsRead.{form_of, AddsSpecs}
use Rattle.unit_sources.proofs.Gathering.{gathered_none, gathered_more, gathered_all, from_none, pairs_as, numbered, specs_numbered}
use Rattle.unit_sources.proofs.parts.imports_of.Goals as goal

pub loop-place-init : goal.loop-place-init
loop-place-init c = gathered_none IsImportSpec (λ k f. specs_in c.args.unit k (form_of f)) c.args.forms.now c.new-specs.result c.new-specs.result refl

pub loop-place-preserved : goal.loop-place-preserved
loop-place-preserved c =
    let u = c.args.unit in
    let f = c.index-forms-place.result in
    gathered_more IsImportSpec (λ k f. specs_in u k (form_of f)) c.args.forms.now c.loop-place.place f c.new-specs.result c.loop-place.specs c.add_imports.new.specs (omega arith) c.index-forms-place.is c.loop-place.invariant
    (subst (λ (n : ℕ). AddsSpecs c.loop-place.specs c.add_imports.new.specs (specs_in u n (form_of f))) c.in_ok-number.ensures c.in_ok-add_imports.ensures)

pub returns : goal.returns
returns c =
    let u = c.args.unit in
    let fs = c.args.forms.now in
    let f : ℕ → UnitForm → List model.ImportSpec = λ k x. specs_in u k (form_of x) in
    pairs_as IsImportSpec c.loop-place.specs (numbered f 0 fs) _ (specs_numbered u 0 fs)
    (from_none IsImportSpec c.new-specs.result c.loop-place.specs (numbered f 0 fs) c.new-specs.ensures (gathered_all IsImportSpec f fs c.loop-place.place c.new-specs.result c.loop-place.specs (omega arith) c.loop-place.invariant))
