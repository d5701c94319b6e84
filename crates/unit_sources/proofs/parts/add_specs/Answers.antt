use Rattle.std.proofs.Common.{ℕ, List, ◌∷◌, [], refl, arith}
use Rattle.scheme_model.specs.Program as model
use Rattle.scheme_model.specs.Program.{spec_of}
use Rattle.datum_reader.specs.declared.datum.Datum.{Datum}
use Rattle.datum_reader.specs.Views.{datum_of}
use Rattle.unit_sources.specs.SetsRead.{IsImportSpec}
use Rattle.unit_sources.proofs.Gathering.{one_pair, gathered_none, gathered_more, gathered_all, adds_as, numbered, specs_each}
use Rattle.unit_sources.proofs.parts.add_specs.Goals as goal

pub loop-datum-init : goal.loop-datum-init
loop-datum-init c =
    let s = c.args.home in
    gathered_none IsImportSpec (λ k d. spec_of s.unit s.form s.first (datum_of d) ∷ []) c.args.parts.now c.args.specs.now c.args.specs.now refl

pub loop-datum-preserved : goal.loop-datum-preserved
loop-datum-preserved c =
    let s = c.args.home in
    let d = c.datum-item.result in
    gathered_more IsImportSpec (λ k d. spec_of s.unit s.form s.first (datum_of d) ∷ []) c.args.parts.now c.loop-datum.datum-index d c.args.specs.now c.loop-datum.specs c.push.new.self (omega arith) c.datum-item.is c.loop-datum.invariant
    (one_pair IsImportSpec c.loop-datum.specs c.push.new.self c.in_ok-spec.spec (spec_of s.unit s.form s.first (datum_of d)) c.in_ok-push.ensures.ok c.in_ok-spec.ensures)

pub returns : goal.returns
returns c =
    let s = c.args.home in
    let ds = c.args.parts.now in
    let f : ℕ → Datum → List model.ImportSpec = λ k d. spec_of s.unit s.form s.first (datum_of d) ∷ [] in
    adds_as IsImportSpec c.args.specs.now c.loop-datum.specs (numbered f 0 ds) _ (specs_each s.unit s.form s.first 0 ds)
    (gathered_all IsImportSpec f ds c.loop-datum.datum-index c.args.specs.now c.loop-datum.specs (omega arith) c.loop-datum.invariant)
