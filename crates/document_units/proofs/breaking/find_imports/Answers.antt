use Rattle.std.proofs.Common.{ℕ, List, length, refl, ap, ◌∙◌, arith}
use Rattle.std.specs.BTreeMap.{get_by_text}
use Rattle.std.proofs.lemmas.Option.{slice_get_read}
use Rattle.unit_sources.specs.Named.{imported_places}
use Rattle.document_units.proofs.BrokenSteps.{imports_none, imports_step, imports_end}
use Rattle.document_units.proofs.breaking.find_imports.Goals as goal

pub loop-place-init : goal.loop-place-init
loop-place-init c = imports_none (λ (s : List ℕ). get_by_text c.args.firsts.now s) c.args.heads.now.items

pub loop-place-preserved : goal.loop-place-preserved
loop-place-preserved c =
    let find = λ (s : List ℕ). get_by_text c.args.firsts.now s in
    let hs = c.loop-place.heads.items in
    let h = c.index_mut.result.now in
    let size = c.loop-place.invariant.size in
    let at = slice_get_read hs (length hs) c.loop-place.place h refl (omega (arith, c.loop-place.heads.ok.0, c.args.heads.now.ok.0, c.requires.sources)) c.index_mut.ensures.value in
    imports_step find c.args.sources.now c.index-sources-place.result c.loop-place.place c.args.heads.now.items hs h c.in_ok-heads.field-0 c.loop-place-test.true c.index-sources-place.is c.loop-place.invariant at
    (c.in_ok-heads.ensures ∙ ap (imported_places find) c.as_slice.ensures)

pub returns : goal.returns
returns c = imports_end (λ (s : List ℕ). get_by_text c.args.firsts.now s) c.args.sources.now c.loop-place.place c.args.heads.now.items c.loop-place.heads.items c.loop-place-test.false c.loop-place.invariant
