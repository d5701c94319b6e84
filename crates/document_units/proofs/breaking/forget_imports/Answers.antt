use Rattle.std.proofs.Common.{Vec, Global, ◌<◌, ◌+◌, length, take, refl, sym, ◌∙◌, subst, arith}
use Rattle.std.proofs.lemmas.Option.{slice_get_read}
use Rattle.unit_sources.specs.declared.units.UnitSource.{UnitSource}
use Rattle.read_documents.specs.Broken.{Forgets}
use Rattle.document_units.proofs.BrokenSteps.{forgets_none, forgets_step, forgets_over, forgets_end}
use Rattle.document_units.proofs.breaking.forget_imports.Goals as goal
use Rattle.document_units.proofs.breaking.forget_imports.Goals.{then-is_some, else-is_some}

pub loop-place-init : goal.loop-place-init
loop-place-init c = forgets_none c.args.sources.now.items

pub loop-place-preserved : goal.loop-place-preserved
loop-place-preserved c =
    let hs = c.args.heads.now in
    let i = c.loop-place.place in
    let old = c.args.sources.now.items in
    let ss = c.loop-place.sources.items in
    let size = c.loop-place.invariant.size in
    let below : i < length ss = omega (arith, c.args.sources.now.ok.0) in
    elim c.if-is_some.branch [
      | then-is_some w ↦
          subst (λ (v : Vec UnitSource Global). Forgets (take (i + 1) hs) old v.items) (sym w.sources-is)
          (forgets_step hs c.index-heads-place.result i old ss w.index_mut.result.now w.new.result c.loop-place-test.true c.index-heads-place.is c.loop-place.invariant
          (slice_get_read ss (length ss) i w.index_mut.result.now refl below w.index_mut.ensures.value) (sym c.is_some.ensures ∙ w.if-is_some.true) w.new.ensures)
      | else-is_some w ↦
          subst (λ (v : Vec UnitSource Global). Forgets (take (i + 1) hs) old v.items) (sym w.sources-is)
          (forgets_over hs c.index-heads-place.result i old ss c.loop-place-test.true c.index-heads-place.is c.loop-place.invariant (sym c.is_some.ensures ∙ w.if-is_some.false))
    ]

pub returns : goal.returns
returns c = forgets_end c.args.heads.now c.loop-place.place c.args.sources.now.items c.loop-place.sources.items c.loop-place-test.false c.loop-place.invariant
