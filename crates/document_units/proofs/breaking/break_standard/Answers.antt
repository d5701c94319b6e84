use Rattle.std.proofs.Common.{◌<◌, length, refl, sym, ap, ◌∙◌, Bool, arith}
use Rattle.std.proofs.lemmas.Option.{slice_get_read, same_Some}
use Rattle.read_documents.specs.declared.heads.Head.{Head}
use Rattle.read_documents.specs.declared.heads.WholeFault.TheVariants as fault
use Rattle.read_documents.specs.Broken.{broken_if, has_standard}
use Rattle.document_units.proofs.BrokenSteps.{standard_none, standard_more, standard_all}
use Rattle.document_units.proofs.breaking.break_standard.Goals as goal

pub loop-place-init : goal.loop-place-init
loop-place-init c = standard_none c.args.heads.now.items

pub loop-place-preserved : goal.loop-place-preserved
loop-place-preserved c =
    let hs = c.loop-place.heads.items in
    let p = c.loop-place.place in
    let h = c.index_mut.result.now in
    let size = c.loop-place.invariant.size in
    let below : p < length hs = omega (arith, c.loop-place.heads.ok.0, c.args.heads.now.ok.0) in
    let at = slice_get_read hs (length hs) p h refl below c.index_mut.ensures.value in
    let seen = slice_get_read hs (length hs) p c.index.result.now refl below c.index.ensures in
    let same = same_Some c.index.result.now h (sym seen ∙ at) in
    standard_more p c.args.heads.now.items hs h c.break_if.new.head c.loop-place.invariant at
    (c.break_if.ensures ∙ ap (λ (b : Bool). broken_if b fault.DefinedTwice h) (c.in_ok-breaks.ensures ∙ ap (λ (g : Head). has_standard g.name) same))

pub returns : goal.returns
returns c =
    let size = c.loop-place.invariant.size in
    standard_all c.loop-place.place c.args.heads.now.items c.loop-place.heads.items c.loop-place.invariant (omega (arith, c.args.heads.now.ok.0))
