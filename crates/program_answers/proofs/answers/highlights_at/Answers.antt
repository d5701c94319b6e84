use Rattle.std.proofs.Common.{◌<◌, get_or, length, sym, ap, ◌∙◌, subst, arith}
use Rattle.std.specs.FinMap.{entries}
use Rattle.ls_base.specs.declared.answers.Highlight.{Highlight}
use Rattle.scheme_model.specs.Diagnostics.{Bytes}
use Rattle.program_answers.specs.BytesKept.{lit_seen}
use Rattle.read_documents.specs.Listed.{range_of}
use Rattle.program_answers.specs.ToldAnswers.{highlight_told, text_of}
use Rattle.program_answers.specs.declared.bytes.Lit.{Lit}
use Rattle.program_answers.proofs.ListedLaws.{item_in, twice_all, twice_more}
use Rattle.program_answers.proofs.answers.highlights_at.Goals as goal

pub loop-lit-init : goal.loop-lit-init
loop-lit-init c = c.new-lights.ensures

pub range-requires : goal.range-requires
range-requires c =
    let count = length (entries c.args.asked.now.texts.now) in
    let none : Lit = record { bytes = record { document = 0; start = 0; end = 0 }; kind = 0 } in
    let i = c.loop-lit.lit-index in
    subst (λ (b : Bytes). b.document < count) (sym c.at.ensures) (c.requires (lit_seen (get_or c.args.all.now i none)) (item_in lit_seen c.args.all.now i none (omega arith)))

pub loop-lit-preserved : goal.loop-lit-preserved
loop-lit-preserved c =
    let encoding = c.args.asked.now.encoding in
    let ds = entries c.args.asked.now.texts.now in
    let none : Lit = record { bytes = record { document = 0; start = 0; end = 0 }; kind = 0 } in
    let i = c.loop-lit.lit-index in
    let kind = (get_or c.args.all.now i none).kind in
    let light : Highlight = record { range = c.range.result; kind = kind } in
    let told = c.range.ensures ∙ ap (λ (b : Bytes). range_of encoding (text_of ds b.document) b.span.start b.span.end) c.at.ensures in
    twice_more (highlight_told encoding ds) lit_seen c.args.all.now i none c.loop-lit.lights c.push.new.self light (omega arith) c.loop-lit.invariant c.in_ok-push.ensures.ok (λ j. record { range = told j; kind = kind })

pub returns : goal.returns
returns c =
    twice_all (highlight_told c.args.asked.now.encoding (entries c.args.asked.now.texts.now)) lit_seen c.args.all.now c.loop-lit.lit-index c.loop-lit.lights (omega arith) c.loop-lit.invariant
