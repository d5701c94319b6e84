use Rattle.std.proofs.Common.{get_or, arith}
use Rattle.std.specs.FinMap.{entries}
use Rattle.program_answers.specs.BytesKept.{drawn_seen}
use Rattle.program_answers.specs.ToldAnswers.{arrow_told}
use Rattle.program_answers.specs.declared.bytes.Drawn.{Drawn}
use Rattle.program_answers.proofs.ListedLaws.{item_in, twice_all, twice_more}
use Rattle.program_answers.proofs.answers.arrows_at.Goals as goal

pub loop-drawn-init : goal.loop-drawn-init
loop-drawn-init c = λ rs source tokens. c.new-arrows.ensures

pub arrow_at-requires-clause-from : goal.arrow_at-requires-clause-from
arrow_at-requires-clause-from c =
    let none : Drawn = record { from = record { document = 0; start = 0; end = 0 }; to = record { document = 0; start = 0; end = 0 } } in
    let i = c.loop-drawn.drawn-index in
    (c.requires (drawn_seen (get_or c.args.all.now i none)) (item_in drawn_seen c.args.all.now i none (omega arith))).0

pub arrow_at-requires-clause-to : goal.arrow_at-requires-clause-to
arrow_at-requires-clause-to c =
    let none : Drawn = record { from = record { document = 0; start = 0; end = 0 }; to = record { document = 0; start = 0; end = 0 } } in
    let i = c.loop-drawn.drawn-index in
    (c.requires (drawn_seen (get_or c.args.all.now i none)) (item_in drawn_seen c.args.all.now i none (omega arith))).1

pub loop-drawn-preserved : goal.loop-drawn-preserved
loop-drawn-preserved c = λ rs source tokens.
    let none : Drawn = record { from = record { document = 0; start = 0; end = 0 }; to = record { document = 0; start = 0; end = 0 } } in
    let i = c.loop-drawn.drawn-index in
    let t = tokens (drawn_seen (get_or c.args.all.now i none)) (item_in drawn_seen c.args.all.now i none (omega arith)) in
    twice_more (arrow_told c.args.asked.now.encoding (entries c.args.asked.now.texts.now)) drawn_seen c.args.all.now i none c.loop-drawn.arrows c.push.new.self c.in_ok-arrow_at.field-0 (omega arith) (c.loop-drawn.invariant rs source tokens)
    c.in_ok-push.ensures.ok (c.in_ok-arrow_at.ensures rs t.0 source t.1)

pub returns : goal.returns
returns c = λ rs source tokens.
    twice_all (arrow_told c.args.asked.now.encoding (entries c.args.asked.now.texts.now)) drawn_seen c.args.all.now c.loop-drawn.drawn-index c.loop-drawn.arrows (omega arith) (c.loop-drawn.invariant rs source tokens)
