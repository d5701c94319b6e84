use Rattle.std.proofs.Common.{List, sym, ap, ◌∙◌, arith}
use Rattle.std.specs.Prelude.{Bool, ◌&&◌}
use Rattle.text_parts.specs.Marks.{marked}
use Rattle.text_parts.proofs.ReachLaws.{named_here, named_nowhere}
use Rattle.text_parts.proofs.reaches.is_named.Goals as goal

pub returns-then-names_marked : goal.returns-then-names_marked
returns-then-names_marked c = λ all ns h m lt.
    let marks = c.args.marks.now in
    let i = c.loop-document.document in
    named_here all ns c.args.rows.now marks h m c.args.place lt i c.index-rows-document.result (omega arith) c.index-rows-document.is
    (ap (λ (r : List Bool). marked marks i && marked r c.args.place) (sym c.as_slice.ensures) ∙ sym c.names_marked.ensures ∙ c.if-names_marked.true)

pub returns : goal.returns
returns c = λ all ns h m lt.
    named_nowhere all ns c.args.rows.now c.args.marks.now h m c.args.place lt (λ i low there names. c.loop-document.invariant all ns h m lt i (omega arith) there names)
