use Rattle.std.proofs.Common.{List, sym, ap, ◌∙◌, arith}
use Rattle.std.specs.Prelude.{Bool}
use Rattle.text_parts.specs.Marks.{marked}
use Rattle.text_parts.proofs.PartLaws.{by_no_row, named_by_row}
use Rattle.text_parts.proofs.parts.is_named.Goals as goal

pub returns-then-is_marked : goal.returns-then-is_marked
returns-then-is_marked c = λ all h lt.
    named_by_row all c.args.rows.now h c.args.place lt c.loop-row.row-index c.row-item.result (omega arith) c.row-item.is
    (ap (λ (r : List Bool). marked r c.args.place) (sym c.as_slice.ensures) ∙ sym c.is_marked.ensures ∙ c.if-is_marked.true)

pub returns : goal.returns
returns c = λ all h lt. by_no_row all c.args.rows.now h c.args.place lt (λ i low. c.loop-row.invariant all h lt i (omega arith))
