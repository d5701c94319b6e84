use Rattle.std.proofs.Common.{sym, ◌∙◌}
use Rattle.text_parts.proofs.ReachLaws.{found_marked, found_named}
use Rattle.text_parts.proofs.reaches.is_found.Goals as goal

pub returns-then-is_marked : goal.returns-then-is_marked
returns-then-is_marked c = λ all ns h m lt. found_marked all ns c.args.rows.now c.args.marks.now h m c.args.place lt (sym c.is_marked.ensures ∙ c.if-is_marked.true)

pub returns : goal.returns
returns c = λ all ns h m lt. found_named all ns c.args.rows.now c.args.marks.now h m c.args.place lt c.is_named.result (sym c.is_marked.ensures ∙ c.if-is_marked.false) (c.is_named.ensures all ns h m lt)
