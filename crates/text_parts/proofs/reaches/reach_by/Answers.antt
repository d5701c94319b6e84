use Rattle.std.proofs.Common.{◌∙◌, arith}
use Rattle.text_parts.proofs.ReachLaws.{counted_onward}
use Rattle.text_parts.proofs.reaches.reach_by.Goals as goal

pub returns : goal.returns
returns c = λ all m lt. record {
  circle = c.is_marked-on_circle.ensures ∙ m.told c.args.document lt;
  count = c.mark_count-count.ensures ∙ counted_onward all c.args.document c.args.marks.now (omega arith) m;
}
