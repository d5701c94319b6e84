use Rattle.std.proofs.Common.{sym, ◌∙◌}
use Rattle.text_parts.proofs.PartLaws.{circle_no_part, named_part}
use Rattle.text_parts.proofs.parts.is_part.Goals as goal

pub returns-then-reach : goal.returns-then-reach
returns-then-reach c = λ all h lt r. circle_no_part all c.args.place c.args.reach.on_circle r.circle c.if-reach.true

pub returns : goal.returns
returns c = λ all h lt r. named_part all c.args.place c.args.reach.on_circle c.is_named.result r.circle c.if-reach.false (c.is_named.ensures all h lt)
