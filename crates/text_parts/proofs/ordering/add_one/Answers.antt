use Rattle.std.proofs.Common.{ℕ, ◌+◌, List, sym, ◌∙◌, subst}
use Rattle.text_parts.specs.Parts.{HaveCome}
use Rattle.text_parts.proofs.OrderLaws.{due_more, due_past}
use Rattle.text_parts.proofs.ordering.add_one.Goals as goal

pub returns-then-not-is_due : goal.returns-then-not-is_due
returns-then-not-is_due c = λ ds p r h. due_past ds c.args.order.now.items c.args.count c.args.place c.args.part c.args.reach p r h (sym c.is_due.ensures ∙ c.if-not-is_due.true)

pub returns : goal.returns
returns c = λ ds p r h.
    subst (λ (xs : List ℕ). HaveCome ds xs c.args.count (c.args.place + 1)) (sym c.in_ok-push.ensures.items)
    (due_more ds c.args.order.now.items c.args.count c.args.place c.args.part c.args.reach p r h (sym c.is_due.ensures ∙ c.if-not-is_due.false))
