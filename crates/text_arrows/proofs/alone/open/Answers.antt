use Rattle.text_arrows.proofs.AloneLaws.{counted_alone, holds_alone}
use Rattle.text_arrows.proofs.alone.open.Goals as goal

pub returns-clause-holds : goal.returns-clause-holds
returns-clause-holds g c =
    holds_alone c.update.new.self c.args.workspace.now c.in_ok-of.field-0 c.args.text.now c.in_ok-of-2.field-0 c.in_ok-lists.field-0.lists c.utf8.text c.requires.none c.requires.encoding c.requires.short c.in_ok-of.ensures c.in_ok-of-2.ensures
    c.update.ensures.encoding c.in_ok-lists.ensures.texts c.in_ok-lists.ensures.published

pub returns-clause-steps : goal.returns-clause-steps
returns-clause-steps g c = λ r read.
    counted_alone c.update.new.self c.args.workspace.now c.in_ok-of.field-0 c.args.text.now c.in_ok-of-2.field-0 _ _ c.requires.none c.requires.encoding c.requires.short c.in_ok-of.ensures c.in_ok-of-2.ensures
    (returns-clause-holds g c).documents c.in_ok-lists.ensures.steps r read
